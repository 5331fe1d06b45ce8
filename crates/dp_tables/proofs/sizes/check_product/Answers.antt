use Rattle.std.proofs.Common.{◌≡◌, map, ap, ◌∙◌}
use Rattle.dp_meaning.specs.Limits.{product_past}
use Rattle.dp_meaning.specs.NameLists.{size_of}
use Rattle.dp_tables.proofs.SizeLemmas.{checked_product}
use Rattle.dp_tables.proofs.sizes.check_product.Goals as goal

product : (c : goal.After-check_size)
    → c.first_product_past.result ≡ product_past 256 1 (map size_of c.args.lists.now)
product c =
    c.first_product_past.ensures
    ∙ ap (λ most. product_past most 1 (map size_of c.args.lists.now)) (c.greatest_allowed.ensures ∙ c.requires)

pub returns-clause-size : goal.returns-clause-size
returns-clause-size c =
    checked_product c.first_product_past.result c.args.lists.now c.check_size.result (product c)
    c.check_size.ensures.size c.check_size.ensures.limit
