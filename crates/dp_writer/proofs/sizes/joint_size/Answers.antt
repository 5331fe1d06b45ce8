use Rattle.std.proofs.Common.{◌≡◌, ◌≤◌, sym, ◌∙◌, arith}
use Rattle.std.specs.Prelude.{None, replicate}
use Rattle.dp_meaning.specs.Limits.{product_past}
use Rattle.dp_meaning.proofs.TextLimits.{counted_product}
use Rattle.dp_model.specs.Limits.{passed_by}
use Rattle.dp_model.proofs.LimitLemmas.{not_passed}
use Rattle.dp_writer.proofs.sizes.joint_size.Goals as goal

pub returns-clause-is : goal.returns-clause-is
returns-clause-is c =
    let kept : passed_by c.args.what c.from.result ≡ None = sym c.in_ok-check.ensures in
    let most = not_passed c.args.what c.from.result kept in
    let few : product_past 256 1 (replicate c.args.agents c.args.size) ≤ 256 =
    omega (arith, most, c.requires, c.from.ensures, c.first_product_past_most-product.ensures) in
    c.first_product_past_most-product.ensures ∙ counted_product 256 (replicate c.args.agents c.args.size) few
