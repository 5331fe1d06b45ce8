use Rattle.std.proofs.Common.{◌^◌, ◌≤◌, ap, ◌∙◌, arith}
use Rattle.dp_base.proofs.SignificandLaws.{some_tens, tens_up}
use Rattle.dp_meaning.proofs.ReadScales.{chance_parts}
use Rattle.dp_tables.proofs.BlockLemmas.{IsOver, chance_is_over}
use Rattle.dp_tables.proofs.blocks.chance_over.Goals as goal

pub pow-requires : goal.pow-requires
pow-requires c =
    let few = (chance_parts c.args.chance c.requires).0 in
    let digits : c.from.result ≤ 18 = omega arith in
    let most = tens_up c.from.result 18 digits in omega arith

pub nonzero_div-unit : goal.nonzero_div-unit
nonzero_div-unit c = let some = some_tens c.from.result in omega arith

is_over : (c : goal.After-unsigned_abs) → IsOver c.args.scale c.args.chance c.unsigned_abs.result c.pow.result
is_over c = chance_is_over c.args.scale c.args.chance c.unsigned_abs.result c.pow.result c.requires
    c.unsigned_abs.ensures.value
    (c.pow.ensures ∙ ap (λ n. 10 ^ n) c.from.ensures)

pub overflow_cast-result : goal.overflow_cast-result
overflow_cast-result c = let small = (is_over c).small in omega arith

pub overflow_mul-result : goal.overflow_mul-result
overflow_mul-result c = let within = (is_over c).within in let fits = c.ranges.scale in omega arith

pub returns : goal.returns
returns c = (is_over c).value
