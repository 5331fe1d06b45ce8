use Rattle.std.proofs.Common.{◌*◌, ◌/◌, ◌^◌, ◌≤◌, sym, ap, subst, ◌∙◌, arith}
use Rattle.std.specs.Prelude.{neg_ℤ, unsigned_abs}
use Rattle.dp_meaning.specs.Cells.{reward_over}
use Rattle.dp_base.proofs.SignificandLaws.{some_tens, tens_up}
use Rattle.dp_meaning.proofs.ReadScales.{reward_parts}
use Rattle.dp_tables.proofs.BlockLemmas.{reward_units, reward_within, reward_is, kept_small, negated}
use Rattle.dp_tables.proofs.blocks.reward_over.Goals as goal

pub pow-requires : goal.pow-requires
pow-requires c =
    let few = (reward_parts c.args.reward c.requires.range).0 in
    let digits : c.from.result ≤ 9 = omega arith in
    let most = tens_up c.from.result 9 digits in omega arith

pub nonzero_div-unit : goal.nonzero_div-unit
nonzero_div-unit c = let some = some_tens c.from.result in omega arith

pub times-over-requires : goal.times-over-requires
times-over-requires c = subst (λ z. unsigned_abs z * (c.args.scale / c.pow.result) ≤ 10 ^ 17)
    (sym (reward_units c.args.reward c.requires.range))
    (reward_within c.args.scale c.args.reward c.pow.result c.requires.scale c.requires.range
    (c.pow.ensures ∙ ap (λ n. 10 ^ n) c.from.ensures))

pub returns-then-cost : goal.returns-then-cost
returns-then-cost c =
    negated c.times-over.result c.times-over.ensures.limit ∙ ap neg_ℤ
    (reward_is c.args.scale c.args.reward c.pow.result c.times-over.result c.requires.range
    (c.pow.ensures ∙ ap (λ n. 10 ^ n) c.from.ensures) c.times-over.ensures.value)
    ∙ ap (λ b. reward_over b c.args.scale c.args.reward) (sym c.if-cost.true)

pub returns-else-cost : goal.returns-else-cost
returns-else-cost c =
    kept_small c.times-over.result c.times-over.ensures.limit
    ∙ reward_is c.args.scale c.args.reward c.pow.result c.times-over.result
    c.requires.range
    (c.pow.ensures ∙ ap (λ n. 10 ^ n) c.from.ensures) c.times-over.ensures.value
    ∙ ap (λ b. reward_over b c.args.scale c.args.reward) (sym c.if-cost.false)
