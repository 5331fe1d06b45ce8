use Rattle.std.proofs.Common.{ℕ, ℤ, ◌<◌, ◌≤◌, ◌^◌, List, length, unsigned_abs, sym, subst, ◌∙◌, arith, rules}
use Rattle.std.specs.Int.{w128}
use Rattle.std.proofs.lemmas.Int.{to_z-of_z}
use mir.Val.{SFits}
use Rattle.dp_base.specs.Sums.{int_sum}
use Rattle.dp_pomdp.specs.Looking.{weighed_part}
use Rattle.dp_pomdp.proofs.WeighedRewards.{part_fits, read_fits, read_is, sum_fits, weighed_is, whole_fits}
use Rattle.dp_pomdp.proofs.step.reward_now.Goals as goal

pub weighed-requires-clause-parts : goal.weighed-requires-clause-parts
weighed-requires-clause-parts g c =
    subst (λ (l : List ℤ). (s : ℕ) → s < length l → unsigned_abs (weighed_part l c.args.weights.now s) < 2 ^ 127)
    (sym c.rewards.ensures)
    (part_fits _ _ _ _ _ c.requires.sizes _ c.requires.action (sym c.requires.mode ∙ c.if-exact.true) _
    c.requires.table)

pub weighed-requires-clause-sums : goal.weighed-requires-clause-sums
weighed-requires-clause-sums g c =
    subst (λ (l : List ℤ). (k : ℕ) → k ≤ length l
    → unsigned_abs (int_sum k (weighed_part l c.args.weights.now)) < 2 ^ 127) (sym c.rewards.ensures)
    (sum_fits _ _ _ _ _ c.requires.sizes _ c.requires.action (sym c.requires.mode ∙ c.if-exact.true) _
    c.requires.table)

pub weighed-requires-clause-whole : goal.weighed-requires-clause-whole
weighed-requires-clause-whole g c =
    let fits : SFits w128 c.power.result = search rules in
    read_fits c.args.weights.now _ _ _ _ c.rewards.ensures (to_z-of_z w128 _ fits ∙ c.power.ensures)
    (whole_fits _ _ _ _ _ c.requires.sizes _ c.requires.action (sym c.requires.mode ∙ c.if-exact.true) _
    c.requires.table _ (le_refl _))
  where
    le_refl : (n : ℕ) → n ≤ n
    le_refl n = omega arith

pub returns-then-exact : goal.returns-then-exact
returns-then-exact g c =
    let fits : SFits w128 c.power.result = search rules in
    let fits-result : SFits w128 c.weighed.result = search rules in
    weighed_is _ _ _ _ _ c.requires.sizes _ c.requires.action (sym c.requires.mode ∙ c.if-exact.true) _
    c.requires.table _
    (read_is c.args.weights.now _ _ _ _ _ c.rewards.ensures (to_z-of_z w128 _ fits ∙ c.power.ensures)
    (to_z-of_z w128 _ fits-result ∙ c.weighed.ensures))
