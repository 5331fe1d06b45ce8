use Rattle.std.proofs.Common.{ℕ, ℤ, suc, ◌≡◌, ◌*◌, ◌^◌, ◌<◌, ◌≤◌, pos, ap, ◌∙◌, add-one, arith, rules}
use Rattle.std.specs.Int.{w128}
use Rattle.std.proofs.lemmas.Int.{fits_signed_from_abs, to_z_pos}
use Rattle.std.proofs.Math.Facts.{Fits-of_lt}
use Rattle.dp_mdp.proofs.Growth.{next_power, one_more_item, power_small}
use Rattle.dp_mdp.proofs.build.powers_of.Goals as goal

pub overflow_cast-power : goal.overflow_cast-power
overflow_cast-power c =
    let le : c.loop-steps._steps ≤ c.args.horizon = omega arith in
    fits_signed_from_abs w128 (pos c.loop-steps.power) (rw c.loop-steps.invariant.power
    (power_small c.args.step c.loop-steps._steps c.args.horizon c.requires.some le c.requires.small))

pub overflow_mul-power : goal.overflow_mul-power
overflow_mul-power c =
    let le : suc c.loop-steps._steps ≤ c.args.horizon = omega arith in
    let small = power_small c.args.step (suc c.loop-steps._steps)
    c.args.horizon c.requires.some le c.requires.small in
    let next = next_power c.loop-steps.power c.args.step c.loop-steps._steps c.loop-steps.invariant.power in
    Fits-of_lt (let less : c.loop-steps.power * c.args.step < 2 ^ 127 = rw next small in omega arith)

pub loop-steps-preserved : goal.loop-steps-preserved
loop-steps-preserved c =
    let le : c.loop-steps._steps ≤ c.args.horizon = omega arith in
    let small : c.loop-steps.power < 2 ^ 127 = rw c.loop-steps.invariant.power
    (power_small c.args.step c.loop-steps._steps c.args.horizon c.requires.some le c.requires.small) in
    let is = to_z_pos w128 c.loop-steps.power small ∙ ap (λ (n : ℕ). pos n) c.loop-steps.invariant.power in record {
      filled = search rules;
      powers = rw add-one (one_more_item (λ (r : ℕ) (x : ℤ). x ≡ pos (c.args.step ^ r)) c.loop-steps.powers.items
          c.push.new.self.items c.loop-steps._steps _ (pos 0) c.in_ok-push.ensures.items
          c.loop-steps.invariant.filled c.loop-steps.invariant.powers is);
      power = rw add-one (next_power c.loop-steps.power c.args.step c.loop-steps._steps c.loop-steps.invariant.power);
    }
