use Rattle.std.proofs.Common.{◌≡◌, ◌<◌, ◌^◌, ℕ, pos, length, get_or}
use Rattle.dp_mdp.proofs.build.powers_of.Given as goal

abbrev pub invariant-loop-steps : goal.invariant-loop-steps
invariant-loop-steps l = record {
  filled : length l.powers.items ≡ l._steps;
  powers : (r : ℕ) → r < l._steps → get_or l.powers.items r (pos 0) ≡ pos (l.step ^ r);
  power : l.power ≡ l.step ^ l._steps;
}
