use Rattle.std.proofs.Common.{◌≡◌, ◌<◌, ℕ, length, get_or, pos}
use Rattle.dp_mdp.specs.StepRewards.{state_reward}
use Rattle.dp_mdp.proofs.build.action_rewards.Given as goal

abbrev pub invariant-loop-state : goal.invariant-loop-state
invariant-loop-state g l = record {
  filled : length l.row.items ≡ l.state;
  values : (s : ℕ) → s < l.state → get_or l.row.items s (pos 0)
      ≡ (state_reward (g.A.Arith.operations l.arith) l.model.model 0 ((g.A.Arith.operations l.arith).one)
      l.action s).high;
}
