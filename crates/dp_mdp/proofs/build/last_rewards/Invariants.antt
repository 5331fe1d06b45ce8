use Rattle.std.proofs.Common.{◌≡◌, ◌<◌, ℕ, length, get_or, []}
use Rattle.dp_mdp.specs.Building.{IsLastReward}
use Rattle.dp_mdp.proofs.build.last_rewards.Given as goal

abbrev pub invariant-loop-action : goal.invariant-loop-action
invariant-loop-action g l = record {
  filled : length l.rewards.items ≡ l.action;
  values : (a : ℕ) → a < l.action → IsLastReward (g.A.Arith.operations l.arith) l.model.model a
      (get_or l.rewards.items a []);
}
