use Rattle.std.proofs.Common.{◌≡◌, ℕ, ◌<◌, length, get_or}
use Rattle.dp_cli.proofs.episodes.episodes_of.Given as goal

abbrev pub invariant-loop-agent : goal.invariant-loop-agent
invariant-loop-agent l = record {
  all : length l.actors.items ≡ l.agent;
  in_order : (i : ℕ) (d : _) → i < l.agent → (get_or l.actors.items i d).agent ≡ i;
  of_agent : (i : ℕ) (d : _) → i < l.agent → (get_or l.actors.items i d).rule.1 ≡ i;
  of_policy : (i : ℕ) (d : _) → i < l.agent → (get_or l.actors.items i d).rule.0.now ≡ l.policy;
}
