use Rattle.std.proofs.Common.{◌≡◌, ℕ, suc, ◌-◌, ◌<◌, [], get_or, length, map}
use Rattle.dp_policy.specs.Kinds.{AreKinds}
use Rattle.dp_policy.proofs.kinds.agent_kinds.Given as goal

abbrev pub invariant-loop-back : goal.invariant-loop-back
invariant-loop-back l = record {
  counted : length l.all.items ≡ l.back;
  kinds : (k : ℕ) → k < l.back → AreKinds (get_or l.policy.rows l.agent []) (l.policy.horizon - suc k)
      (get_or (map (λ s. s.items) l.all.items) k []);
}
