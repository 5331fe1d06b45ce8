use Rattle.std.proofs.Common.{◌≡◌, ◌<◌, ℕ, true}
use Rattle.dp_spec.specs.Model.{Model}
use Rattle.dp_spec.specs.Pairs.{HasNoPair}
use Rattle.dp_cluster.specs.KeptFronts.{IsFrontOf}
use Rattle.dp_search.proofs.expansion.next_pair.Given as goal

abbrev pub invariant-loop-agent : goal.invariant-loop-agent
invariant-loop-agent l =
    l.front.is_exact ≡ true → (m : Model) → IsFrontOf m l.front → (i : ℕ) → i < l.agent
    → HasNoPair m l.front.front i
