use Rattle.std.proofs.Common.{◌≡◌, ℕ}
use Rattle.dp_spec.specs.Model.{Model}
use Rattle.dp_spec.specs.Wide.{unassigned_count}
use Rattle.dp_search.specs.FrontPlanning.{IsSearchFront}
use Rattle.dp_search.proofs.completion.all_merged.Given as goal

abbrev pub invariant-loop-reached : goal.invariant-loop-reached
invariant-loop-reached l =
    ((m : Model) (h : ℕ) → IsSearchFront m h l.front → IsSearchFront m h l.reached)
    × (l.reached.front.stage ≡ l.front.front.stage) × (l.reached.horizon ≡ l.front.horizon)

abbrev pub decreases-loop-reached : goal.decreases-loop-reached
decreases-loop-reached l = unassigned_count l.reached.front.agents
