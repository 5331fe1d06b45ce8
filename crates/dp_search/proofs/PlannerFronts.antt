-- The fronts of a planner's search: the root, full fronts, and the depth at which every one is wide.
use Rattle.std.proofs.Common.{◌≡◌, ℕ, ◌<◌, ◌≤◌, true, false, List, [], ◌∷◌, length, refl, ap, ◌∙◌, arith}
use Rattle.std.specs.Prelude.{nat_lt, not, map}
use Rattle.std.proofs.lemmas.Bool.Decides.{nat_tests}
use Rattle.dp_spec.specs.Front.{Front}
use Rattle.dp_spec.specs.Model.{IsModel, Model}
use Rattle.dp_spec.specs.Steps.{is_complete, root_agent, root_front}
use Rattle.dp_spec.specs.Wide.{has_room}
use Rattle.dp_laws.proofs.FrontRoom.{root_has_room}
use Rattle.dp_cluster.specs.KeptFronts.{IsFrontOf, KeptFront}
use Rattle.dp_search.specs.FrontPlanners.{IsPlannerFront}
use Rattle.dp_search.specs.FrontPlanning.{IsSearchFront}

-- a front is not full before the horizon
pub early_stage : (f h : ℕ) → not (nat_lt f h) ≡ false → f < h
early_stage f h e = grind (arith, nat_tests)

pub full_stage : (f h : ℕ) → not (nat_lt f h) ≡ true → f ≤ h → f ≡ h
full_stage f h e le = grind (arith, nat_tests)

-- ---- the root

-- not every class has an action where there is an agent
root_incomplete : (ns : List ℕ) → 0 < length ns → is_complete (map (λ n. root_agent) ns) ≡ false
root_incomplete [] some = absurd (omega (arith, some))
root_incomplete (n ∷ ns) some = refl

root_unfinished : (m : Model) → IsModel m → is_complete (root_front m).agents ≡ false
unfolding root_front
root_unfinished m is = root_incomplete m.actions is.sizes.some_agent

pub root_early : (m : Model) (h : ℕ) → 0 < h → not (nat_lt (root_front m).stage h) ≡ false
unfolding root_front
root_early m h some = grind (arith, nat_tests)

pub root_of_planner : (m : Model) (h : ℕ) (k : KeptFront) → IsFrontOf m k → k.front ≡ root_front m
    → k.horizon ≡ h → IsPlannerFront m h k
root_of_planner m h k of_model is_root same = record {
  of_model = of_model;
  horizon = same;
  room = ap (has_room m h) is_root ∙ root_has_room m h of_model.model;
}

pub root_of_search : (m : Model) (h : ℕ) (k : KeptFront) → IsFrontOf m k → k.front ≡ root_front m
    → k.horizon ≡ h → IsSearchFront m h k
root_of_search m h k of_model is_root same = record {
  of_planner = root_of_planner m h k of_model is_root same;
  unfinished = λ lt. ap (λ (F : Front). is_complete F.agents) is_root ∙ root_unfinished m of_model.model;
}
