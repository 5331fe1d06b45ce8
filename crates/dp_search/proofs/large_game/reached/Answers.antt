use Rattle.std.proofs.Common.{◌≡◌, ℕ, sym, subst}
use Rattle.dp_spec.specs.Model.{Model}
use Rattle.dp_cluster.specs.KeptFronts.{KeptFront}
use Rattle.dp_search.specs.FrontPlanners.{IsPlannerFront}
use Rattle.dp_search.proofs.Expansions.{of_some}
use Rattle.dp_search.proofs.PlannerFronts.{root_of_planner}
use Rattle.dp_search.proofs.large_game.reached.Goals as goal

pub loop-choice-init : goal.loop-choice-init
loop-choice-init c =
    let root = c.in_ok-front in
    root_of_planner c.args.model.now.model c.args.fit.horizon root.front root.ensures.of_model root.ensures.front
    root.ensures.horizon

-- a front over equally many steps
over : (m : Model) (h n : ℕ) (k : KeptFront) → h ≡ n → IsPlannerFront m h k → IsPlannerFront m n k
over m h n k same is = subst (λ (x : ℕ). IsPlannerFront m x k) same is

pub after_first-requires : goal.after_first-requires
after_first-requires c =
    let front = c.loop-choice.front in
    over c.args.model.now.model _ _ front (sym c.loop-choice.invariant.horizon) c.loop-choice.invariant

pub loop-choice-preserved : goal.loop-choice-preserved
loop-choice-preserved c =
    over c.args.model.now.model _ _ c.in-Some.next c.loop-choice.invariant.horizon
    (of_some _ _ c.in-Some.next c.in-Some.is c.in_ok-next.ensures)
