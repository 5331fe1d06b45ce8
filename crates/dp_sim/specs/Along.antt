-- A joint policy along joint observations, the earliest first.
use Rattle.std.specs.Prelude.{ℕ, ◌<◌, ◌≡◌, List, [], ◌∷◌, length, map, take, slice_index_or}
use Rattle.dp_spec.specs.Model.{Model, joint_observations}
use Rattle.dp_spec.specs.PolicyTree.{PolicyTree, root_action}
use Rattle.dp_spec.specs.Value.{trees_after}
use Rattle.dp_model.specs.Parts.{part_of}
use Rattle.dp_policy.specs.SharedRows.{remaining_after}
use Rattle.dp_policy.specs.Trees.{tree_of}
use Rattle.dp_sim.specs.declared.step.SimStep.{SimStep}

-- what remains of the trees after joint observations
abbrev pub trees_along : Model → List PolicyTree → List ℕ → List PolicyTree
trees_along m qs [] = qs
trees_along m qs (o ∷ os) = trees_along m (trees_after m qs o) os

-- what is seen over some steps
abbrev pub seen_over : List SimStep → List ℕ
seen_over steps = map (λ (step : SimStep). step.seen) steps

-- what agent i has seen over them: its own history
abbrev pub own_history : Model → ℕ → List SimStep → List ℕ
own_history m i steps = map (λ (step : SimStep). part_of m.observations step.seen i) steps

-- what is seen are joint observations of the model
abbrev pub AreSeen : Model → List SimStep → Type 0
AreSeen m steps = (t : ℕ) (d : SimStep) → t < length steps
    → (slice_index_or steps t d).seen < joint_observations m

-- In joint action a each agent does the action of its tree at its own history over the steps before.
abbrev pub ActsAfter : Model → List PolicyTree → List SimStep → ℕ → Type 0
ActsAfter m qs before a = (i : ℕ) → i < length m.actions
    → part_of m.actions a i ≡ root_action (remaining_after (tree_of qs i) (own_history m i before))

-- at each of the steps
abbrev pub ActOnOwnHistories : Model → List PolicyTree → List SimStep → Type 0
ActOnOwnHistories m qs steps = (t : ℕ) (d : SimStep) → t < length steps
    → ActsAfter m qs (take t steps) (slice_index_or steps t d).action
