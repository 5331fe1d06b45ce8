-- Worked rows of numberings: joint numbers, own histories, classes, limits of a horizon.
use Rattle.std.proofs.Common.{◌≡◌, ◌+◌, ◌*◌, ◌^◌, ℤ, pos, negsuc, Bool, true, false, [], ◌∷◌, Some, None, map, refl}
use Rattle.std.proofs.Common.{arith}
use Rattle.dp_spec.specs.Model.{step_scale, value_scale}
use Rattle.dp_spec.specs.JointNumbers.{joint_number, parts_of}
use Rattle.dp_spec.specs.PolicyTree.{node, no_trees, more_trees}
use Rattle.dp_spec.specs.FullPolicy.{tree_doing}
use Rattle.dp_spec.specs.Front.{AgentFront, own_histories}
use Rattle.dp_spec.specs.Steps.{chosen_front, unchosen_front, root_front, front_after_choice, advanced_agent}
use Rattle.dp_spec.specs.Merge.{renumbered, merged_front}
use Rattle.dp_spec.specs.Mode.{IsTrueFit, is_exact_mode, unit_of, own_history_count}
use Rattle.dp_base.specs.Rounding.{floor_of, ceiling_of}
use Rattle.dp_spec.proofs.SmallModels.{blind, tiger}

-- the first agent is most significant
joint_of_two_one : joint_number (3 ∷ 2 ∷ []) (2 ∷ 1 ∷ []) ≡ 5
joint_of_two_one = refl

joint_of_one_zero : joint_number (3 ∷ 2 ∷ []) (1 ∷ 0 ∷ []) ≡ 2
joint_of_one_zero = refl

parts_of_five : parts_of (3 ∷ 2 ∷ []) 5 ≡ 2 ∷ 1 ∷ []
parts_of_five = refl

parts_of_two : parts_of (3 ∷ 2 ∷ []) 2 ≡ 1 ∷ 0 ∷ []
parts_of_two = refl

-- first the joint observation 0 1, then 1 0: the first observation is most significant in each own history
own_of_two_steps : own_histories (2 ∷ 2 ∷ []) (2 ∷ 1 ∷ []) ≡ 1 ∷ 2 ∷ []
own_of_two_steps = refl

-- the tree that does action 10 * t + x after own history x of length t
tree_of_three_steps : tree_doing 2 (λ t x. 10 * t + x) 3
    ≡ node 0 (more_trees (node 10 (more_trees (node 20 no_trees) (more_trees (node 21 no_trees) no_trees)))
    (more_trees (node 11 (more_trees (node 22 no_trees) (more_trees (node 23 no_trees) no_trees))) no_trees))
tree_of_three_steps = refl

-- class c followed by observation o is class 2 * c + o
classes_of_second_stage : map (λ (d : AgentFront). d.class_of)
    (front_after_choice blind (merged_front (front_after_choice blind (root_front blind) 0 0 0) 0 0 1) 0 0 0).agents
    ≡ (0 ∷ 1 ∷ 0 ∷ 1 ∷ []) ∷ []
unfolding blind root_front front_after_choice advanced_agent
classes_of_second_stage = refl

-- of two classes the second, with the first observation, comes after the first with the second one
classes_of_two : (advanced_agent 2 1 (record {
  fixed = [];
  class_of = 0 ∷ 1 ∷ [];
  chosen =
      Some 0 ∷ Some 0 ∷ [];
})).class_of ≡ 0 ∷ 1 ∷ 2 ∷ 3 ∷ []
unfolding advanced_agent
classes_of_two = refl

-- second 2 joined into first 0: what is above 2 moves down
renumbered_classes : map (renumbered 0 2) (0 ∷ 1 ∷ 2 ∷ 3 ∷ []) ≡ 0 ∷ 1 ∷ 0 ∷ 2 ∷ []
renumbered_classes = refl

-- ---- limits and modes of tiger
own_histories_of_ten : own_history_count (2 ∷ 2 ∷ []) 10 ≡ 2046
own_histories_of_ten = refl

own_histories_of_eleven : own_history_count (2 ∷ 2 ∷ []) 11 ≡ 4094
own_histories_of_eleven = refl

unit_of_eight_steps : unit_of tiger 8 ≡ 512 * 10 ^ 32
unfolding tiger unit_of is_exact_mode value_scale step_scale
unit_of_eight_steps = refl

true_fit_of_nine : IsTrueFit tiger 9 false (pos 1000000000)
unfolding tiger unit_of is_exact_mode value_scale step_scale
true_fit_of_nine = record { horizon = (omega arith, omega arith); mode = refl; unit = refl }

no_fit_of_twenty_five : (e : Bool) (u : ℤ) → IsTrueFit tiger 25 e u → ⊥
no_fit_of_twenty_five e u fit = omega (arith, fit.horizon.1)

no_exact_fit_of_nine : (u : ℤ) → IsTrueFit tiger 9 true u → ⊥
unfolding tiger is_exact_mode step_scale
no_exact_fit_of_nine u fit = let both : true ≡ false = fit.mode in cc

-- ---- a choice that is taken back, and what it leaves of the others
two_chosen : map (λ (d : AgentFront). d.chosen) (unchosen_front
    (chosen_front (chosen_front (root_front tiger) 0 0 1) 1 0 2) 0 0).agents
    ≡ (None ∷ []) ∷ (Some 2 ∷ []) ∷ []
unfolding tiger root_front
two_chosen = refl

-- ---- rounding
third_down : floor_of (negsuc 0) 3 ≡ negsuc 0
third_down = refl

third_up : ceiling_of (pos 1) 3 ≡ pos 1
unfolding ceiling_of
third_up = refl

negative_third_up : ceiling_of (negsuc 0) 3 ≡ pos 0
unfolding ceiling_of
negative_third_up = refl
