-- Worked rows of shared policies.
use Rattle.std.proofs.Common.{◌≡◌, ℕ, pos, List, [], ◌∷◌, refl}
use Rattle.dp_spec.specs.Model.{joint_actions, joint_observations, start_at, trans_at, obs_at, reward_at, step_scale}
use Rattle.dp_spec.specs.PolicyTree.{PolicyTree, node, no_trees, more_trees}
use Rattle.dp_spec.specs.ConstantPolicy.{constant_policy}
use Rattle.dp_spec.specs.ConstantRows.{constant_rows}
use Rattle.dp_spec.specs.Arithmetic.{exact, outward, point, reward_factor}
use Rattle.dp_base.specs.Rounding.{ceiling_of, mul_down, mul_up}
use Rattle.dp_spec.specs.Quantities.{weights_after_in, weighted_reward_in}
use Rattle.dp_spec.specs.SharedPolicy.{AgentRows, PolicyRow, unfolded}
use Rattle.dp_spec.specs.PlainForm.{plain_form}
use Rattle.dp_spec.specs.SharedForm.{shared_form, shared_rows}
use Rattle.dp_spec.specs.SharedWorth.{joint_row_action, next_joint_row, shared_worth_in}
use Rattle.dp_spec.proofs.SmallModels.{decay, tiger}

abbrev row : ℕ → List ℕ → PolicyRow
row a next = record { action = a; next = next }

-- ---- listen twice, then open the door behind which nothing was heard twice, or listen
abbrev act : ℕ → PolicyTree
act a = node a no_trees

abbrev heard : ℕ → ℕ → PolicyTree
heard b c = node 0 (more_trees (act b) (more_trees (act c) no_trees))

abbrev careful : PolicyTree
careful = node 0 (more_trees (heard 2 0) (more_trees (heard 0 1) no_trees))

abbrev careful_shared : AgentRows
careful_shared = (row 0 (0 ∷ 1 ∷ []) ∷ []) ∷ (row 0 (0 ∷ 1 ∷ []) ∷ row 0 (1 ∷ 2 ∷ []) ∷ []) ∷
    (row 2 [] ∷ row 0 [] ∷ row 1 [] ∷ []) ∷ []

abbrev careful_plain : AgentRows
careful_plain =
    (row 0 (0 ∷ 1 ∷ []) ∷ [])
    ∷ (row 0 (0 ∷ 1 ∷ []) ∷ row 0 (2 ∷ 3 ∷ []) ∷ [])
    ∷ (row 2 [] ∷ row 0 [] ∷ row 0 [] ∷ row 1 [] ∷ [])
    ∷ []

plain_form_of_careful : plain_form tiger 3 (careful ∷ careful ∷ []) ≡ careful_plain ∷ careful_plain ∷ []
unfolding tiger plain_form
plain_form_of_careful = refl

shared_form_of_careful : shared_form tiger 3 (careful ∷ careful ∷ []) ≡ careful_shared ∷ careful_shared ∷ []
unfolding tiger shared_form
shared_form_of_careful = refl

-- a tree that remains after the first and the last of three observations stands before that of the second
first_reached_first : shared_rows 3 2 (node 0 (more_trees (act 1) (more_trees (act 2) (more_trees (act 1) no_trees))))
    ≡ (row 0 (0 ∷ 1 ∷ 0 ∷ []) ∷ []) ∷ (row 1 [] ∷ row 2 [] ∷ []) ∷ []
first_reached_first = refl

unfolded_careful : unfolded (careful_shared ∷ careful_plain ∷ []) ≡ careful ∷ careful ∷ []
unfolded_careful = refl

worth_of_careful_shared : shared_worth_in (exact tiger.scales) tiger 3 (careful_shared ∷ careful_shared ∷ [])
    ≡ point (pos 83053000000000)
unfolding tiger shared_worth_in weights_after_in weighted_reward_in exact reward_factor joint_row_action
    next_joint_row joint_observations trans_at obs_at reward_at start_at step_scale
worth_of_careful_shared = refl

-- ---- the constant policy that opens both left doors has one row at each stage
shared_form_of_constant : shared_form tiger 2 (constant_policy tiger 2 4)
    ≡ ((row 1 (0 ∷ 0 ∷ []) ∷ []) ∷ (row 1 [] ∷ []) ∷ []) ∷ ((row 1 (0 ∷ 0 ∷ []) ∷ []) ∷ (row 1 [] ∷ []) ∷ []) ∷ []
unfolding tiger shared_form constant_policy
shared_form_of_constant = refl

constant_rows_of_tiger : constant_rows tiger 2 4
    ≡ ((row 1 (0 ∷ 0 ∷ []) ∷ []) ∷ (row 1 [] ∷ []) ∷ []) ∷ ((row 1 (0 ∷ 0 ∷ []) ∷ []) ∷ (row 1 [] ∷ []) ∷ []) ∷ []
unfolding tiger constant_rows
constant_rows_of_tiger = refl

-- ---- numbers rounded outward at each product
worth_of_decay_shared : shared_worth_in (outward decay.scales) decay 4
    (((row 0 (0 ∷ []) ∷ []) ∷ (row 0 (0 ∷ []) ∷ []) ∷ (row 0 (0 ∷ []) ∷ []) ∷ (row 0 [] ∷ []) ∷ []) ∷ [])
    ≡ record { low = pos 1110999996; high = pos 1111000007 }
unfolding decay shared_worth_in weights_after_in weighted_reward_in outward mul_down mul_up ceiling_of
    joint_row_action next_joint_row joint_observations joint_actions trans_at obs_at reward_at start_at step_scale
worth_of_decay_shared = refl
