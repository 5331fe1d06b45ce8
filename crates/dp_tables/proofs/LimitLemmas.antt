-- The first limit that is passed, where limits are tried one group after the other.
use Rattle.std.proofs.Common.{◌≡◌, List, [], ◌∷◌, ◌++◌, length, refl, sym, ap, ◌∙◌}
use Rattle.std.specs.Prelude.{Option, Some, None}
use Rattle.dp_model.specs.declared.limit.Limit.TheVariants as limits
use Rattle.dp_model.specs.declared.limit.TooLarge.{TooLarge}
use Rattle.dp_meaning.specs.declared.statement.Table.TheVariants.{Trans, Obs, Reward}
use Rattle.dp_meaning.specs.declared.text.Text.{Text}
use Rattle.dp_meaning.specs.Cells.{statements_for}
use Rattle.dp_meaning.specs.Text.{states_in, joint_actions_in, joint_observations_in}
use Rattle.dp_meaning.specs.Scales.{start_scale, table_scale, scales_of}
use Rattle.dp_model.specs.Limits.{first_passed, passed_by}
use Rattle.dp_meaning.specs.Limits.{passed_limit}
use Rattle.dp_tables.specs.declared.sizes.JointSizes.{JointSizes}
use Rattle.dp_tables.specs.Limits.{size_limits, cell_limits, scale_limits}
use Rattle.dp_tables.specs.Sizes.{AreSizesOf}

-- ---- lists of limits

-- a limit of the first group is the first
passed_before : (xs ys : List (Option TooLarge)) (passed : TooLarge) → first_passed xs ≡ Some passed
    → first_passed (xs ++ ys) ≡ Some passed
passed_before [] ys passed e = absurd (cc)
passed_before (Some x ∷ xs) ys passed e = e
passed_before (None ∷ xs) ys passed e = passed_before xs ys passed e

-- where none of the first group is passed, the first is one of those that follow
passed_after : (xs ys : List (Option TooLarge)) → first_passed xs ≡ None → first_passed (xs ++ ys) ≡ first_passed ys
passed_after [] ys e = refl
passed_after (Some x ∷ xs) ys e = absurd (cc)
passed_after (None ∷ xs) ys e = passed_after xs ys e

-- ---- the limits of a text

abbrev pub cells_of : JointSizes → List (Option TooLarge)
cells_of sizes = cell_limits sizes.joint_actions sizes.states sizes.joint_observations

abbrev pub reward_lines_of : Text → Option TooLarge
reward_lines_of text = passed_by limits.RewardLines (length (statements_for Reward text.statements))

abbrev pub scales_with : Text → JointSizes → List (Option TooLarge)
scales_with text sizes =
    scale_limits (start_scale text.header.start sizes.states)
    (table_scale (statements_for Trans text.statements) sizes.states)
    (table_scale (statements_for Obs text.statements) sizes.joint_observations)

-- the limits in their groups
in_groups : (text : Text) (sizes : JointSizes) → AreSizesOf text sizes
    → passed_limit text
    ≡ first_passed (size_limits text ++ (cells_of sizes ++ reward_lines_of text ∷ scales_with text sizes))
unfolding passed_limit scales_of
in_groups text sizes of =
    let same : sizes ≡ given = λ i. record {
      states = of.states i;
      joint_actions = of.joint_actions i;
      joint_observations = of.joint_observations i;
    } in
    ap (λ s. first_passed (size_limits text ++ (cells_of s ++ reward_lines_of text ∷ scales_with text s))) (sym same)
  where
    given : JointSizes
    given = record {
      states = states_in text;
      joint_actions = joint_actions_in text;
      joint_observations =
          joint_observations_in text;
    }

pub passed_size : (text : Text) (passed : TooLarge) → first_passed (size_limits text) ≡ Some passed
    → passed_limit text ≡ Some passed
unfolding passed_limit
passed_size text passed e = passed_before (size_limits text) _ passed e

-- a text whose sizes are kept
module _ (text : Text) (sizes : JointSizes) (of : AreSizesOf text sizes)
    (kept : first_passed (size_limits text) ≡ None) where
  after_sizes : passed_limit text ≡ first_passed (cells_of sizes ++ reward_lines_of text ∷ scales_with text sizes)
  after_sizes = in_groups text sizes of ∙ passed_after (size_limits text) _ kept

  pub passed_cells : (passed : TooLarge) → first_passed (cells_of sizes) ≡ Some passed
      → passed_limit text ≡ Some passed
  passed_cells passed e = after_sizes ∙ passed_before (cells_of sizes) _ passed e

  after_cells : first_passed (cells_of sizes) ≡ None
      → passed_limit text ≡ first_passed (reward_lines_of text ∷ scales_with text sizes)
  after_cells cells = after_sizes ∙ passed_after (cells_of sizes) _ cells

  pub passed_lines : (passed : TooLarge) → first_passed (cells_of sizes) ≡ None → reward_lines_of text ≡ Some passed
      → passed_limit text ≡ Some passed
  passed_lines passed cells e = after_cells cells ∙ ap (λ o. first_passed (o ∷ scales_with text sizes)) e

  pub passed_scales : first_passed (cells_of sizes) ≡ None → reward_lines_of text ≡ None
      → passed_limit text ≡ first_passed (scales_with text sizes)
  passed_scales cells lines = after_cells cells ∙ ap (λ o. first_passed (o ∷ scales_with text sizes)) lines
