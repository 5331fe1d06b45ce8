-- Worked rows of bound trees that fit a front, and of valid certificates: what holds, and what does not.
use Rattle.std.proofs.Common.{◌≡◌, inl, inr, ℕ, true, false, ℤ, pos, [], ◌∷◌, refl, sym, arith}
use Rattle.std.proofs.lemmas.Int.{ints}
use Rattle.dp_spec.specs.Model.{joint_actions, joint_observations, obs_at, reward_at, start_at, step_scale, trans_at}
use Rattle.dp_spec.specs.Model.{value_scale}
use Rattle.dp_spec.specs.Mode.{is_exact_mode, unit_of}
use Rattle.dp_spec.specs.Front.{fixed_joint_action, joint_class}
use Rattle.dp_spec.specs.Bound.{agreeing_actions}
use Rattle.dp_spec.specs.Steps.{advanced_agent, front_after_choice, root_front}
use Rattle.dp_spec.specs.LookAhead.{weights_after}
use Rattle.dp_spec.specs.Arithmetic.{Arithmetic, exact, outward, reward_factor}
use Rattle.dp_spec.specs.Quantities.{action_look_ahead_in, class_weight_in, weighted_reward_in, weighted_table_in}
use Rattle.dp_spec.specs.Quantities.{weights_after_in}
use Rattle.dp_spec.specs.BoundTree.{BoundTree, BoundTrees, branch, leaf, merge, more_bound_trees, no_bound_trees}
use Rattle.dp_spec.specs.SharedWorth.{joint_row_action, next_joint_row, shared_worth_in}
use Rattle.dp_spec.specs.PlainForm.{ArePlain, ArePlainRows}
use Rattle.dp_spec.specs.PlainForm.ArePlain.{and_agent as and_plain}
use Rattle.dp_spec.specs.SharedPolicy.{AgentRows}
use Rattle.dp_spec.specs.Wide.{is_room, is_wide, widens}
use Rattle.dp_spec.specs.Fitting.{FitsFront, front_bound}
use Rattle.dp_spec.specs.Certificate.{Certificate, FitsRoot, HasPolicyOfVersion, IsCertificateOf, IsValid}
use Rattle.dp_spec.proofs.SmallModels.{blind, solo, tiger}
use Rattle.dp_spec.proofs.SmallRows.{heard_and_never_are_equivalent}
use Rattle.dp_spec.proofs.TigerRows.{listened, left_and_right_are_not_equivalent}
use Rattle.dp_spec.proofs.CertificateRows.{solo_certificate, solo_is_valid}

-- ---- one branch on both actions of an agent that earns 1 or 3

-- the leaves in the order of the actions
abbrev branch_of_solo : BoundTree → BoundTree → BoundTree
branch_of_solo first second = branch 0 0 (more_bound_trees first (more_bound_trees second no_bound_trees))

abbrev FitsSolo : BoundTree → Type 0
FitsSolo T = FitsRoot (exact solo.scales) solo 1 1 T

leaf_fits : FitsSolo (leaf (pos 3))
unfolding solo front_bound exact reward_factor weights_after_in weighted_reward_in weighted_table_in
    action_look_ahead_in class_weight_in joint_class fixed_joint_action agreeing_actions joint_observations
    joint_actions trans_at obs_at reward_at start_at step_scale root_front
leaf_fits = refl

-- a leaf states its bound, neither less ..
leaf_too_low : FitsSolo (leaf (pos 2)) → ⊥
unfolding solo front_bound exact reward_factor weights_after_in weighted_reward_in weighted_table_in
    action_look_ahead_in class_weight_in joint_class fixed_joint_action agreeing_actions joint_observations
    joint_actions trans_at obs_at reward_at start_at step_scale root_front
leaf_too_low fits = omega (arith, ints, fits)

-- .. nor more
leaf_too_high : FitsSolo (leaf (pos 4)) → ⊥
unfolding solo front_bound exact reward_factor weights_after_in weighted_reward_in weighted_table_in
    action_look_ahead_in class_weight_in joint_class fixed_joint_action agreeing_actions joint_observations
    joint_actions trans_at obs_at reward_at start_at step_scale root_front
leaf_too_high fits = omega (arith, ints, fits)

-- the children stand in the order of the actions
children_reversed : FitsSolo (branch_of_solo (leaf (pos 3)) (leaf (pos 1))) → ⊥
unfolding solo front_bound exact reward_factor weights_after_in weighted_reward_in weighted_table_in
    action_look_ahead_in class_weight_in joint_class fixed_joint_action agreeing_actions joint_observations
    joint_actions trans_at obs_at reward_at start_at step_scale root_front front_after_choice advanced_agent
children_reversed fits = omega (arith, ints, fits.2.0)

-- no action is left out, and there is none too many
one_child : FitsSolo (branch 0 0 (more_bound_trees (leaf (pos 1)) no_bound_trees)) → ⊥
unfolding solo
one_child fits = omega (arith, fits.2.1)

three_children : FitsSolo (branch 0 0 (more_bound_trees (leaf (pos 1))
    (more_bound_trees (leaf (pos 3)) (more_bound_trees (leaf (pos 3)) no_bound_trees)))) → ⊥
unfolding solo
three_children fits = omega (arith, fits.2.1.1.1)

-- a branch names a class that is there
no_such_class : FitsSolo (branch 0 1 (more_bound_trees (leaf (pos 1))
    (more_bound_trees (leaf (pos 3)) no_bound_trees))) → ⊥
unfolding root_front solo
no_such_class fits = omega (arith, fits.1.0)

no_such_agent : FitsSolo (branch 1 0 no_bound_trees) → ⊥
unfolding root_front solo
no_such_agent fits = fits.1

-- nothing is refined at a full front, whatever the children are
branch_at_full : (ks : BoundTrees) (cap : ℤ)
    → FitsFront (exact solo.scales) solo 1 1 1 (branch 0 0 ks) (front_after_choice solo (root_front solo) 0 0 0) cap
    → ⊥
unfolding solo root_front front_after_choice advanced_agent
branch_at_full ks cap fits = omega (arith, fits.0)

-- ---- two classes of which one never comes are merged

abbrev merged_after_wait : ℕ → ℕ → BoundTree
merged_after_wait a b = branch 0 0 (more_bound_trees (merge 0 a b
    (branch 0 0 (more_bound_trees (leaf (pos 2)) no_bound_trees))) no_bound_trees)

merge_fits : FitsRoot (exact blind.scales) blind 2 1 (merged_after_wait 0 1)
unfolding blind front_bound exact reward_factor weights_after weights_after_in weighted_reward_in weighted_table_in
    action_look_ahead_in class_weight_in joint_class fixed_joint_action agreeing_actions joint_observations
    joint_actions trans_at obs_at reward_at start_at step_scale root_front front_after_choice advanced_agent is_wide
    widens is_room
merge_fits = (
  omega arith,
  (omega arith, refl),
  (
    (
      omega arith,
      omega arith,
      (omega arith, refl),
      (omega arith, refl),
      heard_and_never_are_equivalent,
      (omega arith, (omega arith, refl), (refl, refl), refl),
      refl,
      refl,
    ),
    refl,
  ),
  refl,
)

-- the smaller number stands first
merge_reversed : FitsRoot (exact blind.scales) blind 2 1 (merged_after_wait 1 0) → ⊥
merge_reversed fits = omega (arith, fits.2.0.1)

-- where numbers are rounded nothing is merged
merge_in_outward : FitsRoot (outward blind.scales) blind 2 1 (merged_after_wait 0 1) → ⊥
unfolding outward
merge_in_outward fits = let rounded : false ≡ true = fits.2.0.6 in cc

-- classes that are not equivalent are not merged
merge_of_unequal : (A : Arithmetic) (look above : ℕ) (k : BoundTree) (cap : ℤ)
    → FitsFront A tiger 2 look above (merge 0 0 1 k) listened cap → ⊥
merge_of_unequal A look above k cap fits = left_and_right_are_not_equivalent fits.4

-- ---- what makes a certificate invalid

abbrev valid : Certificate
valid = solo_certificate 1

no_known_version : IsValid solo (solo_certificate 3) → ⊥
no_known_version is = elim is.within.known [
  | inl e ↦ omega (arith, e)
  | inr e ↦ omega (arith, e)
]

no_step : IsValid solo (record valid { horizon = 0 }) → ⊥
no_step is = omega (arith, (is.within.first refl).some_step)

-- the horizon of version 1 is limited, that of version 2 too
past_sixteen : IsValid solo (record valid { horizon = 17 }) → ⊥
past_sixteen is = omega (arith, (is.within.first refl).horizon)

past_twenty_four : IsValid solo (record valid { version = 2; horizon = 25 }) → ⊥
past_twenty_four is = omega (arith, (is.within.second refl).1)

wrong_mode : IsValid solo (record valid { is_exact = false }) → ⊥
unfolding solo is_exact_mode step_scale
wrong_mode is = let both : true ≡ false = sym is.mode in cc

wrong_unit : IsValid solo (record valid { unit = pos 2 }) → ⊥
unfolding solo unit_of is_exact_mode value_scale step_scale
wrong_unit is = omega (arith, ints, is.unit)

-- the lower end is the worth itself, and nothing below it
lower_too_low : IsValid solo (record valid { lower = pos 1 }) → ⊥
unfolding solo shared_worth_in exact reward_factor weights_after_in weighted_reward_in joint_row_action next_joint_row
    joint_observations joint_actions trans_at obs_at reward_at start_at step_scale
lower_too_low is = omega (arith, ints, is.lower)

wrong_inner : IsValid solo (record valid { inner = 3 }) → ⊥
wrong_inner is = omega (arith, is.inner)

upper_too_high : IsValid solo (record valid { upper = pos 4 }) → ⊥
upper_too_high is = omega (arith, ints, is.upper)

wrong_tree : IsValid solo (record valid { tree = leaf (pos 2); inner = 0; upper = pos 2 }) → ⊥
unfolding exact
wrong_tree is = leaf_too_low is.tree

-- a row that two histories share is no row of version 1
abbrev waiting : AgentRows
waiting = (record { action = 0; next = 0 ∷ 0 ∷ [] } ∷ []) ∷ (record { action = 0; next = [] } ∷ []) ∷ []

shared_in_one : ArePlainRows 2 2 waiting → ⊥
shared_in_one plain = omega (arith, plain.counts 1 (omega arith))

abbrev waiting_certificate : ℕ → Certificate
waiting_certificate version = record valid { version = version; horizon = 2; policy = waiting ∷ [] }

shared_policy_in_one : HasPolicyOfVersion blind (waiting_certificate 1) → ⊥
unfolding blind
shared_policy_in_one has = none_plain (has.plain refl)
  where
    none_plain : ArePlain 2 (2 ∷ []) (waiting ∷ []) → ⊥
    none_plain (and_plain rows none) = shared_in_one rows

-- ---- what is asked of a certificate before it is checked

solo_is_certificate : IsCertificateOf solo valid
solo_is_certificate = record {
  within = solo_is_valid.within;
  look = (omega arith, omega arith);
  policy = solo_is_valid.policy;
  nodes = omega arith;
  depth = omega arith;
  children = (omega arith, omega arith, (tt, (tt, tt)));
}

look_of_none : IsCertificateOf solo (record valid { look = 0 }) → ⊥
look_of_none is = omega (arith, is.look.0)

look_too_far : IsCertificateOf solo (record valid { look = 17 }) → ⊥
look_too_far is = omega (arith, is.look.1)

-- a branch of no children may not stand in one
childless_branch : IsCertificateOf solo (record valid { tree = branch 0 0 no_bound_trees }) → ⊥
childless_branch is = omega (arith, is.children.0)
