-- Worked rows of the promises of a plan: a certificate that keeps them all, and some that break one.
use Rattle.std.proofs.Common.{◌≡◌, ◌<◌, inl, ℕ, zero, suc, true, false, pos, List, [], ◌∷◌, refl, subst, arith}
use Rattle.std.specs.Prelude.{◌≤ℤ◌, ◌<ℤ◌, All, Some, slice_get}
use Rattle.std.proofs.lemmas.Int.{ints}
use Rattle.std.proofs.lemmas.List.Elements.{All-from_recursion}
use Rattle.dp_spec.specs.Model.{joint_actions, joint_observations, obs_at, reward_at, start_at, step_scale, trans_at}
use Rattle.dp_spec.specs.Model.{value_scale}
use Rattle.dp_spec.specs.Mode.{is_exact_mode, unit_of}
use Rattle.dp_spec.specs.Front.{fixed_joint_action, joint_class}
use Rattle.dp_spec.specs.Bound.{agreeing_actions}
use Rattle.dp_spec.specs.Steps.{advanced_agent, front_after_choice, root_front}
use Rattle.dp_spec.specs.LookAhead.{weights_after}
use Rattle.dp_spec.specs.ConstantPolicy.{constant_policy}
use Rattle.dp_spec.specs.Arithmetic.{exact, reward_factor}
use Rattle.dp_spec.specs.Quantities.{action_look_ahead_in, class_weight_in, weighted_reward_in, weighted_table_in}
use Rattle.dp_spec.specs.Quantities.{weights_after_in}
use Rattle.dp_spec.specs.FullPolicy.{full_policy}
use Rattle.dp_spec.specs.PlainForm.{plain_form}
use Rattle.dp_spec.specs.SharedWorth.{form_in, joint_row_action, low_worth, next_joint_row, shared_worth_in}
use Rattle.dp_spec.specs.BoundTree.{BoundTree, leaf, merge}
use Rattle.dp_spec.specs.Fitting.{front_bound}
use Rattle.dp_spec.specs.Certificate.{Certificate, IsValid, arithmetic_for}
use Rattle.dp_spec.specs.Qualities.{HasNoEquivalent, IfBranch, IfInner, IfNarrowLeaf, IfOpenLeaf, Node, Place}
use Rattle.dp_spec.specs.Qualities.{certificate_nodes, places_of}
use Rattle.dp_spec.specs.Promises.{HasNoMerge, IfFullLeaf, IsBestConstant, IsPlanned, PlanOptions, constant_worth}
use Rattle.dp_spec.proofs.SmallModels.{solo}
use Rattle.dp_spec.proofs.TextLemmas.{one_row}
use Rattle.dp_spec.proofs.CertificateRows.{solo_certificate, solo_is_valid}

-- ---- one agent that earns 1 or 3 by one step: the better action shows its bound at the root

abbrev asked : ℕ → PlanOptions
asked nodes = record { version = 1; nodes = nodes; look = 1; merge = true }

abbrev any_place : List Place → ℕ → Type 0
any_place places x = Unit {0}

abbrev best : Certificate
best = record (solo_certificate 1) { inner = 0; tree = leaf (pos 3) }

best_is_valid : IsValid solo best
unfolding solo front_bound exact reward_factor weights_after weights_after_in weighted_reward_in weighted_table_in
    action_look_ahead_in class_weight_in joint_class fixed_joint_action agreeing_actions joint_observations
    joint_actions trans_at obs_at reward_at start_at step_scale root_front front_after_choice advanced_agent
    is_exact_mode unit_of value_scale shared_worth_in joint_row_action next_joint_row constant_worth low_worth form_in
    plain_form constant_policy
best_is_valid = record {
  within = solo_is_valid.within;
  mode = refl;
  unit = refl;
  policy = record {
    version = solo_is_valid.policy.version;
    shared = solo_is_valid.policy.shared;
    plain =
        solo_is_valid.policy.plain;
  };
  lower = refl;
  tree = refl;
  inner = refl;
  upper = refl;
}

-- the worths of the constant policies
worth_of_first : constant_worth solo best 0 ≡ pos 1
unfolding solo front_bound exact reward_factor weights_after weights_after_in weighted_reward_in weighted_table_in
    action_look_ahead_in class_weight_in joint_class fixed_joint_action agreeing_actions joint_observations
    joint_actions trans_at obs_at reward_at start_at step_scale root_front front_after_choice advanced_agent
    is_exact_mode unit_of value_scale shared_worth_in joint_row_action next_joint_row constant_worth low_worth form_in
    plain_form constant_policy
worth_of_first = refl

worth_of_second : constant_worth solo best 1 ≡ pos 3
unfolding solo front_bound exact reward_factor weights_after weights_after_in weighted_reward_in weighted_table_in
    action_look_ahead_in class_weight_in joint_class fixed_joint_action agreeing_actions joint_observations
    joint_actions trans_at obs_at reward_at start_at step_scale root_front front_after_choice advanced_agent
    is_exact_mode unit_of value_scale shared_worth_in joint_row_action next_joint_row constant_worth low_worth form_in
    plain_form constant_policy
worth_of_second = refl

two_worths : (a : ℕ) → a < joint_actions solo → constant_worth solo best a ≤ℤ pos 3
unfolding solo joint_actions
two_worths zero lt = let e = worth_of_first in omega (arith, ints)
two_worths (suc zero) lt = let e = worth_of_second in omega (arith, ints)
two_worths (suc (suc a)) lt = absurd (omega arith)

second_is_best : IsBestConstant solo best 1
unfolding solo joint_actions
second_is_best = record {
  action = omega arith;
  greatest = λ b lt. let e = worth_of_second in let le = two_worths b lt in omega (arith, ints);
  least = λ b lt. first_is_less b lt;
}
  where
    first_is_less : (b : ℕ) → b < 1 → constant_worth solo best b <ℤ constant_worth solo best 1
    first_is_less zero lt = let e = worth_of_first in let f = worth_of_second in omega (arith, ints)
    first_is_less (suc b) lt = absurd (omega arith)

-- a branch stands where the rule may say
abbrev ruled_at : (List Place → ℕ → Type 0) → Node → Type 0
ruled_at May n =
    IfBranch n.tree (λ i k.
    let places = places_of (arithmetic_for solo best) solo 1 1 n.front in
    (x : ℕ) × May places x × ((p : Place) × (slice_get places x ≡ Some p) × (p.agent ≡ i) × (p.class ≡ k)))

-- the only node is a leaf
abbrev of_leaf : (P : Node → Type 0) → P (record {
  tree = leaf (pos 3);
  above = 0;
  front = root_front solo;
  cap =
      front_bound (exact solo.scales) solo 1 1 (root_front solo);
}) → All P (certificate_nodes solo best)
of_leaf P holds = All-from_recursion P (certificate_nodes solo best) (holds, tt)

best_is_planned : IsPlanned solo any_place 1 (asked 1) best
unfolding solo front_bound exact reward_factor weights_after weights_after_in weighted_reward_in weighted_table_in
    action_look_ahead_in class_weight_in joint_class fixed_joint_action agreeing_actions joint_observations
    joint_actions trans_at obs_at reward_at start_at step_scale root_front front_after_choice advanced_agent
    is_exact_mode unit_of value_scale shared_worth_in joint_row_action next_joint_row constant_worth low_worth form_in
    plain_form constant_policy
best_is_planned = record {
  valid = best_is_valid;
  horizon = refl;
  look = refl;
  nodes = omega arith;
  ended = inl (record {
    open_leaves = of_leaf (λ n. IfOpenLeaf 1 n (λ x. x ≤ℤ pos 3))
        (λ early. omega (arith, ints));
    exact_leaves = λ e. omega (arith, ints);
  });
  lean = of_leaf (λ n. All (λ k. IfInner n.tree (IfNarrowLeaf solo 1 k (λ x. pos 3 <ℤ x → x ≤ℤ n.cap)))
      (certificate_nodes solo best)) (of_leaf (λ k. Unit {0}) tt);
  merged = λ merge e. record {
    exact = refl;
    branches =
        of_leaf (λ n. IfBranch n.tree (λ i k. HasNoEquivalent solo n.front)) tt;
  };
  unmerged = λ (e : true ≡ false). absurd (cc);
  constants = two_worths;
  inner_nodes = of_leaf (λ n. IfInner n.tree ((a : ℕ) → a < joint_actions solo
      → constant_worth solo best a <ℤ n.cap)) tt;
  best_constant = λ none. (1, second_is_best, refl);
  ruled = of_leaf (ruled_at any_place) tt;
  full_leaves = of_leaf (λ n. IfFullLeaf 1 n (low_worth (arithmetic_for solo best) solo 1 1 (full_policy solo n.front)
      ≤ℤ pos 3)) (λ (full : 0 ≡ 1). absurd (omega arith));
  version = refl;
  shared_form = λ (two : 1 ≡ 2). absurd (omega arith);
}

-- ---- promises that are broken

-- more branches than were asked for
too_many_nodes : IsPlanned solo any_place 1 (asked 0) (solo_certificate 1) → ⊥
too_many_nodes planned = omega (arith, planned.nodes)

-- a branch where a constant policy has shown the bound already
needless_branch : IsPlanned solo any_place 1 (asked 1) (solo_certificate 1) → ⊥
unfolding solo front_bound exact reward_factor weights_after weights_after_in weighted_reward_in weighted_table_in
    action_look_ahead_in class_weight_in joint_class fixed_joint_action agreeing_actions joint_observations
    joint_actions trans_at obs_at reward_at start_at step_scale root_front front_after_choice advanced_agent
    is_exact_mode unit_of value_scale shared_worth_in joint_row_action next_joint_row constant_worth low_worth form_in
    plain_form constant_policy
needless_branch planned =
    omega (
      arith,
      ints,
      planned.inner_nodes 0 (record {
        tree = leaf (pos 0);
        above = 0;
        front = root_front solo;
        cap =
            pos 0;
      }) (omega arith) 1 (omega arith),
    )

-- a lower end below the worth of a constant policy
worse_constant : IsPlanned solo any_place 1 (asked 1) (record best { lower = pos 1; policy = one_row 0 ∷ [] }) → ⊥
unfolding solo front_bound exact reward_factor weights_after weights_after_in weighted_reward_in weighted_table_in
    action_look_ahead_in class_weight_in joint_class fixed_joint_action agreeing_actions joint_observations
    joint_actions trans_at obs_at reward_at start_at step_scale root_front front_after_choice advanced_agent
    is_exact_mode unit_of value_scale shared_worth_in joint_row_action next_joint_row constant_worth low_worth form_in
    plain_form constant_policy
worse_constant planned = omega (arith, ints, planned.constants 1 (omega arith))

-- a horizon or a version that was not asked for
other_horizon : IsPlanned solo any_place 2 (asked 1) best → ⊥
other_horizon planned = omega (arith, planned.horizon)

other_version : IsPlanned solo any_place 1 (record (asked 1) { version = 2 }) best → ⊥
other_version planned = omega (arith, planned.version)

-- a merge where none was asked for
merged_unasked : (c : Certificate) (a b : ℕ) (k : BoundTree) → c.tree ≡ merge 0 a b k
    → IsPlanned solo any_place 1 (record (asked 1) { merge = false }) c → ⊥
merged_unasked c a b k e planned = subst HasNoMerge e (planned.unmerged refl)
