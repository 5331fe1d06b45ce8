-- Worked rows of the qualities of certificates: closed, lean, merged and ruled, each where it holds and where it does
-- not.
use Rattle.std.proofs.Common.{◌≡◌, ℕ, zero, suc, Bool, true, false, ℤ, pos, List, [], ◌∷◌, length, ap, subst, Some}
use Rattle.std.proofs.Common.{refl, arith}
use Rattle.std.specs.Prelude.{◌≤ℤ◌, ◌<ℤ◌, All, slice_get, unwrap_or, Option}
use Rattle.std.proofs.lemmas.Int.{ints}
use Rattle.std.proofs.lemmas.List.Elements.{All-from_recursion}
use Rattle.dp_spec.specs.Model.{joint_actions, joint_observations, obs_at, reward_at, start_at, step_scale, trans_at}
use Rattle.dp_spec.specs.Front.{AgentFront, Front, fixed_joint_action, joint_class}
use Rattle.dp_spec.specs.Bound.{agreeing_actions}
use Rattle.dp_spec.specs.Steps.{IsUnassigned, root_agent, advanced_agent, front_after_choice, root_front}
use Rattle.dp_spec.specs.LookAhead.{weights_after}
use Rattle.dp_spec.specs.Merge.{merged_agent, merged_front}
use Rattle.dp_base.specs.Rounding.{ceiling_of, mul_down, mul_up}
use Rattle.dp_spec.specs.Arithmetic.{exact, outward, reward_factor}
use Rattle.dp_spec.specs.Quantities.{action_look_ahead_in, class_weight_in, weighted_reward_in, weighted_table_in}
use Rattle.dp_spec.specs.Quantities.{weights_after_in}
use Rattle.dp_spec.specs.BoundTree.{BoundTree, branch, leaf, merge, more_bound_trees, no_bound_trees}
use Rattle.dp_spec.specs.Wide.{is_room, is_wide, widens}
use Rattle.dp_spec.specs.Fitting.{front_bound}
use Rattle.dp_spec.specs.Certificate.{Certificate, arithmetic_for}
use Rattle.dp_spec.specs.Qualities.{IfBranch, places_of, IfInner, IfNarrowLeaf, IfOpenLeaf, Node, HasNoEquivalent}
use Rattle.dp_spec.specs.Qualities.{IsClosed, IsLean, IsMerged, IsRefined, IsRuled, Place, certificate_nodes}
use Rattle.dp_spec.specs.Qualities.{spread_of, upper_weight}
use Rattle.dp_spec.proofs.SmallModels.{blind, solo, tiger}
use Rattle.dp_spec.proofs.SmallRows.{heard_and_never_are_equivalent, waited}
use Rattle.dp_spec.proofs.TreeRows.{both_actions}
use Rattle.dp_spec.proofs.CertificateRows.{solo_certificate}
use Rattle.dp_spec.proofs.TextLemmas.{one_row}

-- a node that stands for one past the end of a list
abbrev no_node : Node
no_node = record { tree = leaf (pos 0); above = 0; front = root_front solo; cap = pos 0 }

-- ---- closed

abbrev low_leaves : Certificate → Node → Type 0
low_leaves c n = IfOpenLeaf c.horizon n (λ x. x ≤ℤ c.lower)

-- every leaf states at most the lower end
solo_is_closed : IsClosed solo (solo_certificate 1)
unfolding solo front_bound exact outward mul_down mul_up ceiling_of reward_factor weights_after weights_after_in
    weighted_reward_in weighted_table_in action_look_ahead_in class_weight_in joint_class fixed_joint_action
    agreeing_actions joint_observations joint_actions trans_at obs_at reward_at start_at step_scale root_front
    front_after_choice advanced_agent is_wide widens is_room
solo_is_closed = record {
  open_leaves = All-from_recursion (low_leaves (solo_certificate 1)) (certificate_nodes solo (solo_certificate 1))
      (tt, ((λ early. absurd (omega arith)), ((λ early. absurd (omega arith)), tt)));
  exact_leaves = λ e. (omega (arith, ints), (omega (arith, ints), tt));
}

-- a leaf at the root states more
abbrev open_solo : Certificate
open_solo = record (solo_certificate 1) { lower = pos 1; inner = 0; policy = one_row 0 ∷ []; tree = leaf (pos 3) }

open_solo_is_not_closed : IsClosed solo open_solo → ⊥
unfolding solo front_bound exact outward mul_down mul_up ceiling_of reward_factor weights_after weights_after_in
    weighted_reward_in weighted_table_in action_look_ahead_in class_weight_in joint_class fixed_joint_action
    agreeing_actions joint_observations joint_actions trans_at obs_at reward_at start_at step_scale root_front
    front_after_choice advanced_agent is_wide widens is_room
open_solo_is_not_closed closed = omega (arith, ints, closed.open_leaves 0 no_node (omega arith) (omega arith))

-- in exact mode a full leaf counts too ..
abbrev low_end : Bool → Certificate
low_end is_exact = record (solo_certificate 1) { is_exact = is_exact; lower = pos 1 }

full_leaf_above : IsClosed solo (low_end true) → ⊥
full_leaf_above closed = omega (arith, ints, (closed.exact_leaves refl).1.0)

-- .. and in outward mode it does not
full_leaf_above_in_outward : IsClosed solo (low_end false)
unfolding solo front_bound exact outward mul_down mul_up ceiling_of reward_factor weights_after weights_after_in
    weighted_reward_in weighted_table_in action_look_ahead_in class_weight_in joint_class fixed_joint_action
    agreeing_actions joint_observations joint_actions trans_at obs_at reward_at start_at step_scale root_front
    front_after_choice advanced_agent is_wide widens is_room
full_leaf_above_in_outward = record {
  open_leaves = All-from_recursion (low_leaves (low_end false)) (certificate_nodes solo (low_end false)) (
    tt,
    ((λ early. absurd (omega arith)), ((λ early. absurd (omega arith)), tt)),
  );
  exact_leaves = λ (e : false ≡ true). cc;
}

-- ---- lean

-- two steps of solo: after the first action 4 can be earned, and after the second 6
abbrev two_steps : BoundTree → BoundTree → Certificate
two_steps first second = record {
  version = 1;
  horizon = 2;
  look = 1;
  is_exact = true;
  unit = pos 1;
  lower = pos 4;
  upper = pos 6;
  inner = 2;
  policy = [];
  tree = branch 0 0 (more_bound_trees first (more_bound_trees second no_bound_trees));
}

abbrev refined : ℤ → ℤ → BoundTree
refined x y = branch 0 0 (more_bound_trees (leaf x) (more_bound_trees (leaf y) no_bound_trees))

abbrev lean_at : Certificate → Node → Node → Type 0
lean_at c n k = IfInner n.tree (IfNarrowLeaf solo c.horizon k (λ x. c.lower <ℤ x → x ≤ℤ n.cap))

-- the branch whose bound is 4 stands where a leaf of bound 6 is left
branch_below_an_open_leaf : IsLean solo (two_steps (refined (pos 2) (pos 4)) (leaf (pos 6))) → ⊥
unfolding solo front_bound exact outward mul_down mul_up ceiling_of reward_factor weights_after weights_after_in
    weighted_reward_in weighted_table_in action_look_ahead_in class_weight_in joint_class fixed_joint_action
    agreeing_actions joint_observations joint_actions trans_at obs_at reward_at start_at step_scale root_front
    front_after_choice advanced_agent is_wide widens is_room
branch_below_an_open_leaf lean = omega (
  arith,
  ints,
  lean 1 no_node (omega arith) 4 no_node (omega arith)
      (omega arith) refl (omega (arith, ints)),
)

-- no leaf that can be refined states more than the lower end
lean_two_steps : IsLean solo (two_steps (leaf (pos 4)) (refined (pos 4) (pos 6)))
unfolding solo front_bound exact outward mul_down mul_up ceiling_of reward_factor weights_after weights_after_in
    weighted_reward_in weighted_table_in action_look_ahead_in class_weight_in joint_class fixed_joint_action
    agreeing_actions joint_observations joint_actions trans_at obs_at reward_at start_at step_scale root_front
    front_after_choice advanced_agent is_wide widens is_room
lean_two_steps =
    let c = two_steps (leaf (pos 4)) (refined (pos 4) (pos 6)) in
    let nodes = certificate_nodes solo c in
    let of_leaf : All (λ (k : Node). Unit {0}) nodes = λ k d lt. tt in
    let of_branch : All (λ (k : Node). IfNarrowLeaf solo 2 k (λ x. pos 4 <ℤ x → x ≤ℤ pos 6)) nodes =
    All-from_recursion (λ (k : Node). IfNarrowLeaf solo 2 k (λ x. pos 4 <ℤ x → x ≤ℤ pos 6)) nodes (
      tt,
      (
        (λ early narrow more. omega (arith, ints)),
        (
          tt,
          ((λ early. absurd (omega arith)), ((λ early. absurd (omega arith)), tt)),
        ),
      ),
    ) in
    All-from_recursion (λ n. All (lean_at c n) nodes) nodes (
      of_branch,
      (of_leaf, (of_branch, (of_leaf, (of_leaf, tt)))),
    )

-- a branch may stand where its bound is that of the leaf
lean_where_equal : IsLean solo (two_steps (leaf (pos 4)) (leaf (pos 6)))
unfolding solo front_bound exact outward mul_down mul_up ceiling_of reward_factor weights_after weights_after_in
    weighted_reward_in weighted_table_in action_look_ahead_in class_weight_in joint_class fixed_joint_action
    agreeing_actions joint_observations joint_actions trans_at obs_at reward_at start_at step_scale root_front
    front_after_choice advanced_agent is_wide widens is_room
lean_where_equal =
    let c = two_steps (leaf (pos 4)) (leaf (pos 6)) in
    let nodes = certificate_nodes solo c in
    let of_leaf : All (λ (k : Node). Unit {0}) nodes = λ k d lt. tt in
    let of_branch : All (lean_at c (record no_node { tree = c.tree; cap = pos 6 })) nodes =
    All-from_recursion (lean_at c (record no_node { tree = c.tree; cap = pos 6 })) nodes
    (tt, ((λ early narrow more. omega (arith, ints)), ((λ early narrow more. omega (arith, ints)), tt))) in
    All-from_recursion (λ n. All (lean_at c n) nodes) nodes (of_branch, (of_leaf, (of_leaf, tt)))

-- a wide leaf does not count, and one that is not wide does
wide_leaf : (P : ℤ → Type 0) → IfNarrowLeaf tiger 1 (record no_node { above = 2048; front = root_front tiger }) P
unfolding tiger front_bound exact outward mul_down mul_up ceiling_of reward_factor weights_after weights_after_in
    weighted_reward_in weighted_table_in action_look_ahead_in class_weight_in joint_class fixed_joint_action
    agreeing_actions joint_observations joint_actions trans_at obs_at reward_at start_at step_scale root_front
    front_after_choice advanced_agent is_wide widens is_room
wide_leaf P = λ early narrow. absurd (let both : true ≡ false = narrow in cc)

narrow_leaf : IfNarrowLeaf tiger 1 (record no_node { above = 2047; front = root_front tiger }) (λ x. ⊥) → ⊥
unfolding tiger front_bound exact outward mul_down mul_up ceiling_of reward_factor weights_after weights_after_in
    weighted_reward_in weighted_table_in action_look_ahead_in class_weight_in joint_class fixed_joint_action
    agreeing_actions joint_observations joint_actions trans_at obs_at reward_at start_at step_scale root_front
    front_after_choice advanced_agent is_wide widens is_room
narrow_leaf none = none (omega arith) refl

-- ---- refined

solo_is_refined : IsRefined solo (solo_certificate 1)
unfolding solo front_bound exact outward mul_down mul_up ceiling_of reward_factor weights_after weights_after_in
    weighted_reward_in weighted_table_in action_look_ahead_in class_weight_in joint_class fixed_joint_action
    agreeing_actions joint_observations joint_actions trans_at obs_at reward_at start_at step_scale root_front
    front_after_choice advanced_agent is_wide widens is_room
solo_is_refined =
    All-from_recursion (λ (n : Node). IfOpenLeaf 1 n (λ x. pos 3 <ℤ x → is_wide solo 1 n.above n.front ≡ true))
    (certificate_nodes solo (solo_certificate 1))
    (tt, ((λ early. absurd (omega arith)), ((λ early. absurd (omega arith)), tt)))

open_solo_is_not_refined : IsRefined solo open_solo → ⊥
unfolding solo front_bound exact outward mul_down mul_up ceiling_of reward_factor weights_after weights_after_in
    weighted_reward_in weighted_table_in action_look_ahead_in class_weight_in joint_class fixed_joint_action
    agreeing_actions joint_observations joint_actions trans_at obs_at reward_at start_at step_scale root_front
    front_after_choice advanced_agent is_wide widens is_room
open_solo_is_not_refined refined = let both : false ≡ true =
    refined 0 no_node (omega arith) (omega arith) (omega (arith, ints)) in cc

-- ---- merged

abbrev waited_twice : Bool → BoundTree → Certificate
waited_twice is_exact below = record {
  version = 1;
  horizon = 2;
  look = 1;
  is_exact = is_exact;
  unit = pos 1;
  lower = pos 2;
  upper = pos 2;
  inner = 3;
  policy = [];
  tree = branch 0 0 (more_bound_trees below no_bound_trees);
}

abbrev waits : ℕ → BoundTree → BoundTree
waits c k = branch 0 c (more_bound_trees k no_bound_trees)

-- both classes are branched on, though one never comes
unmerged : IsMerged blind (waited_twice true (waits 0 (waits 1 (leaf (pos 2))))) → ⊥
unfolding blind root_front front_after_choice advanced_agent
unmerged is = is.branches 1 no_node (omega arith) 0 0 1 (omega arith) (omega arith, refl) (
  omega arith,
  refl,
) heard_and_never_are_equivalent

-- a single class leaves nothing to merge
one_class : (F : Front) (d : AgentFront) → F.agents ≡ d ∷ [] → length d.chosen ≡ 1 → HasNoEquivalent blind F
one_class F d agents one i c c' order first second equivalent =
    below i (subst (λ ds. IsUnassigned i c' ds) agents second)
  where
    below : (i : ℕ) → IsUnassigned i c' (d ∷ []) → ⊥
    below zero unassigned = omega (arith, unassigned.0)
    below (suc i) unassigned = unassigned

abbrev unmerged_at : Node → Type 0
unmerged_at n = IfBranch n.tree (λ i k. HasNoEquivalent blind n.front)

abbrev merged_wait : Certificate
merged_wait = waited_twice true (merge 0 0 1 (waits 0 (leaf (pos 2))))

merged_is_merged : IsMerged blind merged_wait
unfolding blind root_front front_after_choice advanced_agent
merged_is_merged = record {
  exact = refl;
  branches = All-from_recursion unmerged_at (certificate_nodes blind merged_wait) (
    one_class (root_front blind) root_agent refl refl,
    (
      tt,
      (
        one_class (merged_front waited 0 0 1) (merged_agent 0 1
            (advanced_agent 2 0 (record root_agent { chosen = Some 0 ∷ [] }))) refl refl,
        (tt, tt),
      ),
    ),
  );
}

-- in outward mode nothing is called merged
outward_is_not_merged : IsMerged blind (waited_twice false (leaf (pos 2))) → ⊥
outward_is_not_merged is = let both : false ≡ true = is.exact in cc

-- ---- ruled

-- the rule that answers the first place
abbrev first_place : List Place → ℕ → Type 0
first_place places x = x ≡ 0

abbrev ruled_at : Certificate → Node → Type 0
ruled_at c n =
    IfBranch n.tree (λ i k.
    let places = places_of (arithmetic_for solo c) solo c.horizon c.look n.front in
    (x : ℕ) × first_place places x × ((p : Place) × (slice_get places x ≡ Some p) × (p.agent ≡ i) × (p.class ≡ k)))

solo_is_ruled : IsRuled first_place solo (solo_certificate 1)
unfolding solo upper_weight spread_of front_bound exact outward mul_down mul_up ceiling_of reward_factor weights_after
    weights_after_in weighted_reward_in weighted_table_in action_look_ahead_in class_weight_in joint_class
    fixed_joint_action agreeing_actions joint_observations joint_actions trans_at obs_at reward_at start_at step_scale
    root_front front_after_choice advanced_agent is_wide widens is_room
solo_is_ruled =
    All-from_recursion (ruled_at (solo_certificate 1)) (certificate_nodes solo (solo_certificate 1))
    ((0, refl, (record { agent = 0; class = 0; weight = pos 1; spread = pos 2 }, refl, refl, refl)), (tt, (tt, tt)))

-- a branch of the second agent stands at the second place
abbrev second_agent : Certificate
second_agent = record (solo_certificate 1) { horizon = 2; tree = branch 1 0 no_bound_trees }

second_is_not_first : IsRuled first_place tiger second_agent → ⊥
unfolding tiger root_front
second_is_not_first ruled =
    let A = exact tiger.scales in
    let at = ruled 0 no_node (omega arith) in
    let first : Place = record {
      agent = 0;
      class = 0;
      weight = upper_weight A tiger (root_front tiger) 0 0;
      spread =
          spread_of A tiger 2 1 (root_front tiger) 0 0;
    } in
    let here : Some first ≡ Some at.2.0 = subst (λ x. slice_get (places_of A tiger 2 1 (root_front tiger)) x
    ≡ Some at.2.0) at.1 at.2.1 in
    let same : 0 ≡ at.2.0.agent = ap (λ (p : Option Place). (unwrap_or p first).agent) here in
    omega (arith, same, at.2.2)
