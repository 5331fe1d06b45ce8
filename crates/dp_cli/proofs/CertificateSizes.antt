-- The ends of a valid certificate are at most 2^126 in magnitude, and so is its unit.
use Rattle.std.proofs.Common.{◌≡◌, ℕ, zero, suc, ◌+◌, ◌-◌, ◌*◌, ◌^◌, ◌<◌, ◌≤◌, Bool, true, false, unsigned_abs, List}
use Rattle.std.proofs.Common.{refl, sym, ap, subst, ◌∙◌, ⊎_elim, arith}
use Rattle.std.specs.Prelude.{ℤ, pos, ◌+ℤ◌, ◌≤ℤ◌}
use Rattle.std.specs.Int.{int_min}
use Rattle.std.proofs.Math.Nat.{le-mul_of_pos_right, mul-le-mul_right, pow-zero}
use Rattle.std.proofs.lemmas.Int.{clamps, ints}
use Rattle.dp_base.proofs.Ring.{zle_of, zle_trans}
use Rattle.dp_base.specs.Sums.{greatest, int_sum}
use Rattle.dp_base.proofs.NaturalSumLaws.{nat_sum_le, nat_sum_most}
use Rattle.dp_spec.proofs.ModelLaws.{some_state}
use Rattle.dp_spec.specs.Arithmetic.{Arithmetic, arithmetic, exact, outward}
use Rattle.dp_spec.specs.Bound.{agreeing_actions}
use Rattle.dp_spec.specs.BoundTree.{AllLeavesAtMost, BoundTree, BoundTrees, LeavesAtMost, branch, greatest_leaf, leaf}
use Rattle.dp_spec.specs.BoundTree.{merge, more_bound_trees, no_bound_trees}
use Rattle.dp_spec.specs.Calls.{size}
use Rattle.dp_spec.specs.Certificate.{Certificate, IsValid, arithmetic_for}
use Rattle.dp_spec.specs.Fitting.{FitEachAction, FitsFront, front_bound}
use Rattle.dp_spec.specs.Front.{Front, class_counts, fixed_joint_action}
use Rattle.dp_spec.specs.JointNumbers.{product}
use Rattle.dp_spec.specs.Mode.{IsWithinVersion, is_exact_mode}
use Rattle.dp_spec.specs.Model.{IsModel, Model, joint_observations, start_at}
use Rattle.dp_spec.specs.PolicyTree.{IsPolicyOf, PolicyTree}
use Rattle.dp_spec.specs.Quantities.{action_look_ahead_in, bound_in, class_weight_in, earned_reward_in, span_sum}
use Rattle.dp_spec.specs.Quantities.{weighted_reward_in}
use Rattle.dp_spec.specs.SharedPolicy.{IsSharedOf, SharedPolicy, unfolded}
use Rattle.dp_spec.specs.SharedWorth.{joint_row_action, joint_row_count, row_weight_in, rows_earn_in, shared_worth_in}
use Rattle.dp_spec.specs.Sizes.{AreWeights, reward_size}
use Rattle.dp_spec.specs.SizesOfFronts.{CanRefine, class_look_size}
use Rattle.dp_spec.specs.SizesOfRows.{rows_earn_size}
use Rattle.dp_spec.specs.Merge.{merged_front}
use Rattle.dp_spec.specs.Steps.{front_after_choice, root_front}
use Rattle.dp_spec.specs.Value.{policy_value}
use Rattle.dp_laws.proofs.Leaves.{greatest_leaf_below}
use Rattle.dp_laws.proofs.ModeRowSizes.{mode_can_share}
use Rattle.dp_laws.proofs.OutwardModeSizes.{reward_room}
use Rattle.dp_laws.proofs.QuantityLaws.{mode_quantities}
use Rattle.dp_laws.proofs.Recursion.{recursive_worth_is_forward}
use Rattle.dp_laws.proofs.RootFront.{root_is_front}
use Rattle.dp_laws.proofs.RowSizes.{row_acts}
use Rattle.dp_laws.proofs.SharedTrees.{unfolded_is_policy}
use Rattle.dp_laws.proofs.SizeLaws.{mode_can_refine, mode_can_update_weights}
use Rattle.dp_laws.proofs.SizeSums.{abs_add, earned_size_le, int_sum_abs, reward_size_le, size_add, span_sum_size}
use Rattle.dp_laws.proofs.SizeSums.{worth_size_le}
use Rattle.dp_laws.proofs.ValidCertificates.{ends_in_order, lower_is_value}
use Rattle.dp_cli.proofs.WorthSizes.{exact_worth_fits, unit_fits}

-- the horizon of a version has from 1 to 24 steps
pub steps_within : (m : Model) (h version : ℕ) → IsWithinVersion m h version → (0 < h) × (h ≤ 24)
steps_within m h version w =
    ⊎_elim
    (λ one. let l = w.first one in let some = l.some_step in let most = l.horizon in
    (omega (arith, some), omega (arith, most)))
    (λ two. w.second two)
    w.known

-- ---- the lower end, in exact mode

exact_value_fits : (m : Model) → IsModel m → (h : ℕ) → 0 < h → h ≤ 24 → true ≡ is_exact_mode m h →
    (qs : List PolicyTree)
    → IsPolicyOf m h qs → unsigned_abs (policy_value m h qs) ≤ 2 ^ 126
unfolding exact
exact_value_fits m is h some most mode qs policy =
    let A = exact m.scales in
    let started = (mode_can_update_weights m is h some most true mode).started in
    let fits = exact_worth_fits m is h mode (λ s. A.start (start_at m s)) qs started.limit policy in
    let small = worth_size_le A m h (λ s. A.start (start_at m s)) qs in
    let same = ap size (sym ((mode_quantities m is true).worths h qs)
    ∙ sym (recursive_worth_is_forward A m h qs)) in
    omega (arith, same, small, fits)

-- ---- the lower end, in outward mode

module _ (m : Model) (is : IsModel m) (h : ℕ) (some : 0 < h) (most : h ≤ 24) (mode : false ≡ is_exact_mode m h)
    (p : SharedPolicy)
    (shared : IsSharedOf m h p) where
  few_rows : (t : ℕ) → t < h → joint_row_count p t ≤ 2 ^ 22
  few_rows t lt =
      let cells = shared.cells t lt in
      let more = le-mul_of_pos_right (joint_row_count p t) (some_state m is) in
      omega arith

  weights : (t j : ℕ) → t < h → j < joint_row_count p t → AreWeights false m t
      (row_weight_in (outward m.scales) m p t j)
  unfolding outward
  weights t j lt inside = (mode_can_share m is h some most false mode).weights p t j shared lt inside

  -- what the joint rows of the first stages earn
  outward_earned : (f : ℕ) → f ≤ h → rows_earn_size (outward m.scales) m p h f ≤ f * 2 ^ 104
  outward_earned zero le = omega arith
  outward_earned (suc f) le =
      let R = joint_row_count p f in
      let W = λ (j : ℕ). row_weight_in (outward m.scales) m p f j in
      let rest = outward_earned f (omega arith) in
      let each = nat_sum_most R (2 ^ 82)
      (λ j. reward_size (outward m.scales) m (h - suc f) (W j) (joint_row_action m p f j))
      (λ j hj. reward_room m is h most f (h - suc f) (W j) (joint_row_action m p f j) (omega arith)
      (weights f j le hj)
      (row_acts m h p shared.agents f j hj)) in
      let few = mul-le-mul_right (2 ^ 82) (few_rows f le) in
      omega arith

earn_size : (A : Arithmetic) (m : Model) (p : SharedPolicy) (h f : ℕ) → size (rows_earn_in A m p h f) ≤
    rows_earn_size A m p h f
earn_size A m p h zero = omega arith
earn_size A m p h (suc f) =
    let R = joint_row_count p f in
    let W = λ (j : ℕ). row_weight_in A m p f j in
    let reward = λ (j : ℕ). weighted_reward_in A m (h - suc f) (W j) (joint_row_action m p f j) in
    let before = earn_size A m p h f in
    let here = span_sum_size R reward in
    let each = nat_sum_le R (λ j. size (reward j)) (λ j. reward_size A m (h - suc f) (W j)
    (joint_row_action m p f j))
    (λ j lt. reward_size_le A m (h - suc f) (W j) (joint_row_action m p f j)) in
    let sum = size_add (rows_earn_in A m p h f) (span_sum R reward) in
    omega arith

outward_low_fits : (m : Model) → IsModel m → (h : ℕ) → 0 < h → h ≤ 24 → false ≡ is_exact_mode m h
    → (p : SharedPolicy)
    → IsSharedOf m h p → unsigned_abs (shared_worth_in (outward m.scales) m h p).low ≤ 2 ^ 126
unfolding shared_worth_in
outward_low_fits m is h some most mode p shared =
    let earned = outward_earned m is h some most mode p shared h (omega arith) in
    let small = earn_size (outward m.scales) m p h h in
    omega (arith, earned, small)

-- ---- the lower end, in either

pub lower_fits : (m : Model) (c : Certificate) → IsModel m → IsValid m c → unsigned_abs c.lower ≤ 2 ^ 126
lower_fits m c is v = by c.is_exact refl
  where
    steps : (0 < c.horizon) × (c.horizon ≤ 24)
    steps = steps_within m c.horizon c.version v.within

    by : (e : Bool) → c.is_exact ≡ e → unsigned_abs c.lower ≤ 2 ^ 126
    by true e =
        let value = ap unsigned_abs (lower_is_value m c v e) in
        let policy = unfolded_is_policy m c.horizon c.policy v.policy.shared in
        let small = exact_value_fits m is c.horizon steps.0 steps.1 (sym e ∙ v.mode) (unfolded c.policy)
        policy in
        omega (arith, value, small)
    by false e =
        let low = ap unsigned_abs
        (v.lower ∙ ap (λ (t : Bool). (shared_worth_in (arithmetic t m.scales) m c.horizon c.policy).low) e) in
        let small = outward_low_fits m is c.horizon steps.0 steps.1 (sym e ∙ v.mode) c.policy v.policy.shared in
        omega (arith, low, small)

-- ---- the upper end

-- the bound of a front that can be refined
bound_fits : (A : Arithmetic) (m : Model) (h look r : ℕ) (F : Front) → F.stage + suc r ≡ h → CanRefine A m h F
    → unsigned_abs (front_bound A m h look F) ≤ 2 ^ 126
unfolding front_bound class_look_size
bound_fits A m h look r F e can =
    let left : h - F.stage ≡ suc r = omega (arith, e) in
    let N = product (class_counts F.agents) in
    let best = λ (C : ℕ). greatest (λ a. action_look_ahead_in A m r (class_weight_in A m F C) a look)
    (agreeing_actions m F C) in
    let E = (earned_reward_in A m (fixed_joint_action m F) h F.stage).high in
    let room = can.bound r look e in
    let earned = earned_size_le A m (fixed_joint_action m F) h F.stage in
    let sums = int_sum_abs N best in
    let both = abs_add E (int_sum N best) in
    let is : bound_in A m (h - F.stage) F look ≡ E +ℤ int_sum N best =
    ap (λ k. bound_in A m k F look) left
    ∙ ap (λ (z : ℕ). (earned_reward_in A m (fixed_joint_action m F) z F.stage).high +ℤ int_sum N best) e in
    let same = ap unsigned_abs is in
    omega (arith, room, earned, sums, both, same)

least_first : (a b : ℤ) → int_min a b ≤ℤ a
least_first a b = omega (arith, ints, clamps)

mutual
  -- no leaf of a tree that fits a front states more than the least bound on its path
  leaves_below : (A : Arithmetic) (m : Model) (h look above : ℕ) (T : BoundTree) (F : Front) (cap u : ℤ)
      → FitsFront A m h look above T F cap → cap ≤ℤ u → LeavesAtMost u T
  leaves_below A m h look above (leaf x) F cap u fits le = omega (arith, ints, fits, le)
  leaves_below A m h look above (branch i c ks) F cap u fits le = each_below A m h look (suc above)
      ks F i c 0 cap
      u fits.2 le
  leaves_below A m h look above (merge i a b k) F cap u fits le =
      let least = front_bound A m h look (merged_front F i a b) in
      leaves_below A m h look (suc above) k (merged_front F i a b) (int_min cap least) u fits.5
      (zle_trans (int_min cap least) cap u (least_first cap least) le)

  each_below : (A : Arithmetic) (m : Model) (h look above : ℕ) (ks : BoundTrees) (F : Front) (i c a : ℕ)
      (cap u : ℤ)
      → FitEachAction A m h look above ks F i c a cap → cap ≤ℤ u → AllLeavesAtMost u ks
  each_below A m h look above no_bound_trees F i c a cap u fits le = tt
  each_below A m h look above (more_bound_trees k ks) F i c a cap u fits le =
      let least = front_bound A m h look (front_after_choice m F i c a) in (
        leaves_below A m h look above k (front_after_choice m F i c a) (int_min cap least) u fits.0
            (zle_trans (int_min cap least) cap u (least_first cap least) le),
        each_below A m h look above ks F i c (suc a) cap u fits.1 le,
      )

root_stage : (m : Model) → (root_front m).stage ≡ 0
unfolding root_front
root_stage m = refl

-- the bound of the root front
root_fits : (m : Model) → IsModel m → (h look : ℕ) → 0 < h → h ≤ 24 → (e : Bool) → e ≡ is_exact_mode m h
    → unsigned_abs (front_bound (arithmetic e m.scales) m h look (root_front m)) ≤ 2 ^ 126
root_fits m is h look some most e mode =
    let start = root_stage m in
    let F = root_front m in
    let few = is.sizes.states_limit in
    let cells : m.states * joint_observations m ^ F.stage ≤ 2 ^ 22 =
    let none = ap (λ t. m.states * joint_observations m ^ t) start in
    let one = pow-zero (joint_observations m) in
    let times = ap (λ t. m.states * t) one in omega (arith, none, times, few) in
    bound_fits (arithmetic e m.scales) m h look (h - 1) F (omega (arith, start, some))
    (mode_can_refine m is h some most e mode F (root_is_front m h is) (omega (arith, start, some))
    (λ outward. cells))

pub upper_fits : (m : Model) (c : Certificate) → IsModel m → IsValid m c → unsigned_abs c.upper ≤ 2 ^ 126
upper_fits m c is v =
    let steps = steps_within m c.horizon c.version v.within in
    let A = arithmetic_for m c in
    let cap = front_bound A m c.horizon c.look (root_front m) in
    let root = root_fits m is c.horizon c.look steps.0 steps.1 c.is_exact v.mode in
    let below = leaves_below A m c.horizon c.look 0 c.tree (root_front m) cap cap v.tree
    (zle_of cap cap refl) in
    let most : greatest_leaf c.tree ≤ℤ cap =
    greatest_leaf_below A m is c.horizon c.look cap 0 c.tree (root_front m) cap (root_is_front m c.horizon is)
    v.tree below in
    let order = ends_in_order m c is v in
    let lower = lower_fits m c is v in
    between c.lower c.upper cap (2 ^ 126) lower root order (subst (λ (x : ℤ). x ≤ℤ cap) (sym v.upper) most)
  where
    between : (low x high : ℤ) (n : ℕ) → unsigned_abs low ≤ n → unsigned_abs high ≤ n → low ≤ℤ x → x ≤ℤ high →
        unsigned_abs x ≤ n
    between low x high n a b p q = omega (arith, ints, a, b, p, q)

-- ---- the unit

pub units : (m : Model) → IsModel m → (c : Certificate) → IsValid m c → (pos 1 ≤ℤ c.unit) × (c.unit ≤ℤ pos (2 ^ 126))
units m is c valid =
    let u = unit_fits m is c.horizon (steps_within m c.horizon c.version valid.within).0 in
    let unit = valid.unit in
    (omega (arith, ints, u.0, unit), omega (arith, ints, u.1, unit))
