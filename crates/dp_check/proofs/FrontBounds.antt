-- What is known of a front that a check bounds, and its bound as the code adds it up.
use Rattle.std.proofs.Common.{◌≡◌, ℕ, suc, ◌+◌, ◌-◌, ◌*◌, ◌^◌, ◌<◌, ◌≤◌, Bool, ℤ, pos, ◌+ℤ◌, unsigned_abs, List}
use Rattle.std.proofs.Common.{length, get_or, sym, ap, ◌∙◌, subst, arith}
use Rattle.std.proofs.lemmas.Int.{ints}
use Rattle.std.proofs.Math.Nat.{mul-le-mul_right}
use Rattle.dp_base.specs.Sums.{greatest, int_sum}
use Rattle.dp_base.proofs.GreatestValues.{greatest_ext}
use Rattle.dp_spec.specs.declared.span.Span.{Span}
use Rattle.dp_spec.specs.Arithmetic.{Arithmetic, arithmetic}
use Rattle.dp_spec.specs.Bound.{agreeing_actions}
use Rattle.dp_spec.specs.Fitting.{front_bound}
use Rattle.dp_spec.specs.Front.{Front, class_counts, fixed_joint_action}
use Rattle.dp_spec.specs.JointNumbers.{product}
use Rattle.dp_spec.specs.Mode.{is_exact_mode}
use Rattle.dp_spec.specs.Model.{Model, joint_actions}
use Rattle.dp_spec.specs.Quantities.{action_look_ahead_in, bound_in, class_weight_in, earned_reward_in}
use Rattle.dp_spec.specs.Sizes.{AreWeights}
use Rattle.dp_spec.specs.SizesOfFronts.{CanRefine, class_look_size}
use Rattle.dp_spec.specs.WellFormed.{IsFront}
use Rattle.dp_laws.proofs.EqualWeights.{weights_same}
use Rattle.dp_laws.proofs.FrontRoom.{apart_within_cells}
use Rattle.dp_laws.proofs.SizeLaws.{arithmetic_is_exact, mode_can_refine}
use Rattle.dp_laws.proofs.SizeSums.{abs_add, agreeing_below, earned_size_le, int_sum_part}
use Rattle.dp_cluster.specs.KeptFronts.{KeptFront, kept_weight}
use Rattle.dp_value.specs.WeightUpdates.{weights_of}
use Rattle.dp_check.specs.Bounding.{AreLookAheads, IsBounding, IsWithRoom, arithmetic_of, look_ahead_at}
use Rattle.dp_check.specs.declared.bounds.Bounds.{Bounds}
use Rattle.dp_check.proofs.LookRows.{rows_at, rows_length}
use Rattle.dp_laws.proofs.EqualWeights.{action_look_ahead_in_ext}

row_end : (C n width : ℕ) → C < n → C * width + width ≤ n * width
row_end C n width p = let le = mul-le-mul_right width p in omega arith

module _ (m : Model) (b : Bounds) (with : IsBounding m b) (k : KeptFront) (is : IsWithRoom m b k) where
  abbrev A : Arithmetic
  A = arithmetic_of m b

  abbrev h : ℕ
  h = b.fit.horizon

  abbrev F : Front
  F = k.front

  -- the mode of the front is that of the fit
  pub same_mode : k.is_exact ≡ b.fit.exact
  same_mode = is.of_model.mode ∙ ap (λ (z : ℕ). is_exact_mode m z) is.horizon ∙ sym with.fit.mode

  pub earned_is : k.earned ≡ earned_reward_in A m (fixed_joint_action m F) h F.stage
  earned_is =
      is.of_model.earned ∙ (λ j. earned_reward_in (arithmetic (same_mode j) m.scales) m (fixed_joint_action m F)
      (is.horizon j) F.stage)

  module _ (lt : F.stage < h) where
    pub early : F.stage < k.horizon
    early = subst (λ (z : ℕ). F.stage < z) (sym is.horizon) lt

    pub weight_is : (C s : ℕ) → C < product (class_counts F.agents) → s < m.states
        → kept_weight k C s ≡ class_weight_in A m F C s
    weight_is C s p q = is.of_model.weights early C s p q ∙ ap
        (λ (e : Bool). class_weight_in (arithmetic e m.scales) m F C s) same_mode

    pub can_refine : CanRefine A m h F
    can_refine =
        let front = is.of_model.front in
        let front' = subst (λ (z : ℕ). IsFront m z F) is.horizon front in
        mode_can_refine m is.of_model.model h with.fit.horizon.0 with.fit.horizon.1 b.fit.exact with.fit.mode F
        front' lt
        (λ e. apart_within_cells m h F front' lt (is.of_model.apart (same_mode ∙ e)) is.room)

    -- weights that are those of a joint class are weights of the stage
    pub class_weights_are : (C : ℕ) (ws : List Span) → C < product (class_counts F.agents)
        → ((s : ℕ) → s < k.states → weights_of ws s ≡ kept_weight k C s)
        → AreWeights b.fit.exact m F.stage (weights_of ws)
    class_weights_are C ws p are =
        let known = subst (λ (e : Bool). AreWeights e m F.stage (class_weight_in A m F C))
        (arithmetic_is_exact b.fit.exact m.scales) (can_refine.weights C) in
        weights_same b.fit.exact m F.stage (class_weight_in A m F C) (weights_of ws)
        (λ s q. sym (are s (subst (λ (z : ℕ). s < z) (sym is.of_model.states) q) ∙ weight_is C s p q)) known

    -- look-ahead from them is that of the joint class
    pub look_is : (C a : ℕ) (ws : List Span) → C < product (class_counts F.agents)
        → ((s : ℕ) → s < k.states → weights_of ws s ≡ kept_weight k C s)
        → action_look_ahead_in A m (h - F.stage - 1) (weights_of ws) a b.look ≡ look_ahead_at m b F C a
    look_is C a ws p are =
        action_look_ahead_in_ext A m (h - F.stage - 1) b.look (weights_of ws) (class_weight_in A m F C) a
        (λ s q. are s (subst (λ (z : ℕ). s < z) (sym is.of_model.states) q) ∙ weight_is C s p q)

    -- ---- the sum

    abbrev E : ℤ
    E = (earned_reward_in A m (fixed_joint_action m F) h F.stage).high

    abbrev best : ℕ → ℤ
    best C = greatest (look_ahead_at m b F C) (agreeing_actions m F C)

    -- so far as the first joint classes
    abbrev pub bound_to : ℕ → ℤ
    bound_to n = E +ℤ int_sum n best

    pub best_is : (C : ℕ) (row : List ℤ) (looks : List ℤ) → C < product (class_counts F.agents)
        → AreLookAheads m b F looks
        → ((a : ℕ) → a < joint_actions m → get_or row a (pos 0)
        ≡ get_or looks (C * joint_actions m + a) (pos 0))
        → greatest (λ a. get_or row a (pos 0)) (agreeing_actions m F C) ≡ best C
    best_is C row looks p rows are =
        greatest_ext _ _ (agreeing_actions m F C) (λ a i.
        let q = agreeing_below m F C a i in
        are a q ∙ ap (λ l. get_or l (C * joint_actions m + a) (pos 0)) (rows lt)
        ∙ rows_at (look_ahead_at m b F) (joint_actions m) (product (class_counts F.agents)) C a (pos 0) p q)

    pub looks_long : (looks : List ℤ) → AreLookAheads m b F looks
        → length looks ≡ product (class_counts F.agents) * joint_actions m
    looks_long looks rows = ap length (rows lt) ∙ rows_length (look_ahead_at m b F) (joint_actions m)
        (product (class_counts F.agents))

    -- it fits its type
    pub bound_small : (n : ℕ) → n ≤ product (class_counts F.agents) → unsigned_abs (bound_to n) < 2 ^ 127
    unfolding class_look_size
    bound_small n le =
        let e : F.stage + suc (h - F.stage - 1) ≡ h = omega arith in
        let room = can_refine.bound (h - F.stage - 1) b.look e in
        let earned = earned_size_le A m (fixed_joint_action m F) h F.stage in
        let sums = int_sum_part n (product (class_counts F.agents)) best le in
        let both = abs_add E (int_sum n best) in omega arith

    pub bound_is : (n : ℕ) → n ≡ product (class_counts F.agents) → bound_to n ≡ front_bound A m h b.look F
    unfolding front_bound
    bound_is n all =
        let left : h - F.stage ≡ suc (h - F.stage - 1) = omega arith in
        let e : h ≡ F.stage + suc (h - F.stage - 1) = omega arith in
        ap bound_to all
        ∙ ap (λ (z : ℕ). (earned_reward_in A m (fixed_joint_action m F) z F.stage).high +ℤ int_sum
        (product (class_counts F.agents)) best) e
        ∙ ap (λ (z : ℕ). bound_in A m z F b.look) (sym left)

    nothing_added : (x : ℤ) → x ≡ x +ℤ pos 0
    nothing_added x = omega (arith, ints)

    -- nothing is added yet
    pub bound_start : (x : ℤ) → x ≡ k.earned.high → x ≡ bound_to 0
    bound_start x e = e ∙ ap (λ (w : Span). w.high) earned_is ∙ nothing_added E

    -- the row of a joint class, of so many numbers, is there, and its greatest number is added
    pub row_room : (looks : List ℤ) → AreLookAheads m b F looks → (C width : ℕ) → width ≡ joint_actions m
        → C < product (class_counts F.agents) → C * width + width ≤ length looks
    row_room looks rows C width e p =
        let last = row_end C (product (class_counts F.agents)) width p in
        let long = looks_long looks rows in rw (long, ← e) last

    pub added : (looks : List ℤ) → AreLookAheads m b F looks → (C width : ℕ) (row : List ℤ)
        → width ≡ joint_actions m
        → C < product (class_counts F.agents)
        → ((a : ℕ) → a < width → get_or row a (pos 0) ≡ get_or looks (C * width + a) (pos 0))
        → greatest (λ a. get_or row a (pos 0)) (agreeing_actions m F C) ≡ best C
    added looks rows C width row e p are =
        best_is C row looks p rows
        (subst (λ (z : ℕ). (a : ℕ) → a < z → get_or row a (pos 0) ≡ get_or looks (C * z + a) (pos 0)) e are)

  -- at the horizon the bound is what is earned
  pub earned_bound : F.stage ≡ h → k.earned.high ≡ front_bound A m h b.look F
  unfolding front_bound
  earned_bound e =
      let none : h - F.stage ≡ 0 = omega arith in
      let same : h ≡ F.stage + 0 = omega arith in
      ap (λ (w : Span). w.high) earned_is ∙ ap (λ (z : ℕ). (earned_reward_in A m (fixed_joint_action m F)
      z F.stage).high) same
      ∙ ap (λ (z : ℕ). bound_in A m z F b.look) (sym none)
