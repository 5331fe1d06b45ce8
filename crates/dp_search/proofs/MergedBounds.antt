-- A merge of two equivalent classes leaves the bound of a front as it is, in exact numbers.
use Rattle.std.proofs.Common.{◌≡◌, ◌≢◌, inl, inr, ℕ, zero, suc, ◌+◌, ◌-◌, ◌*◌, ◌<◌, ◌≤◌, cond, eqb, ℤ, pos}
use Rattle.std.proofs.Common.{◌+ℤ◌, ◌*ℤ◌, List, length, get_or, sym, ap, subst, ◌∙◌, arith}
use Rattle.std.proofs.lemmas.Bool.{cases_eq, cases_lt}
use Rattle.std.proofs.lemmas.Int.{ints}
use Rattle.std.proofs.Math.IntN.{zero-*ℤ}
use Rattle.dp_base.specs.Sums.{greatest, int_sum}
use Rattle.dp_base.proofs.GreatestValues.{greatest_ext, greatest_times}
use Rattle.dp_base.proofs.Order.{le_of_mul_le_left}
use Rattle.dp_base.proofs.Ring.{zadd_mul, zle_of, zmul_add}
use Rattle.dp_base.proofs.Sums.{int_sum_add, int_sum_ext, int_sum_out, ite_same}
use Rattle.dp_spec.specs.Arithmetic.{exact}
use Rattle.dp_spec.specs.Bound.{agreeing_actions, bound_of}
use Rattle.dp_spec.specs.Fitting.{front_bound}
use Rattle.dp_spec.specs.Front.{Front, class_counts, class_weight}
use Rattle.dp_spec.specs.JointHistory.{earned_reward}
use Rattle.dp_spec.specs.JointNumbers.{product}
use Rattle.dp_spec.specs.LookAhead.{action_look_ahead, look_ahead, weights_after}
use Rattle.dp_spec.specs.Merge.{AreEquivalent, class_total, kept_class, merged_agents, merged_front, place_weight}
use Rattle.dp_spec.specs.Merge.{placed_number, without}
use Rattle.dp_spec.specs.Model.{IsModel, Model, joint_observations}
use Rattle.dp_spec.specs.Steps.{IsUnassigned}
use Rattle.dp_spec.specs.WellFormed.{IsFront}
use Rattle.dp_laws.proofs.EmptyClasses.{no_weight}
use Rattle.dp_laws.proofs.MergedBound.{int_sum_skip}
use Rattle.dp_laws.proofs.EarnedValue.{look_ahead_ext, weighted_reward_ext, weights_after_ext}
use Rattle.dp_laws.proofs.JointPlaces.{int_sum_placed}
use Rattle.dp_laws.proofs.MergedFronts.{agreeing_either, agreeing_kept, as_many_merged, counts_of_others}
use Rattle.dp_laws.proofs.MergedFronts.{joined_weight, kept_below, kept_low, kept_weight, one_class_less}
use Rattle.dp_laws.proofs.MergedFronts.{placed_weight, unassigned_agent}
use Rattle.dp_laws.proofs.MergedTrees.{fixed_joint_action_merged}
use Rattle.dp_laws.proofs.QuantityLaws.{exact_quantities}
use Rattle.dp_laws.proofs.ScaledWeights.{action_look_ahead_of_scaled}
use Rattle.dp_laws.proofs.WellFormedSteps.{merged_is_front}

-- ---- sums with one class less

together_is : (x y fa ga gb ga' : ℤ) → x ≡ y → ga' ≡ ga → fa ≡ ga +ℤ gb → x +ℤ fa ≡ (y +ℤ ga') +ℤ gb
together_is x y fa ga gb ga' e f h = omega (arith, ints)

-- where place a is the places a and b together, and the others stay
int_sum_joined : (k a b : ℕ) (f g : ℕ → ℤ) → a < b → b ≤ k → ((c : ℕ) → c < k → a ≢ c
    → f c ≡ g (kept_class b c))
    → f a ≡ g a +ℤ g b → int_sum k f ≡ int_sum (suc k) g
int_sum_joined k a b f g ab bk others here =
    let old = λ (c : ℕ). g (kept_class b c) in
    let a_in : a < k = omega arith in
    let rest : int_sum k (λ c. cond (eqb a c) (pos 0) (f c)) ≡ int_sum k (λ c. cond (eqb a c) (pos 0) (old c)) =
    int_sum_ext k _ _ (λ c p. elim (cases_eq a c) [
      | inl e ↦ rw (e, ite_same c (pos 0) (f c), ite_same c (pos 0) (old c))
      | inr ne ↦ ap (cond (eqb a c) (pos 0)) (others c p ne)
    ]) in
    int_sum_out k a f a_in ∙ together_is _ _ (f a) (g a) (g b) (old a) rest (ap g (sym (kept_low b a ab))) here
    ∙ sym (int_sum_skip k b g bk ∙ ap (λ z. z +ℤ g b) (int_sum_out k a old a_in))

-- ---- the best look-ahead from weights

cancelled : (n : ℕ) (a b : ℤ) → 0 < n → pos n *ℤ a ≡ pos n *ℤ b → a ≡ b
cancelled n a b some e =
    let below = le_of_mul_le_left n a b some (zle_of _ _ e) in
    let above = le_of_mul_le_left n b a some (zle_of _ _ (sym e)) in omega (arith, ints)

zero_times : (n : ℕ) → 0 ≡ 0 * n
zero_times n = omega arith

times_sum : (t w v u z : ℕ) → w * u ≡ v * t → z ≡ w + v → t * z ≡ (t + u) * w
times_sum t w v u z e is = rw is (omega (arith, e))

other_sum : (t w v u z : ℕ) → w * u ≡ v * t → z ≡ w + v → u * z ≡ (t + u) * v
other_sum t w v u z e is = rw is (omega (arith, e))

both_sums : (t u : ℕ) (x y z : ℤ) → pos t *ℤ z ≡ pos (t + u) *ℤ x → pos u *ℤ z ≡ pos (t + u) *ℤ y
    → pos (t + u) *ℤ z ≡ pos (t + u) *ℤ (x +ℤ y)
both_sums t u x y z first second =
    zadd_mul (pos t) (pos u) z ∙ (λ j. first j +ℤ second j) ∙ sym (zmul_add (pos (t + u)) x y)

module _ (m : Model) (r look : ℕ) (l : List ℕ) where
  abbrev best : (ℕ → ℕ) → ℤ
  best w = greatest (λ y. action_look_ahead m r w y look) l

  action_ext : (w u : ℕ → ℕ) (y : ℕ) → ((s : ℕ) → s < m.states → w s ≡ u s)
      → action_look_ahead m r w y look ≡ action_look_ahead m r u y look
  unfolding action_look_ahead
  action_ext w u y same =
      (λ j. weighted_reward_ext m r w u y same j
      +ℤ int_sum_ext (joint_observations m) (λ o. look_ahead m r (weights_after m w y o) (look - 1))
      (λ o. look_ahead m r (weights_after m u y o) (look - 1))
      (λ o p. look_ahead_ext m r (look - 1) (weights_after m w y o) (weights_after m u y o)
      (λ t q. weights_after_ext m w u y o t same)) j)

  best_ext : (w u : ℕ → ℕ) → ((s : ℕ) → s < m.states → w s ≡ u s) → best w ≡ best u
  best_ext w u same = greatest_ext _ _ l (λ y i. action_ext w u y same)

  best_times : (k : ℕ) (w : ℕ → ℕ) → best (λ s. k * w s) ≡ pos k *ℤ best w
  best_times k w =
      greatest_ext _ (λ y. pos k *ℤ action_look_ahead m r w y look) l
      (λ y i. action_look_ahead_of_scaled m r look k w y)
      ∙ greatest_times k (λ y. action_look_ahead m r w y look) l

  -- without weight nothing is earned
  best_none : (w : ℕ → ℕ) → ((s : ℕ) → s < m.states → w s ≡ 0) → best w ≡ pos 0
  best_none w none =
      best_ext w (λ s. 0 * w s) (λ s p. none s p ∙ zero_times (w s))
      ∙ best_times 0 w ∙ zero-*ℤ (best w)

  module _ (t u : ℕ) (w v z : ℕ → ℕ) (alike : (s : ℕ) → s < m.states → w s * u ≡ v s * t)
      (sum : (s : ℕ) → s < m.states → z s ≡ w s + v s) where
    -- weights in proportion have their best look-ahead together
    best_of_some : 0 < t + u → best z ≡ best w +ℤ best v
    best_of_some some =
        cancelled (t + u) (best z) (best w +ℤ best v) some (both_sums t u (best w) (best v) (best z)
        (sym (best_times t z) ∙ best_ext (λ s. t * z s) (λ s. (t + u) * w s)
        (λ s p. times_sum t (w s) (v s) u (z s) (alike s p) (sum s p)) ∙ best_times (t + u) w)
        (sym (best_times u z) ∙ best_ext (λ s. u * z s) (λ s. (t + u) * v s)
        (λ s p. other_sum t (w s) (v s) u (z s) (alike s p) (sum s p)) ∙ best_times (t + u) v))

    -- and so have those without weight
    best_of_none : ((s : ℕ) → s < m.states → w s ≡ 0) → ((s : ℕ) → s < m.states → v s ≡ 0)
        → best z ≡ best w +ℤ best v
    best_of_none w_none v_none =
        best_none z (λ s p. sum s p ∙ (λ j. w_none s p j + v_none s p j))
        ∙ sym (λ j. best_none w w_none j +ℤ best_none v v_none j)

    pub best_together : (t ≡ 0 → (s : ℕ) → s < m.states → w s ≡ 0) → (u ≡ 0 → (s : ℕ) → s < m.states → v s ≡ 0)
        → best z ≡ best w +ℤ best v
    best_together w_none v_none = elim (cases_lt 0 (t + u)) [
      | inl some ↦ best_of_some some
      | inr none ↦
          let t_none : t ≡ 0 = omega arith in
          let u_none : u ≡ 0 = omega arith in
          best_of_none (w_none t_none) (v_none u_none)
    ]

-- ---- the bounds of joint classes

module _ (m : Model) (h r look : ℕ) (F : Front) (front : IsFront m h F) (lt : F.stage < h) (i a b : ℕ)
    (ab : a < b) (free_a : IsUnassigned i a F.agents) (free_b : IsUnassigned i b F.agents)
    (alike : AreEquivalent m F i a b) where
  abbrev G : Front
  G = merged_front F i a b

  abbrev counts : List ℕ
  counts = class_counts F.agents

  abbrev merged : List ℕ
  merged = class_counts (merged_agents i a b F.agents)

  -- the bound of a joint class
  abbrev of_class : Front → ℕ → ℤ
  of_class F' C = best m r look (agreeing_actions m F' C) (class_weight m F' C)

  a_free : (i < length counts) × (a < get_or counts i 0)
  a_free = unassigned_agent i a F.agents free_a

  b_free : (i < length counts) × (b < get_or counts i 0)
  b_free = unassigned_agent i b F.agents free_b

  i_in_merged : i < length merged
  i_in_merged = omega (arith, a_free.0, as_many_merged i a b F.agents)

  in_merged : (x : ℕ) → x < product (without i counts) → x < product (without i merged)
  in_merged x p = subst (λ (z : List ℕ). x < product z) (sym (counts_of_others i a b F.agents)) p

  weight_in_merged : (c x s : ℕ) → c < get_or merged i 0 → x < product (without i counts)
      → class_weight m G (placed_number i merged c x) s ≡ place_weight m G i c x s
  weight_in_merged c x s hc hx = placed_weight m h G (merged_is_front m h F i a b front lt ab free_a free_b)
      i i_in_merged c x s hc (in_merged x hx)

  kept_in : (c : ℕ) → c < get_or merged i 0 → kept_class b c < get_or counts i 0
  kept_in c hc = kept_below b c _ _ hc (one_class_less i a b F.agents free_b)

  -- a joint class without the joined one is bounded as before
  kept_is : (c x : ℕ) → c < get_or merged i 0 → a ≢ c → x < product (without i counts)
      → of_class G (placed_number i merged c x) ≡ of_class F (placed_number i counts (kept_class b c) x)
  kept_is c x hc ne hx =
      let weights : (s : ℕ) → class_weight m G (placed_number i merged c x) s
      ≡ class_weight m F (placed_number i counts (kept_class b c) x) s =
      λ s. weight_in_merged c x s hc hx ∙ kept_weight m F i a b ab c x s ne
      ∙ sym (placed_weight m h F front i a_free.0 (kept_class b c) x s (kept_in c hc) hx) in
      let actions = agreeing_kept m F i a b free_a free_b c x hc hx in
      λ j. best m r look (actions j) (λ s. weights s j)

  a_in_merged : a < get_or merged i 0
  a_in_merged = omega (arith, b_free.1, ab, one_class_less i a b F.agents free_b)

  -- a joint class with the joined one is bounded by the two together
  joined_is : (x : ℕ) → x < product (without i counts)
      → of_class G (placed_number i merged a x)
      ≡ of_class F (placed_number i counts a x) +ℤ of_class F (placed_number i counts b x)
  joined_is x hx =
      let A = placed_number i counts a x in
      let B = placed_number i counts b x in
      let t = class_total m F i a in
      let u = class_total m F i b in
      let own = λ (s : ℕ). placed_weight m h F front i a_free.0 a x s a_free.1 hx in
      let other = λ (s : ℕ). placed_weight m h F front i a_free.0 b x s b_free.1 hx in
      let actions = agreeing_kept m F i a b free_a free_b a x a_in_merged hx
      ∙ ap (λ (c : ℕ). agreeing_actions m F (placed_number i counts c x)) (sym (kept_low b a ab)) in
      ap (λ l. best m r look l (class_weight m G (placed_number i merged a x))) actions
      ∙ best_together m r look (agreeing_actions m F A) t u (class_weight m F A) (class_weight m F B)
      (class_weight m G (placed_number i merged a x))
      (λ s p. ap (λ n. n * u) (own s) ∙ alike.same x s hx p ∙ ap (λ n. n * t) (sym (other s)))
      (λ s p. weight_in_merged a x s a_in_merged hx ∙ joined_weight m F i a b ab x s
      ∙ (λ j. sym (own s) j + sym (other s) j))
      (λ none s p. own s ∙ no_weight m F i a x s none p)
      (λ none s p. other s ∙ no_weight m F i b x s none p)
      ∙ ap (λ l. of_class F A +ℤ best m r look l (class_weight m F B))
      (sym (agreeing_either m F i a b free_a free_b x hx))

  -- all joint classes together
  joint_classes_are : int_sum (product merged) (of_class G) ≡ int_sum (product counts) (of_class F)
  joint_classes_are =
      let P = product (without i counts) in
      let k = get_or merged i 0 in
      let less = one_class_less i a b F.agents free_b in
      let old = λ (c : ℕ). int_sum P (λ x. of_class F (placed_number i counts c x)) in
      let new = λ (c : ℕ). int_sum P (λ x. of_class G (placed_number i merged c x)) in
      int_sum_placed i merged i_in_merged (of_class G)
      ∙ ap (λ z. int_sum k (λ c. int_sum (product z) (λ x. of_class G (placed_number i merged c x))))
      (counts_of_others i a b F.agents)
      ∙ int_sum_joined k a b new old ab (omega (arith, b_free.1, less))
      (λ c p ne. int_sum_ext P _ _ (λ x hx. kept_is c x p ne hx))
      (int_sum_ext P _ _ (λ x hx. joined_is x hx)
      ∙ int_sum_add P (λ x. of_class F (placed_number i counts a x))
      (λ x. of_class F (placed_number i counts b x)))
      ∙ ap (λ (n : ℕ). int_sum n old) less ∙ sym (int_sum_placed i counts a_free.0 (of_class F))

-- a bound is as before after a merge of equivalent classes
merged_bound_of : (m : Model) (h r look : ℕ) (F : Front) (i a b : ℕ) → IsFront m h F → F.stage < h → a < b
    → IsUnassigned i a F.agents → IsUnassigned i b F.agents → AreEquivalent m F i a b
    → bound_of m r (merged_front F i a b) look ≡ bound_of m r F look
merged_bound_of m h zero look F i a b front lt ab free_a free_b alike =
    ap (λ act. earned_reward m act (F.stage + 0) F.stage) (fixed_joint_action_merged m F i a b)
merged_bound_of m h (suc r) look F i a b front lt ab free_a free_b alike =
    (λ j. earned_reward m (fixed_joint_action_merged m F i a b j) (F.stage + suc r) F.stage
    +ℤ joint_classes_are m h r look F front lt i a b ab free_a free_b alike j)

pub merged_bound_is : (m : Model) → IsModel m → (h look : ℕ) (F : Front) (i a b : ℕ) → IsFront m h F
    → F.stage < h → a < b → IsUnassigned i a F.agents → IsUnassigned i b F.agents → AreEquivalent m F i a b
    → front_bound (exact m.scales) m h look (merged_front F i a b) ≡ front_bound (exact m.scales) m h look F
unfolding front_bound
merged_bound_is m is h look F i a b front lt ab free_a free_b alike =
    (exact_quantities m is).bounds (h - F.stage) (merged_front F i a b) look
    ∙ merged_bound_of m h (h - F.stage) look F i a b front lt ab free_a free_b alike
    ∙ sym ((exact_quantities m is).bounds (h - F.stage) F look)
