-- a bound does not grow by merging
use Rattle.std.proofs.Common.{◌≡◌, ◌≢◌, inl, inr, ℕ, zero, suc, ◌+◌, ◌<◌, ◌≤◌, cond, eqb, ℤ, pos, ◌+ℤ◌, ◌≤ℤ◌, List}
use Rattle.std.proofs.Common.{length, get_or, sym, ap, ◌∙◌, subst, arith}
use Rattle.std.proofs.lemmas.Int.{ints}
use Rattle.dp_laws.proofs.JointPlaces.{int_sum_placed}
use Rattle.dp_laws.proofs.LinearSteps.{action_look_ahead_together}
use Rattle.dp_laws.proofs.MergedFronts.{agreeing_either, agreeing_kept, as_many_merged, counts_of_others}
use Rattle.dp_laws.proofs.MergedFronts.{joined_weight, kept_below, kept_high, kept_low, kept_weight, one_class_less}
use Rattle.dp_laws.proofs.MergedFronts.{placed_weight, unassigned_agent}
use Rattle.dp_laws.proofs.MergedTrees.{fixed_joint_action_merged}
use Rattle.dp_base.proofs.Ring.{zadd_le, zle_of, zle_trans}
use Rattle.dp_base.proofs.Sums.{int_sum_add, int_sum_ext, int_sum_le, int_sum_out, ite_same}
use Rattle.dp_laws.proofs.WellFormedSteps.{merged_is_front}
use Rattle.dp_spec.specs.Bound.{agreeing_actions, bound_of}
use Rattle.dp_spec.specs.Front.{Front, class_counts, class_weight}
use Rattle.dp_spec.specs.JointHistory.{earned_reward}
use Rattle.dp_spec.specs.JointNumbers.{product}
use Rattle.dp_spec.specs.LookAhead.{action_look_ahead}
use Rattle.dp_spec.specs.Merge.{merged_agents, merged_front, place_weight, without, kept_class, placed_number}
use Rattle.dp_spec.specs.Model.{Model}
use Rattle.dp_spec.specs.Steps.{IsUnassigned}
use Rattle.dp_base.specs.Sums.{greatest, int_sum}
use Rattle.dp_spec.specs.WellFormed.{IsFront}
use Rattle.dp_base.proofs.GreatestValues.{greatest_of_sums}
use Rattle.std.proofs.lemmas.Bool.{cases_eq, cases_lt}

-- ---- sums with one class less
swap_last : (x y z w : ℤ) → z ≡ w → (x +ℤ y) +ℤ z ≡ (x +ℤ w) +ℤ y
swap_last x y z w e = omega (arith, ints)

-- a sum without place b, and that place
pub int_sum_skip : (k b : ℕ) (g : ℕ → ℤ) → b ≤ k → int_sum (suc k) g ≡ int_sum k (λ c. g (kept_class b c)) +ℤ g b
int_sum_skip zero b g h = let e : zero ≡ b = omega arith in ap (λ z. pos 0 +ℤ g z) e
int_sum_skip (suc k) b g h =
    elim (cases_lt k b) [
      | inl lt ↦
          let e : suc k ≡ b = omega arith in
          let rest = int_sum_ext (suc k) g (λ c. g (kept_class b c))
          (λ c p. ap g (kept_low b c (omega arith))) in
          λ j. rest j +ℤ g (e j)
      | inr le ↦
          ap (λ z. z +ℤ g (suc k)) (int_sum_skip k b g le)
          ∙ swap_last (int_sum k (λ c. g (kept_class b c))) (g b) (g (suc k)) (g (kept_class b k))
          (ap g (kept_high b k le))
    ]

together_le : (x y fa ga gb ga' : ℤ) → x ≡ y → ga' ≡ ga → fa ≤ℤ (ga +ℤ gb) → (x +ℤ fa) ≤ℤ ((y +ℤ ga') +ℤ gb)
together_le x y fa ga gb ga' e f h = omega (arith, ints)

-- where place a is at most the places a and b together, and the others stay
int_sum_joined : (k a b : ℕ) (f g : ℕ → ℤ) → a < b → b ≤ k → ((c : ℕ) → c < k → a ≢ c
    → f c ≡ g (kept_class b c))
    → f a ≤ℤ (g a +ℤ g b) → int_sum k f ≤ℤ int_sum (suc k) g
int_sum_joined k a b f g ab bk others here =
    let old = λ (c : ℕ). g (kept_class b c) in
    let a_in : a < k = omega arith in
    let rest : int_sum k (λ c. cond (eqb a c) (pos 0) (f c)) ≡ int_sum k (λ c. cond (eqb a c) (pos 0) (old c)) =
    int_sum_ext k _ _ (λ c p. elim (cases_eq a c) [
      | inl e ↦ rw (e, ite_same c (pos 0) (f c), ite_same c (pos 0) (old c))
      | inr ne ↦ ap (cond (eqb a c) (pos 0)) (others c p ne)
    ]) in
    zle_trans _ _ _ (zle_of _ _ (int_sum_out k a f a_in))
    (zle_trans _ _ _ (together_le _ _ (f a) (g a) (g b) (old a) rest (ap g (sym (kept_low b a ab))) here)
    (zle_of _ _ (sym (int_sum_skip k b g bk ∙ ap (λ z. z +ℤ g b) (int_sum_out k a old a_in)))))

-- ---- the bounds of joint classes
module _ (m : Model) (h r look : ℕ) (F : Front) (front : IsFront m h F) (lt : F.stage < h) (i a b : ℕ)
    (ab : a < b)
    (free_a : IsUnassigned i a F.agents) (free_b : IsUnassigned i b F.agents) where
  abbrev G : Front
  G = merged_front F i a b

  abbrev counts : List ℕ
  counts = class_counts F.agents

  abbrev merged : List ℕ
  merged = class_counts (merged_agents i a b F.agents)

  -- the bound of a joint class
  abbrev best : Front → ℕ → ℤ
  best F' C = greatest (λ y. action_look_ahead m r (class_weight m F' C) y look) (agreeing_actions m F' C)

  i_in : i < length counts
  i_in = (unassigned_agent i a F.agents free_a).0

  i_in_merged : i < length merged
  i_in_merged = omega (arith, i_in, as_many_merged i a b F.agents)

  in_merged : (x : ℕ) → x < product (without i counts) → x < product (without i merged)
  in_merged x p = subst (λ (z : List ℕ). x < product z) (sym (counts_of_others i a b F.agents)) p

  weight_in_merged : (c x s : ℕ) → c < get_or merged i 0 → x < product (without i counts)
      → class_weight m G (placed_number i merged c x) s ≡ place_weight m G i c x s
  weight_in_merged c x s hc hx = placed_weight m h G (merged_is_front m h F i a b front lt ab free_a free_b)
      i i_in_merged c x s hc (in_merged x hx)

  kept_in : (c : ℕ) → c < get_or merged i 0 → kept_class b c < get_or counts i 0
  kept_in c hc = kept_below b c _ _ hc (one_class_less i a b F.agents free_b)

  -- a joint class without the joined one is bounded as before
  kept_best : (c x : ℕ) → c < get_or merged i 0 → a ≢ c → x < product (without i counts)
      → best G (placed_number i merged c x) ≡ best F (placed_number i counts (kept_class b c) x)
  kept_best c x hc ne hx =
      let weights : (s : ℕ) → class_weight m G (placed_number i merged c x) s
      ≡ class_weight m F (placed_number i counts (kept_class b c) x) s =
      λ s. weight_in_merged c x s hc hx ∙ kept_weight m F i a b ab c x s ne
      ∙ sym (placed_weight m h F front i i_in (kept_class b c) x s (kept_in c hc) hx) in
      let actions = agreeing_kept m F i a b free_a free_b c x hc hx in
      λ j. greatest (λ y. action_look_ahead m r (λ s. weights s j) y look) (actions j)

  a_in_merged : a < get_or merged i 0
  a_in_merged = let b_in = (unassigned_agent i b F.agents free_b).1 in
      omega (arith, b_in, ab, one_class_less i a b F.agents free_b)

  -- a joint class with the joined one is bounded by the two together
  joined_best : (x : ℕ) → x < product (without i counts)
      → best G (placed_number i merged a x)
      ≤ℤ (best F (placed_number i counts a x) +ℤ best F (placed_number i counts b x))
  joined_best x hx =
      let A = placed_number i counts a x in
      let B = placed_number i counts b x in
      let weights : (s : ℕ) → class_weight m G (placed_number i merged a x) s
      ≡ class_weight m F A s + class_weight m F B s =
      λ s. weight_in_merged a x s a_in_merged hx ∙ joined_weight m F i a b ab x s
      ∙ (λ j. sym (placed_weight m h F front i i_in a x s (unassigned_agent i a F.agents free_a).1 hx) j + sym
      (placed_weight m h F front i i_in b x s (unassigned_agent i b F.agents free_b).1 hx) j) in
      let actions = agreeing_kept m F i a b free_a free_b a x a_in_merged hx
      ∙ ap (λ (c : ℕ). agreeing_actions m F (placed_number i counts c x)) (sym (kept_low b a ab)) in
      zle_trans _ _ _
      (zle_of _ _ (λ j. greatest (λ y. action_look_ahead m r (λ s. weights s j) y look) (actions j)))
      (zle_trans _ _ _
      (greatest_of_sums (λ y. action_look_ahead m r (class_weight m F A) y look)
      (λ y. action_look_ahead m r (class_weight m F B) y look)
      (λ y. action_look_ahead m r (λ s. class_weight m F A s + class_weight m F B s) y look)
      (agreeing_actions m F A)
      (λ y i. action_look_ahead_together m r look (class_weight m F A) (class_weight m F B) y))
      (zle_of _ _ (ap (λ l. best F A +ℤ greatest (λ y. action_look_ahead m r (class_weight m F B) y look) l)
      (sym (agreeing_either m F i a b free_a free_b x hx)))))

  -- all joint classes together
  pub joint_classes_le : int_sum (product merged) (best G) ≤ℤ int_sum (product counts) (best F)
  joint_classes_le =
      let P = product (without i counts) in
      let k = get_or merged i 0 in
      let less = one_class_less i a b F.agents free_b in
      let b_in = (unassigned_agent i b F.agents free_b).1 in
      let old = λ (c : ℕ). int_sum P (λ x. best F (placed_number i counts c x)) in
      let new = λ (c : ℕ). int_sum P (λ x. best G (placed_number i merged c x)) in
      zle_trans _ _ _
      (zle_of _ _ (int_sum_placed i merged i_in_merged (best G)
      ∙ ap (λ z. int_sum k (λ c. int_sum (product z) (λ x. best G (placed_number i merged c x))))
      (counts_of_others i a b F.agents)))
      (zle_trans _ _ _
      (int_sum_joined k a b new old ab (omega (arith, b_in, less))
      (λ c p ne. int_sum_ext P _ _ (λ x hx. kept_best c x p ne hx))
      (zle_trans _ _ _
      (int_sum_le P _ _ (λ x hx. joined_best x hx))
      (zle_of _ _ (int_sum_add P (λ x. best F (placed_number i counts a x))
      (λ x. best F (placed_number i counts b x))))))
      (zle_of _ _ (ap (λ (n : ℕ). int_sum n old) less ∙ sym (int_sum_placed i counts i_in (best F)))))

-- a bound does not grow by merging
pub merged_bound_le : (m : Model) (h r look : ℕ) (F : Front) (i a b : ℕ) → IsFront m h F → F.stage < h → a < b
    → IsUnassigned i a F.agents → IsUnassigned i b F.agents →
    bound_of m r (merged_front F i a b) look ≤ℤ bound_of m r F look
merged_bound_le m h zero look F i a b front lt ab free_a free_b = zle_of _ _
    (ap (λ act. earned_reward m act (F.stage + 0) F.stage) (fixed_joint_action_merged m F i a b))
merged_bound_le m h (suc r) look F i a b front lt ab free_a free_b =
    zadd_le _ _ _ _ (zle_of _ _ (ap (λ act. earned_reward m act (F.stage + suc r) F.stage)
    (fixed_joint_action_merged m F i a b))) (joint_classes_le m h r look F front lt i a b ab free_a free_b)
