-- What the classes of one agent earn: of two classes in proportion both earn more with one of two trees.
use Rattle.std.proofs.Common.{◌≡◌, ◌⊎◌, inl, inr, ℕ, ◌*◌, ◌<◌, Bool, true, false, cond, eqb, ℤ, pos, ◌+ℤ◌, ◌*ℤ◌, ◌≤ℤ◌}
use Rattle.std.proofs.Common.{List, refl, sym, ap, ◌∙◌, arith}
use Rattle.std.proofs.Math.IntN.{zero-*ℤ}
use Rattle.dp_base.proofs.Order.{add_le_left, add_le_right, le_of_mul_le_left, le_total}
use Rattle.dp_base.proofs.Ring.{v, nat, ◌⊗◌, by_ring, zle_of, zmul_le}
use Rattle.dp_base.proofs.Sums.{int_sum_ext, int_sum_zero, mul_two, ext_two}
use Rattle.dp_laws.proofs.HistorySums.{int_history_sum_ext, int_history_sum_group, int_history_sum_swap}
use Rattle.dp_laws.proofs.HistorySums.{int_history_sum_weigh, int_history_sum_zero, nat_history_sum_none}
use Rattle.dp_spec.specs.JointHistory.{IsJointHistory, int_history_sum, nat_history_sum}
use Rattle.dp_base.specs.Sums.{int_sum, nat_sum}
use Rattle.dp_base.proofs.NaturalSumLaws.{nat_sum_none}
use Rattle.std.proofs.Math.Nat.{eq-zero-or-pos}
use Rattle.std.proofs.lemmas.Bool.{eqb-true}

-- an order between multiples passes from one class to another in proportion
as_good : (t t' : ℕ) (ga gb ga' gb' : ℤ) → 0 < t → pos t' *ℤ ga ≡ pos t *ℤ ga' → pos t' *ℤ gb ≡ pos t *ℤ gb'
    → ga ≤ℤ gb → ga' ≤ℤ gb'
as_good t t' ga gb ga' gb' p e f h = let le = zmul_le t' ga gb h in
    le_of_mul_le_left t ga' gb' p (rw (← e, ← f) le)

-- weights against a value, where two tests hold
value_where_both : (a b : Bool) (S : ℕ) (w : ℕ → ℕ) (V V' : ℕ → ℤ) → (a ≡ true → (s : ℕ) → s < S → V s ≡ V' s) →
    cond a (cond b (int_sum S (λ s. pos (w s) *ℤ V s)) (pos 0)) (pos 0)
    ≡ int_sum S (λ s. pos (cond a (cond b (w s) 0) 0) *ℤ V' s)
value_where_both true true S w V V' h = int_sum_ext S _ _ (λ s p. ap (λ x. pos (w s) *ℤ x) (h refl s p))
value_where_both true false S w V V' h = sym (int_sum_ext S _ (λ s. pos 0) (λ s p. zero-*ℤ (V' s))
    ∙ int_sum_zero S)
value_where_both false b S w V V' h = sym (int_sum_ext S _ (λ s. pos 0) (λ s p. zero-*ℤ (V' s))
    ∙ int_sum_zero S)

-- weights of total 0 against a value
value_of_none : (b : Bool) (S : ℕ) (w : ℕ → ℕ) (V : ℕ → ℤ) → cond b (nat_sum S (λ s. w s)) 0 ≡ 0
    → cond b (int_sum S (λ s. pos (w s) *ℤ V s)) (pos 0) ≡ pos 0
value_of_none true S w V e = int_sum_ext S _ (λ s. pos 0) (λ s p. ap (λ (x : ℕ). pos x *ℤ V s)
    (nat_sum_none S w e s p) ∙ zero-*ℤ (V s)) ∙ int_sum_zero S
value_of_none false S w V e = refl

-- ---- a sum over joint histories, by the class of one agent and that of the others
module _ (n t states k : ℕ) (weight : List ℕ → ℕ → ℕ) (class others : List ℕ → ℕ) (X : Type 0)
    (value : ℕ → X → ℕ → ℤ) (in_range : (H : List ℕ) → IsJointHistory n t H → others H < k) where
  -- what class c earns where x follows it
  abbrev pub class_value : ℕ → X → ℤ
  class_value c x = int_history_sum n t (λ H. cond (eqb (class H) c)
      (int_sum states (λ s. pos (weight H s) *ℤ value (others H) x s)) (pos 0))

  -- the weight of class c with class y of the others and state s
  abbrev pub weight_at : ℕ → ℕ → ℕ → ℕ
  weight_at c y s = nat_history_sum n t (λ H. cond (eqb (others H) y) (cond (eqb (class H) c) (weight H s) 0) 0)

  -- the weight of class c
  abbrev pub total_of : ℕ → ℕ
  total_of c = nat_history_sum n t (λ H. cond (eqb (class H) c) (nat_sum states (λ s. weight H s)) 0)

  -- it is a sum over the classes of the others
  class_value_by_place : (c : ℕ) (x : X)
      → class_value c x ≡ int_sum k (λ y. int_sum states (λ s. pos (weight_at c y s) *ℤ value y x s))
  class_value_by_place c x =
      int_history_sum_group n t k _ others in_range
      ∙ int_sum_ext k _ _ (λ y p.
      int_history_sum_ext n t _ (λ H. int_sum states (λ s. pos
      (cond (eqb (others H) y) (cond (eqb (class H) c) (weight H s) 0) 0) *ℤ value y x s))
      (λ H h. value_where_both (eqb (others H) y) (eqb (class H) c) states (weight H) (value (others H) x)
      (value y x) (λ e s q. ap (λ (z : ℕ). value z x s) (eqb-true _ _ e)))
      ∙ int_history_sum_swap n t states _
      ∙ int_sum_ext states _ _ (λ s q. int_history_sum_weigh n t
      (λ H. cond (eqb (others H) y) (cond (eqb (class H) c) (weight H s) 0) 0) (value y x s)))

  -- in proportion where the weights are
  class_value_in_proportion : (c c' t' : ℕ) (u : ℕ) (x : X)
      → ((y s : ℕ) → y < k → s < states → weight_at c y s * t' ≡ weight_at c' y s * u)
      → pos t' *ℤ class_value c x ≡ pos u *ℤ class_value c' x
  class_value_in_proportion c c' t' u x h =
      let regroup : (a b : ℕ) (z : ℤ) → pos a *ℤ (pos b *ℤ z)
      ≡ pos (b * a) *ℤ z = λ a b z. by_ring (nat a ⊗ (nat b ⊗ v z)) (nat (b * a) ⊗ v z) (omega arith) in
      ap (λ z. pos t' *ℤ z) (class_value_by_place c x)
      ∙ mul_two (pos t') k states _
      ∙ ext_two k states _ _ (λ y s p q. regroup t' (weight_at c y s) (value y x s)
      ∙ ap (λ (z : ℕ). pos z *ℤ value y x s) (h y s p q) ∙ sym (regroup u (weight_at c' y s) (value y x s)))
      ∙ sym (mul_two (pos u) k states (λ y s. pos (weight_at c' y s) *ℤ value y x s))
      ∙ ap (λ z. pos u *ℤ z) (sym (class_value_by_place c' x))

  -- nothing where the class weighs nothing
  class_value_of_none : (c : ℕ) (x : X) → total_of c ≡ 0 → class_value c x ≡ pos 0
  class_value_of_none c x e =
      int_history_sum_ext n t _ (λ H. pos 0) (λ H h. value_of_none (eqb (class H) c) states (weight H)
      (value (others H) x) (nat_history_sum_none n t _ e H h)) ∙ int_history_sum_zero n t

  -- for two classes in proportion one of x and x' is the better for both
  pub better_for_both : (c c' : ℕ) (x x' : X)
      → ((y s : ℕ) → y < k → s < states → weight_at c y s * total_of c' ≡ weight_at c' y s * total_of c) →
      (z : X) × ((z ≡ x) ⊎ (z ≡ x')) × ((class_value c x +ℤ class_value c' x')
      ≤ℤ (class_value c z +ℤ class_value c' z))
  better_for_both c c' x x' h =
      let sx : pos (total_of c') *ℤ class_value c x ≡ pos (total_of c) *ℤ class_value c' x =
      class_value_in_proportion c c' (total_of c') (total_of c) x h in
      let sx' : pos (total_of c') *ℤ class_value c x' ≡ pos (total_of c) *ℤ class_value c' x' =
      class_value_in_proportion c c' (total_of c') (total_of c) x' h in
      elim (eq-zero-or-pos (total_of c)) [
        | inl none ↦ (
          x',
          inr refl,
          add_le_left _ _ (class_value c' x')
              (zle_of _ _ (class_value_of_none c x none ∙ sym (class_value_of_none c x' none))),
        )
        | inr some ↦ elim (eq-zero-or-pos (total_of c')) [
          | inl none' ↦ (
            x,
            inl refl,
            add_le_right (class_value c x) _ _
                (zle_of _ _ (class_value_of_none c' x' none' ∙ sym (class_value_of_none c' x none'))),
          )
          | inr some' ↦ elim (le_total (class_value c x) (class_value c x')) [
            | inl le ↦ (x', inr refl, add_le_left _ _ _ le)
            | inr le ↦ (
              x,
              inl refl,
              add_le_right _ _ _ (as_good (total_of c) (total_of c')
                  _ _ _ _ some sx' sx le),
            )
          ]
        ]
      ]
