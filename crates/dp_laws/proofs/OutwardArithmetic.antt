-- The outward arithmetic gives a span round the true number.
use Rattle.std.proofs.Common.{◌≡◌, inl, inr, ℕ, suc, ◌*◌, ◌^◌, ◌<◌, ℤ, pos, negsuc, ◌+ℤ◌, ◌*ℤ◌, ◌≤ℤ◌, refl, sym, ap}
use Rattle.std.proofs.Common.{◌∙◌, subst, arith, neg_ℤ}
use Rattle.std.proofs.lemmas.Int.{ints}
use Rattle.std.specs.Int.{int_min, int_max}
use Rattle.dp_base.proofs.Ring.{v, nat, ◌⊗◌, by_ring, by_order, zmul_comm, zle_of, zle_trans, zmul_le, zadd_le}
use Rattle.dp_base.proofs.Ring.{zadd_mul}
use Rattle.dp_base.proofs.Floors.{mul_down_le, le_mul_up}
use Rattle.dp_base.proofs.Order.{le_max_left, le_max_right, le_of_mul_le_left, max_is_either, min_is_either}
use Rattle.dp_base.proofs.Order.{mul_le_right}
use Rattle.dp_spec.specs.declared.scales.Scales.{Scales}
use Rattle.dp_spec.specs.Arithmetic.{outward, reward_factor}
use Rattle.dp_spec.specs.Enclosure.{IsSound, containment}
use Rattle.dp_spec.specs.Calls.{AreInRange}
use Rattle.dp_base.specs.Rounding.{by_sign, mul_down, mul_up, ceiling_of, floor_of}
use Rattle.std.proofs.Math.IntN.{zero-*ℤ}

-- ---- over the scale T and in the unit u

-- l in the unit u is at most x over T
abbrev pub IsBelow : ℕ → ℕ → ℤ → ℤ → Type 0
IsBelow T u x l = (l *ℤ pos T) ≤ℤ (x *ℤ pos u)

-- h in the unit u is at least x over T
abbrev pub IsAbove : ℕ → ℕ → ℤ → ℤ → Type 0
IsAbove T u x h = (x *ℤ pos u) ≤ℤ (h *ℤ pos T)

-- ---- from above is from below, turned

-- a factor turned
neg_times : (a b : ℤ) → neg_ℤ a *ℤ b ≡ neg_ℤ (a *ℤ b)
neg_times a b =
    let none : neg_ℤ a +ℤ a ≡ pos 0 = omega (arith, ints) in
    opposite (neg_ℤ a *ℤ b) (a *ℤ b) (sym (zadd_mul (neg_ℤ a) a b) ∙ ap (λ (x : ℤ). x *ℤ b) none ∙ zero-*ℤ b)
  where
    opposite : (x y : ℤ) → x +ℤ y ≡ pos 0 → x ≡ neg_ℤ y
    opposite x y e = omega (arith, ints)

-- orders turned
neg_le : (a b : ℤ) → neg_ℤ a ≤ℤ neg_ℤ b → b ≤ℤ a
neg_le a b h = omega (arith, ints)

le_neg : (a b : ℤ) → a ≤ℤ b → neg_ℤ b ≤ℤ neg_ℤ a
le_neg a b h = omega (arith, ints)

-- h is at least x where its negative is at most that of x
above_of : (T u : ℕ) (x h : ℤ) → IsBelow T u (neg_ℤ x) (neg_ℤ h) → IsAbove T u x h
above_of T u x h turned =
    neg_le (h *ℤ pos T) (x *ℤ pos u) (rw (sym (neg_times h (pos T)), sym (neg_times x (pos u))) turned)

below_of : (T u : ℕ) (x h : ℤ) → IsAbove T u x h → IsBelow T u (neg_ℤ x) (neg_ℤ h)
below_of T u x h above = rw (neg_times h (pos T), neg_times x (pos u)) (le_neg (x *ℤ pos u) (h *ℤ pos T) above)

-- a product rounded up is one rounded down, turned
down_of : (a b : ℤ) (d : ℕ) → mul_down (neg_ℤ a) b d ≡ neg_ℤ (mul_up a b d)
unfolding mul_down mul_up ceiling_of
down_of a b d = ap (λ (x : ℤ). floor_of x d) (neg_times a b) ∙ turned_twice (floor_of (neg_ℤ (a *ℤ b)) d)
  where
    turned_twice : (x : ℤ) → x ≡ neg_ℤ (neg_ℤ x)
    turned_twice x = omega (arith, ints)

-- ---- products

-- a product with p over d, rounded down
times_below : (T u p d : ℕ) (x l : ℤ) → 0 < d → IsBelow T u x l
    → IsBelow (T * d) u (x *ℤ pos p) (mul_down l (pos p) d)
times_below T u p d x l some h =
    let r = mul_down l (pos p) d in
    zle_trans _ _ _ (zle_of _ _ (by_ring (v r ⊗ nat (T * d)) (nat T ⊗ (v r ⊗ nat d)) (omega arith)))
    (zle_trans _ _ _ (zmul_le T _ _ (mul_down_le l (pos p) d some))
    (zle_trans _ _ _ (zle_of _ _ (by_ring (nat T ⊗ (v l ⊗ nat p)) (nat p ⊗ (v l ⊗ nat T)) (omega arith)))
    (zle_trans _ _ _ (zmul_le p _ _ h)
    (zle_of _ _ (by_ring (nat p ⊗ (v x ⊗ nat u)) (v x ⊗ nat p ⊗ nat u) (omega arith))))))

-- and rounded up
times_above : (T u p d : ℕ) (x l : ℤ) → 0 < d → IsAbove T u x l
    → IsAbove (T * d) u (x *ℤ pos p) (mul_up l (pos p) d)
times_above T u p d x l some h =
    above_of (T * d) u (x *ℤ pos p) (mul_up l (pos p) d)
    (subst (λ (y : ℤ). IsBelow (T * d) u y (neg_ℤ (mul_up l (pos p) d))) (neg_times x (pos p))
    (subst (λ (y : ℤ). IsBelow (T * d) u (neg_ℤ x *ℤ pos p) y) (down_of l (pos p) d)
    (times_below T u p d (neg_ℤ x) (neg_ℤ l) some (below_of T u x l h))))

-- equal scales and equal numbers
same_below : (T T' u : ℕ) (x x' l : ℤ) → T ≡ T' → x ≡ x' → IsBelow T u x l → IsBelow T' u x' l
same_below T T' u x x' l e f h = subst (λ (t : ℕ). IsBelow t u x' l) e (subst (λ (y : ℤ). IsBelow T u y l) f h)

-- the same from above
same_above : (T T' u : ℕ) (x x' l : ℤ) → T ≡ T' → x ≡ x' → IsAbove T u x l → IsAbove T' u x' l
same_above T T' u x x' l e f h = subst (λ (t : ℕ). IsAbove t u x' l) e (subst (λ (y : ℤ). IsAbove T u y l) f h)

-- a negative factor turns the order
mul_negative_le : (n : ℕ) (a b : ℤ) → a ≤ℤ b → (b *ℤ negsuc n) ≤ℤ (a *ℤ negsuc n)
mul_negative_le n a b h = let le = zmul_le (suc n) a b h in by_order (v b ⊗ v (negsuc n)) (v a ⊗ v (negsuc n))
    (omega (arith, ints))

-- the end by the sign of r, times r, is an end of the product
signed_below : (T u : ℕ) (x l h r : ℤ) → IsBelow T u x l → IsAbove T u x h
    → ((by_sign r l h *ℤ pos T) *ℤ r) ≤ℤ ((x *ℤ pos u) *ℤ r)
signed_below T u x l h (pos n) p q = zle_trans _ _ _ (zle_of _ _ (zmul_comm (l *ℤ pos T) (pos n)))
    (zle_trans _ _ _ (zmul_le n _ _ p) (zle_of _ _ (zmul_comm (pos n) (x *ℤ pos u))))
signed_below T u x l h (negsuc n) p q = mul_negative_le n (x *ℤ pos u) (h *ℤ pos T) q

-- the same from above
signed_above : (T u : ℕ) (x l h r : ℤ) → IsBelow T u x l → IsAbove T u x h
    → ((x *ℤ pos u) *ℤ r) ≤ℤ ((by_sign r h l *ℤ pos T) *ℤ r)
signed_above T u x l h (pos n) p q = zle_trans _ _ _ (zle_of _ _ (zmul_comm (x *ℤ pos u) (pos n)))
    (zle_trans _ _ _ (zmul_le n _ _ q) (zle_of _ _ (zmul_comm (pos n) (h *ℤ pos T))))
signed_above T u x l h (negsuc n) p q = mul_negative_le n (l *ℤ pos T) (x *ℤ pos u) p

-- a weight times a reward, from below
gain_below : (T u e k d c : ℕ) (w l h r : ℤ) → 0 < c → 0 < c * d → u ≡ c * e → IsBelow T u w l
    → IsAbove T u w h → IsBelow (T * k * d) e (w *ℤ (r *ℤ pos k)) (mul_down (by_sign r l h) r (c * d))
gain_below T u e k d c w l h r some some' is p q =
    let x = by_sign r l h in
    let y = mul_down x r (c * d) in
    le_of_mul_le_left c _ _ some
    (zle_trans _ _ _ (zle_of _ _ (by_ring (nat c ⊗ (v y ⊗ nat (T * k * d))) (nat (T * k) ⊗ (v y ⊗ nat (c * d)))
    (omega arith)))
    (zle_trans _ _ _ (zmul_le (T * k) _ _ (mul_down_le x r (c * d) some'))
    (zle_trans _ _ _ (zle_of _ _ (by_ring (nat (T * k) ⊗ (v x ⊗ v r)) (nat k ⊗ (v x ⊗ nat T ⊗ v r))
    (omega arith)))
    (zle_trans _ _ _ (zmul_le k _ _ (signed_below T u w l h r p q))
    (zle_of _ _ (ap (λ (n : ℕ). pos k *ℤ (w *ℤ pos n *ℤ r)) is
    ∙ by_ring (nat k ⊗ (v w ⊗ nat (c * e) ⊗ v r)) (nat c ⊗ (v w ⊗ (v r ⊗ nat k) ⊗ nat e)) (omega arith)))))))

-- the ends in the other order, turned
sign_turned : (r l h : ℤ) → by_sign r (neg_ℤ l) (neg_ℤ h) ≡ neg_ℤ (by_sign r l h)
sign_turned (pos r) l h = refl
sign_turned (negsuc r) l h = refl

-- and from above
gain_above : (T u e k d c : ℕ) (w l h r : ℤ) → 0 < c → 0 < c * d → u ≡ c * e → IsBelow T u w l
    → IsAbove T u w h → IsAbove (T * k * d) e (w *ℤ (r *ℤ pos k)) (mul_up (by_sign r h l) r (c * d))
gain_above T u e k d c w l h r some some' is p q =
    let x = by_sign r h l in
    let y = w *ℤ (r *ℤ pos k) in
    let ends : mul_down (by_sign r (neg_ℤ h) (neg_ℤ l)) r (c * d) ≡ neg_ℤ (mul_up x r (c * d)) =
    ap (λ (z : ℤ). mul_down z r (c * d)) (sign_turned r h l) ∙ down_of x r (c * d) in
    above_of (T * k * d) e y (mul_up x r (c * d))
    (subst (λ (z : ℤ). IsBelow (T * k * d) e z (neg_ℤ (mul_up x r (c * d)))) (neg_times w (r *ℤ pos k))
    (subst (λ (z : ℤ). IsBelow (T * k * d) e (neg_ℤ w *ℤ (r *ℤ pos k)) z) ends
    (gain_below T u e k d c (neg_ℤ w) (neg_ℤ h) (neg_ℤ l) r some some' is (below_of T u w h q)
    (turned_below T u w l p))))
  where
    turned_below : (T u : ℕ) (w l : ℤ) → IsBelow T u w l → IsAbove T u (neg_ℤ w) (neg_ℤ l)
    turned_below T u w l below = below_of u T l w below

-- a weight times a value of the table
tail_above : (T F u e w : ℕ) (l h x z : ℤ) → 0 < u → IsBelow T u (pos w) l → IsAbove T u (pos w) h
    → IsAbove F e x z
    → IsAbove (T * F) e (pos w *ℤ x) (mul_up (by_sign z h l) z u)
tail_above T F u e w l h x z some p q o =
    let y = by_sign z h l in
    let a = mul_up y z u in
    le_of_mul_le_left u _ _ some
    (zle_trans _ _ _ (zle_of _ _ (by_ring (nat u ⊗ (nat w ⊗ v x ⊗ nat e)) (nat (w * u) ⊗ (v x ⊗ nat e))
    (omega arith)))
    (zle_trans _ _ _ (zmul_le (w * u) _ _ o)
    (zle_trans _ _ _ (zle_of _ _ (by_ring (nat (w * u) ⊗ (v z ⊗ nat F)) (nat F ⊗ (nat w ⊗ nat u ⊗ v z))
    (omega arith)))
    (zle_trans _ _ _ (zmul_le F _ _ (signed_above T u (pos w) l h z p q))
    (zle_trans _ _ _ (zle_of _ _ (by_ring (nat F ⊗ (v y ⊗ nat T ⊗ v z)) (nat (T * F) ⊗ (v y ⊗ v z))
    (omega arith)))
    (zle_trans _ _ _ (zmul_le (T * F) _ _ (le_mul_up y z u some))
    (zle_of _ _ (by_ring (nat (T * F) ⊗ (v a ⊗ nat u)) (nat u ⊗ (v a ⊗ nat (T * F))) (omega arith)))))))))

-- a value of the table times a chance and the discount
carry_above : (F e p do' dt dg g : ℕ) (x z : ℤ) → 0 < dt → 0 < dg → IsAbove F e x z
    → IsAbove (F * (dt * do' * dg)) e (pos (p * do' * g) *ℤ x) (mul_up (mul_up z (pos p) dt) (pos g) dg)
carry_above F e p do' dt dg g x z some some' o =
    let b = mul_up (mul_up z (pos p) dt) (pos g) dg in
    let twice = times_above (F * dt) e g dg _ _ some' (times_above F e p dt x z some o) in
    zle_trans _ _ _ (zle_of _ _ (by_ring (nat (p * do' * g) ⊗ v x ⊗ nat e)
    (nat do' ⊗ (v x ⊗ nat p ⊗ nat g ⊗ nat e)) (omega arith)))
    (zle_trans _ _ _ (zmul_le do' _ _ twice)
    (zle_of _ _ (by_ring (nat do' ⊗ (v b ⊗ nat (F * dt * dg))) (v b ⊗ nat (F * (dt * do' * dg)))
    (omega arith))))

-- the weight of a start chance
start_below : (d u b : ℕ) → 0 < d → IsBelow d u (pos b) (mul_down (pos b) (pos u) d)
start_below d u b some = mul_down_le (pos b) (pos u) d some

-- and from above
start_above : (d u b : ℕ) → 0 < d → IsAbove d u (pos b) (mul_up (pos b) (pos u) d)
start_above d u b some = le_mul_up (pos b) (pos u) d some

-- ---- sums
-- sums, from below
sum_below : (T u : ℕ) (x y l k : ℤ) → IsBelow T u x l → IsBelow T u y k → IsBelow T u (x +ℤ y) (l +ℤ k)
sum_below T u x y l k p q = zle_trans _ _ _ (zle_of _ _ (zadd_mul l k (pos T)))
    (zle_trans _ _ _ (zadd_le _ _ _ _ p q) (zle_of _ _ (sym (zadd_mul x y (pos u)))))

-- and from above
sum_above : (T u : ℕ) (x y l k : ℤ) → IsAbove T u x l → IsAbove T u y k → IsAbove T u (x +ℤ y) (l +ℤ k)
sum_above T u x y l k p q = sum_below u T l k x y p q

-- no number at all
none_above : (T u : ℕ) → IsAbove T u (pos 0) (pos 0)
none_above T u = zle_of _ _ (by_ring (nat 0 ⊗ nat u) (nat 0 ⊗ nat T) (omega arith))

-- and from below
none_below : (T u : ℕ) → IsBelow T u (pos 0) (pos 0)
none_below T u = none_above u T

-- ---- the greater and the smaller

-- the greater of two
greater_above : (F u : ℕ) (x y a b : ℤ) → IsAbove F u x a → IsAbove F u y b
    → IsAbove F u (int_max x y) (int_max a b)
greater_above F u x y a b p q =
    elim (max_is_either x y) [
      | inl e ↦ subst (λ (z : ℤ). IsAbove F u z (int_max a b)) (sym e)
          (zle_trans _ _ _ p (mul_le_right F _ _ (le_max_left a b)))
      | inr e ↦ subst (λ (z : ℤ). IsAbove F u z (int_max a b)) (sym e)
          (zle_trans _ _ _ q (mul_le_right F _ _ (le_max_right a b)))
    ]

-- a number that is at most both is at most the smaller
pub smaller_above : (F u : ℕ) (x y a b : ℤ) → x ≤ℤ y → IsAbove F u x a → IsAbove F u y b
    → IsAbove F u x (int_min a b)
smaller_above F u x y a b h p q =
    elim (min_is_either a b) [
      | inl e ↦ subst (λ (z : ℤ). IsAbove F u x z) (sym e) p
      | inr e ↦ subst (λ (z : ℤ). IsAbove F u x z) (sym e) (zle_trans _ _ _ (mul_le_right u _ _ h) q)
    ]

-- a product that is not 0
thousands_positive : (d : ℕ) → 0 < d → 0 < 1000 * d
thousands_positive d h = omega arith

-- the weight after two chances
product_of_chances : (w p z : ℕ) → pos w *ℤ pos p *ℤ pos z ≡ pos (w * (p * z))
product_of_chances w p z = by_ring (nat w ⊗ nat p ⊗ nat z) (nat (w * (p * z))) (omega arith)

-- its scale
product_of_scales : (T a b : ℕ) → T * a * b ≡ T * (a * b)
product_of_scales T a b = omega arith

-- a weight times two chances, from below
chance_below : (T u w p z a b : ℕ) (l : ℤ) → 0 < a → 0 < b → IsBelow T u (pos w) l
    → IsBelow (T * (a * b)) u (pos (w * (p * z))) (mul_down (mul_down l (pos p) a) (pos z) b)
chance_below T u w p z a b l some some' h =
    same_below _ _ u _ _ _ (product_of_scales T a b) (product_of_chances w p z)
    (times_below (T * a) u z b (pos w *ℤ pos p) (mul_down l (pos p) a) some'
    (times_below T u p a (pos w) l some h))

-- and from above
chance_above : (T u w p z a b : ℕ) (l : ℤ) → 0 < a → 0 < b → IsAbove T u (pos w) l
    → IsAbove (T * (a * b)) u (pos (w * (p * z))) (mul_up (mul_up l (pos p) a) (pos z) b)
chance_above T u w p z a b l some some' h =
    same_above _ _ u _ _ _ (product_of_scales T a b) (product_of_chances w p z)
    (times_above (T * a) u z b (pos w *ℤ pos p) (mul_up l (pos p) a) some'
    (times_above T u p a (pos w) l some h))

-- each operation of the outward arithmetic is sound
pub outward_sound : (c : Scales) → AreInRange c → IsSound c (outward c) containment
unfolding outward
outward_sound c ok = record {
  start = λ b. record {
    from = start_below c.start (10 ^ 12) b ok.start.0;
    to = start_above c.start (10 ^ 12) b ok.start.0;
  };
  one = record { from = zle_of _ _ refl; to = zle_of _ _ refl };
  chance = λ T w p z s h. record {
    from = chance_below T (10 ^ 12) w p z c.trans c.obs s.low ok.trans.0 ok.obs.0 h.from;
    to = chance_above T (10 ^ 12) w p z c.trans c.obs s.high ok.trans.0 ok.obs.0 h.to;
  };
  later = λ T w s h. record {
    from = times_below T (10 ^ 12) c.gain c.discount (pos w) s.low ok.discount.0 h.from;
    to = times_above T (10 ^ 12) c.gain c.discount (pos w) s.high ok.discount.0 h.to;
  };
  gain = λ T w rest r s h. record {
    from = gain_below T (10 ^ 12) (10 ^ 9) (reward_factor c rest) c.reward 1000 (pos w) s.low s.high r
        (omega arith) (thousands_positive _ ok.reward.0) refl h.from h.to;
    to = gain_above T (10 ^ 12) (10 ^ 9) (reward_factor c rest) c.reward 1000 (pos w) s.low s.high r
        (omega arith)
        (thousands_positive _ ok.reward.0) refl h.from h.to;
  };
  carry = λ F p x u h. carry_above F (10 ^ 9) p c.obs c.trans c.discount c.gain x u ok.trans.0 ok.discount.0 h;
  tail = λ T w F x u s h o. tail_above T F (10 ^ 12) (10 ^ 9) w s.low s.high x u (omega arith) h.from h.to o;
  no_weight = λ T. record { from = none_below T (10 ^ 12); to = none_above T (10 ^ 12) };
  more_weight = λ T x y a b p q. record {
    from = sum_below T (10 ^ 12) (pos x) (pos y) _ _ p.from q.from;
    to = sum_above T (10 ^ 12) (pos x) (pos y) _ _ p.to q.to;
  };
  no_gain = λ F. record { from = none_below F (10 ^ 9); to = none_above F (10 ^ 9) };
  more_gain = λ F x y a b p q. record {
    from = sum_below F (10 ^ 9) x y _ _ p.from q.from;
    to = sum_above F (10 ^ 9) x y _ _ p.to q.to;
  };
  upper_end = λ F x a h. h.to;
  no_upper = λ F. none_above F (10 ^ 9);
  more_upper = λ F x y a b p q. sum_above F (10 ^ 9) x y _ _ p q;
  greater = λ F x y a b p q. greater_above F (10 ^ 9) x y a b p q;
  smaller = λ F x y a b h p q. smaller_above F (10 ^ 9) x y a b h p q;
  reads = λ F x u h. h;
}
