-- What rewards are multiplied by, step by step, and products that fit.
use Rattle.std.proofs.Common.{◌≡◌, ℕ, zero, suc, ◌+◌, ◌*◌, ◌^◌, ◌<◌, ◌≤◌, ◌%◌, ℤ, pos, negsuc, ◌*ℤ◌, unsigned_abs}
use Rattle.std.proofs.Common.{to_z, of_z, List, length, min, slice_set, add-one, ap, ◌∙◌, sym, subst, refl, arith}
use Rattle.std.proofs.Common.{◌⊎◌, inl, inr}
use Rattle.std.proofs.lemmas.Grind.{common_steps}
use Rattle.std.proofs.lemmas.Int.{fits_signed_from_abs, to_z-of_z, to_z_pos, unsigned_abs-mul}
use Rattle.std.proofs.lemmas.Nat.{mul-mod}
use Rattle.std.proofs.Math.Nat.{le-mul_of_pos_right, mod-eq_of_lt, mul-pos, pow-le-pow_left, pow-suc, pow-zero}
use Rattle.std.proofs.Math.Nat.{mul_assoc, mul_right_comm}
use Rattle.std.proofs.Math.Pow.{pow_mono}
use mir.Syntax.{w128}
use mir.Val.{SFits}
use Rattle.dp_spec.specs.declared.scales.Scales.{Scales}
use Rattle.dp_spec.specs.Arithmetic.{reward_factor}
use Rattle.dp_spec.specs.Calls.{AreInRange}
use Rattle.dp_base.proofs.Ring.{zmul_assoc}
use Rattle.dp_num.specs.RewardFactors.{HoldsFactors}

-- with no step left it is the scale of the discount
pub no_step : (c : Scales) → reward_factor c 0 ≡ c.discount
unfolding reward_factor
no_step c = rw pow-zero (omega arith)

-- each step left multiplies it by the scale of a step
pub one_step : (c : Scales) (k : ℕ) → reward_factor c (suc k)
    ≡ reward_factor c k * (c.trans * c.obs * c.discount)
unfolding reward_factor
one_step c k = regroup c.discount (c.trans * c.obs * c.discount) _ _ (pow-suc (c.trans * c.obs * c.discount) k)
  where
    regroup : (d K p q : ℕ) → q ≡ p * K → d * q ≡ d * p * K
    regroup d K p q e = omega (arith, ap (λ (n : ℕ). d * n) e)

-- the same of remainders
pub one_step_mod : (c : Scales) (k x a b d n : ℕ) → x ≡ reward_factor c k % n → a ≡ c.trans → b ≡ c.obs
    → d ≡ c.discount → (x * ((a * b * d) % n)) % n ≡ reward_factor c (k + 1) % n
one_step_mod c k x a b d n e p q r =
    let step : a * b * d ≡ c.trans * c.obs * c.discount = cc in
    rw (e, step, add-one) (sym (mul-mod (reward_factor c k) (c.trans * c.obs * c.discount) n)
    ∙ ap (λ (x : ℕ). x % n) (sym (one_step c k)))

-- it is at least 1
pub some_factor : (c : Scales) → AreInRange c → (k : ℕ) → 0 < reward_factor c k
some_factor c are zero = let e = no_step c in let some = are.discount.0 in omega arith
some_factor c are (suc k) =
    let rest = some_factor c are k in rw (one_step c k) (mul-pos rest
    (mul-pos (mul-pos are.trans.0 are.obs.0) are.discount.0))

-- the first place of the table
pub first_factor : (c : Scales) → AreInRange c → (x : ℕ) → x ≡ c.discount → x ≡ reward_factor c 0 % 2 ^ 128
first_factor c are x e =
    let most : c.discount ≤ 2 ^ 62 = are.discount.1 in
    let small : reward_factor c 0 < 2 ^ 128 = rw (no_step c) (omega arith) in
    e ∙ sym (no_step c) ∙ sym (mod-eq_of_lt small)

-- a place of the table before step n + 1 is written
pub one_more_factor : (c : Scales) (n : ℕ) (factors : List ℕ) (f : ℕ) → HoldsFactors c n factors
    → n < length factors
    → f ≡ reward_factor c n % 2 ^ 128 → HoldsFactors c (n + 1) (slice_set factors n f)
one_more_factor c n factors f holds inside e = grind (arith, common_steps)

-- a step scale of 2 or more is passed after 127 steps, so all factors are the first one
pub late_factor : (c : Scales) → AreInRange c → (rest : ℕ) → 127 ≤ rest → reward_factor c rest < 2 ^ 127
    → reward_factor c 126 ≡ reward_factor c rest
unfolding reward_factor
late_factor c are rest late room =
    let K = c.trans * c.obs * c.discount in
    elim (cases K (mul-pos (mul-pos are.trans.0 are.obs.0) are.discount.0)) [
      | inl one ↦ rw one (rw (ones 126, ones rest) refl)
      | inr more ↦
          let power : 2 ^ rest ≤ K ^ rest = pow-le-pow_left more rest in
          let wide : 2 ^ 127 ≤ 2 ^ rest = pow_mono late in
          let some : 0 < c.discount = are.discount.0 in
          let all : K ^ rest ≤ K ^ rest * c.discount = le-mul_of_pos_right (K ^ rest) some in
          absurd (omega arith)
    ]
  where
    cases : (K : ℕ) → 0 < K → (K ≡ 1) ⊎ (2 ≤ K)
    cases K some = grind arith

    ones : (n : ℕ) → 1 ^ n ≡ 1
    ones zero = pow-zero 1
    ones (suc n) = rw (pow-suc 1 n, ones n) refl

-- the place of the table that is read for so many steps left
pub factor_at : (c : Scales) → AreInRange c → (rest place x : ℕ) → reward_factor c rest < 2 ^ 127
    → place ≡ min rest 126 → x ≡ reward_factor c place % 2 ^ 128 → x ≡ reward_factor c rest
factor_at c are rest place x room at e =
    let same : reward_factor c place ≡ reward_factor c rest = elim (cases rest place at) [
      | inl e ↦ ap (reward_factor c) e
      | inr late ↦ ap (reward_factor c) late.1 ∙ late_factor c are rest late.0 room
    ] in
    let small : reward_factor c rest < 2 ^ 128 = omega arith in
    e ∙ ap (λ (n : ℕ). n % 2 ^ 128) same ∙ mod-eq_of_lt small
  where
    cases : (rest place : ℕ) → place ≡ min rest 126 → (place ≡ rest) ⊎ ((127 ≤ rest) × (place ≡ 126))
    cases rest place at = grind arith

-- ---- products that fit

-- a factor of a number that is not 0 is no greater than the product
factor_fits : (x : ℤ) (n : ℕ) → (x ≡ pos 0 → ⊥) → unsigned_abs (x *ℤ pos n) < 2 ^ 127 → n < 2 ^ 127
factor_fits (pos zero) n some room = absurd (some refl)
factor_fits (pos (suc k)) n some room = let e : unsigned_abs (pos (suc k) *ℤ pos n)
    ≡ suc k * n = unsigned_abs-mul (pos (suc k)) (pos n) in omega arith
factor_fits (negsuc k) n some room = let e : unsigned_abs (negsuc k *ℤ pos n)
    ≡ suc k * n = unsigned_abs-mul (negsuc k) (pos n) in omega arith

-- so the product in the signed type is the true one
pub scaled_is : (x : ℤ) (n : ℕ) → SFits w128 x → (of_z w128 x ≡ 0 → ⊥) → unsigned_abs (x *ℤ pos n) < 2 ^ 127
    → to_z w128 (of_z w128 (to_z w128 (of_z w128 x) *ℤ to_z w128 n)) ≡ x *ℤ pos n
scaled_is x n fits some room =
    let product : SFits w128 (x *ℤ pos n) = fits_signed_from_abs w128 (x *ℤ pos n) room in
    rw (to_z-of_z w128 x fits, to_z_pos w128 n (factor_fits x n (λ e. some (ap (of_z w128) e)) room))
    (to_z-of_z w128 _ product)

-- a value times a chance and the gain fits where the product with a scale does
pub carry_fits : (x : ℤ) (p o g q : ℕ) → 0 < o → q ≡ p * g → unsigned_abs (x *ℤ pos (p * o * g)) < 2 ^ 127
    → unsigned_abs (x *ℤ pos q) < 2 ^ 127
carry_fits x p o g q some e room =
    let whole : unsigned_abs (x *ℤ pos (p * o * g)) ≡ unsigned_abs x * (p * o * g) = unsigned_abs-mul x
    (pos (p * o * g)) in
    let part : unsigned_abs (x *ℤ pos q) ≡ unsigned_abs x * q = unsigned_abs-mul x (pos q) in
    let grown = le-mul_of_pos_right (unsigned_abs x * (p * g)) some in
    let swapped = ap (λ (k : ℕ). unsigned_abs x * k) (mul_right_comm p g o) in
    let same = ap (λ (k : ℕ). unsigned_abs x * k) e in
    omega arith

-- the product in this order is the true one
pub carry_is : (x : ℤ) (p o g q : ℕ) (y f : ℤ) → y ≡ x *ℤ pos q → q ≡ p * g → f ≡ pos o
    → y *ℤ f ≡ x *ℤ pos (p * o * g)
carry_is x p o g q y f part e is =
    ap (λ (y : ℤ). y *ℤ f) part ∙ ap (λ (f : ℤ). x *ℤ pos q *ℤ f) is ∙ zmul_assoc x (pos q) (pos o)
    ∙ ap (λ (k : ℕ). x *ℤ pos k) (ap (λ (k : ℕ). k * o) e ∙ mul_right_comm p g o)

-- so it fits
pub carry_all_fits : (x : ℤ) (p o g q : ℕ) (y f : ℤ) → y ≡ x *ℤ pos q → q ≡ p * g → f ≡ pos o
    → unsigned_abs (x *ℤ pos (p * o * g)) < 2 ^ 127 → unsigned_abs (y *ℤ f) < 2 ^ 127
carry_all_fits x p o g q y f part e is room = subst (λ (z : ℤ). unsigned_abs z < 2 ^ 127)
    (sym (carry_is x p o g q y f part e is)) room

-- a weight times a reward fits where the product with the factor does
pub part_fits : (x y : ℤ) (n : ℕ) → 0 < n → unsigned_abs (x *ℤ (y *ℤ pos n)) < 2 ^ 127
    → unsigned_abs (x *ℤ y) < 2 ^ 127
part_fits x y n some room =
    let whole : unsigned_abs (x *ℤ (y *ℤ pos n)) ≡ unsigned_abs x * (unsigned_abs y * n) = unsigned_abs-mul x
    (y *ℤ pos n) ∙ ap (λ (k : ℕ). unsigned_abs x * k) (unsigned_abs-mul y (pos n)) in
    let part : unsigned_abs (x *ℤ y) ≡ unsigned_abs x * unsigned_abs y = unsigned_abs-mul x y in
    let grown = le-mul_of_pos_right (unsigned_abs x * unsigned_abs y) some in
    let regroup = mul_assoc (unsigned_abs x) (unsigned_abs y) n in
    omega arith

-- and so does what is multiplied last
pub gain_fits : (x y : ℤ) (n : ℕ) (z : ℤ) → z ≡ x *ℤ y → unsigned_abs (x *ℤ (y *ℤ pos n)) < 2 ^ 127
    → unsigned_abs (z *ℤ pos n) < 2 ^ 127
gain_fits x y n z e room = subst (λ (z : ℤ). unsigned_abs z < 2 ^ 127)
    (sym (ap (λ (z : ℤ). z *ℤ pos n) e ∙ zmul_assoc x y (pos n))) room
