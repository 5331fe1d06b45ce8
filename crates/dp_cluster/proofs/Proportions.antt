-- Proportions in lowest terms.
use Rattle.std.proofs.Common.{◌≡◌, ◌↔◌, ℕ, zero, suc, ◌*◌, ◌/◌, ◌<◌, sym, ap, subst, ◌∙◌, arith}
use Rattle.std.specs.Int.{◌∣◌, IsGcd}
use Rattle.std.proofs.Math.Nat.{div-mul_cancel, dvd-mul_left, dvd_of_mul-dvd-mul_right, mul-dvd-mul_right, one-dvd}
use Rattle.std.proofs.Math.Nat.{eq_of_mul-eq-mul_right}
use Rattle.std.proofs.lemmas.Nat.Gcd.{same_from_IsGcd}
use Rattle.dp_base.specs.Divisors.{gcd_of}
use Rattle.dp_base.proofs.DivisorLaws.{dvd-scaled, gcd_of-IsGcd}

-- both divided by their greatest common divisor have none but 1
lowest_IsGcd : (t u g : ℕ) → 0 < g → IsGcd t u g → IsGcd (t / g) (u / g) 1
lowest_IsGcd t u g some h = (
  one-dvd _,
  one-dvd _,
  λ d p q.
      let whole_t : t / g * g ≡ t = div-mul_cancel g h.0 in
      let whole_u : u / g * g ≡ u = div-mul_cancel g h.1 in
      let of_t : d * g ∣ t = subst (λ k. d * g ∣ k) whole_t (mul-dvd-mul_right d p g) in
      let of_u : d * g ∣ u = subst (λ k. d * g ∣ k) whole_u (mul-dvd-mul_right d q g) in
      let of_g : d * g ∣ 1 * g = subst (λ k. d * g ∣ k) (omega arith) (h.2 (d * g) of_t of_u) in
      dvd_of_mul-dvd-mul_right d some of_g,
)

pub lowest : (t u g : ℕ) → 0 < g → IsGcd t u g → gcd_of (t / g) (u / g) ≡ 1
lowest t u g some h = same_from_IsGcd (t / g) (u / g) _ _ (gcd_of-IsGcd (t / g) (u / g)) (lowest_IsGcd t u g some h)

-- the same numbers are in the proportion of both, divided by a number or not
pub same_proportion : (t u g a b : ℕ) → 0 < g → IsGcd t u g → (a * (u / g) ≡ b * (t / g)) ↔ (a * u ≡ b * t)
same_proportion t u g a b some h = (
  λ e. sym (wide a u whole_u) ∙ ap (λ k. k * g) e ∙ wide b t whole_t,
  λ e. eq_of_mul-eq-mul_right g some _ _ (wide a u whole_u ∙ e ∙ sym (wide b t whole_t)),
)
  where
    whole_t : t / g * g ≡ t
    whole_t = div-mul_cancel g h.0

    whole_u : u / g * g ≡ u
    whole_u = div-mul_cancel g h.1

    wide : (a u : ℕ) → u / g * g ≡ u → a * (u / g) * g ≡ a * u
    wide a u whole = product a (u / g) whole
      where
        product : (a q : ℕ) → q * g ≡ u → a * q * g ≡ a * u
        product a q e = omega (arith, ap (λ k. a * k) e)

-- what is in a proportion in lowest terms has its first number as a divisor
pub first_divides : (t u a b : ℕ) → gcd_of t u ≡ 1 → a * u ≡ b * t → t ∣ a
first_divides t u a b one e =
    let h : IsGcd t u 1 = subst (IsGcd t u) one (gcd_of-IsGcd t u) in
    subst (λ k. t ∣ k) (omega arith)
    (dvd-scaled u a t u 1 t (omega arith) h (dvd-mul_left t a) (subst (λ k. t ∣ k) (sym e) (dvd-mul_left t b)))

-- the whole part by a divisor of a number above 0 is above 0
pub first_above : (t g : ℕ) → g ∣ t → 0 < t → 0 < t / g
first_above t g d some = positive (t / g) g t (div-mul_cancel g d) some
  where
    positive : (q g t : ℕ) → q * g ≡ t → 0 < t → 0 < q
    positive zero g t e some = absurd (omega arith)
    positive (suc q) g t e some = omega arith

-- a is the first number of a proportion q times; then b is in it with a where it is the second number q times
pub second_times : (q t u a b : ℕ) → 0 < t → q * t ≡ a → (q * u ≡ b) ↔ (a * u ≡ b * t)
second_times q t u a b some first = (
  λ e. sym turned ∙ ap (λ k. k * t) e,
  λ e. eq_of_mul-eq-mul_right t some (q * u) b (turned ∙ e),
)
  where
    turned : q * u * t ≡ a * u
    turned = omega (arith, ap (λ k. k * u) first)
