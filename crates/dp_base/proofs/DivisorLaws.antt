-- The least common multiple by the greatest common divisor.
use Rattle.std.proofs.Common.{◌≡◌, ℕ, zero, suc, ◌+◌, ◌*◌, ◌/◌, ◌%◌, ◌<◌, ◌≤◌, refl, sym, ap, subst, arith}
use Rattle.std.specs.Int.{◌∣◌, IsGcd}
use Rattle.std.proofs.Math.Nat.{dvd-add_iff_left, dvd-mod_iff, dvd-mul_left, dvd-mul_right, dvd-mul_right_of_dvd}
use Rattle.std.proofs.Math.Nat.{mul-pos, mul-dvd-mul_left, mul-dvd-mul_right, div-mul_cancel, pos_of_dvd_of_pos}
use Rattle.std.proofs.Math.Nat.{dvd_of_mul-dvd-mul_right, mod-add-div}
use Rattle.std.proofs.lemmas.Nat.Gcd.{same_from_IsGcd, IsGcd-from_zero, IsGcd-from_mod, dvd_antisymm, le_of_dvd}
use Rattle.dp_base.specs.Divisors.{IsLcm, gcd_within, gcd_of, lcm_of}

-- one step of Euclid's algorithm, turned
pub IsGcd-mod : (a b g : ℕ) → IsGcd a b g → IsGcd b (a % b) g
IsGcd-mod a b g h = (h.1, (dvd-mod_iff g h.1).1 h.0, λ d p q. h.2 d ((dvd-mod_iff d p).0 q) p)

-- what divides both multiples divides the multiple of the greatest common divisor
pub dvd-scaled : (steps n a b g d : ℕ) → b ≤ steps → IsGcd a b g → d ∣ n * a → d ∣ n * b → d ∣ n * g
dvd-scaled steps n a zero g d le h p q = subst (λ k. d ∣ n * k)
    (same_from_IsGcd a 0 a g (IsGcd-from_zero a 0 refl) h) p
dvd-scaled zero n a (suc b) g d le h p q = absurd (omega arith)
dvd-scaled (suc steps) n a (suc b) g d le h p q =
    let split : n * (a % suc b) + n * suc b * (a / suc b) ≡ n * a =
    spread n (a % suc b) (suc b) (a / suc b) a (mod-add-div a (suc b)) in
    let more : d ∣ n * suc b * (a / suc b) = dvd-mul_right_of_dvd d q (a / suc b) in
    let rest : d ∣ n * (a % suc b) = (dvd-add_iff_left d more).1 (subst (λ k. d ∣ k) (sym split) p) in
    let less : a % suc b ≤ steps = omega arith in
    dvd-scaled steps n (suc b) (a % suc b) g d less (IsGcd-mod a (suc b) g h) q rest
  where
    spread : (n r b q a : ℕ) → r + b * q ≡ a → n * r + n * b * q ≡ n * a
    spread n r b q a e = omega (arith, ap (λ k. n * k) e)

-- a divided by the greatest common divisor, times b, is the least common multiple
pub IsLcm-from_IsGcd : (a b g : ℕ) → 0 < a → IsGcd a b g → IsLcm a b (a / g * b)
IsLcm-from_IsGcd a b g some h =
    let whole : a / g * g ≡ a = div-mul_cancel g h.0 in
    let above : 0 < g = pos_of_dvd_of_pos h.0 some in
    record {
      of_left = subst (λ k. k ∣ a / g * b) whole (mul-dvd-mul_left g (a / g) h.1);
      of_right = dvd-mul_left b (a / g);
      least = λ k p q.
          let left : a * b ∣ k * a = subst (λ n. a * b ∣ n) (turned a k) (mul-dvd-mul_left b a q) in
          let right : a * b ∣ k * b = mul-dvd-mul_right a p b in
          let both : a * b ∣ k * g = dvd-scaled b k a b g (a * b) (omega arith) h left right in
          let product : a / g * b * g ≡ a * b = product_is (a / g) b g a whole in
          dvd_of_mul-dvd-mul_right (a / g * b) above (subst (λ n. n ∣ k * g) (sym product) both);
    }
  where
    turned : (a k : ℕ) → a * k ≡ k * a
    turned a k = omega arith

    product_is : (q b g a : ℕ) → q * g ≡ a → q * b * g ≡ a * b
    product_is q b g a e = omega (arith, ap (λ n. n * b) e)

-- it is at least both numbers
pub lcm_at_least : (a b m : ℕ) → 0 < a → 0 < b → IsLcm a b m → (a ≤ m) × (b ≤ m)
lcm_at_least a b m p q is =
    let some : 0 < m = pos_of_dvd_of_pos (is.least (a * b) (dvd-mul_right a b) (dvd-mul_left b a)) (mul-pos p q) in
    (le_of_dvd some is.of_left, le_of_dvd some is.of_right)

-- there is only one
pub same_from_IsLcm : (a b m k : ℕ) → IsLcm a b m → IsLcm a b k → m ≡ k
same_from_IsLcm a b m k p q = dvd_antisymm (p.least k q.of_left q.of_right) (q.least m p.of_left p.of_right)

-- ---- the numbers that compute

-- with enough steps it is the greatest common divisor
gcd_within-IsGcd : (steps a b : ℕ) → b < steps → IsGcd a b (gcd_within steps a b)
gcd_within-IsGcd zero a b lt = absurd (omega arith)
gcd_within-IsGcd (suc steps) a zero lt = IsGcd-from_zero a 0 refl
gcd_within-IsGcd (suc steps) a (suc b) lt = IsGcd-from_mod a (suc b) _
    (gcd_within-IsGcd steps (suc b) (a % suc b) (omega arith))

-- the number that computes is the greatest common divisor
pub gcd_of-IsGcd : (a b : ℕ) → IsGcd a b (gcd_of a b)
unfolding gcd_of
gcd_of-IsGcd a b = gcd_within-IsGcd (b + 1) a b (omega arith)

-- and that is the least common multiple
pub lcm_of-IsLcm : (a b : ℕ) → 0 < a → IsLcm a b (lcm_of a b)
unfolding lcm_of
lcm_of-IsLcm a b some = IsLcm-from_IsGcd a b (gcd_of a b) some (gcd_of-IsGcd a b)
