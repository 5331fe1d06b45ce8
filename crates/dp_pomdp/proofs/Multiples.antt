-- Weights divided by a common divisor, as loops form them.
use Rattle.std.proofs.Common.{◌≡◌, ◌≢◌, ℕ, suc, ◌*◌, ◌/◌, ◌^◌, ◌<◌, ◌≤◌, ℤ, pos, negsuc, ◌*ℤ◌, ◌≤ℤ◌, List, length}
use Rattle.std.proofs.Common.{FitsSigned, set, inl, inr, unsigned_abs, refl, sym, ap, subst, ◌∙◌, arith}
use Rattle.std.proofs.Common.{get_or-set_other, get_or-set_same}
use Rattle.std.specs.Int.{◌∣◌, IsGcd, w128}
use Rattle.std.proofs.Math.Nat.{div-mul_cancel, eq-zero_of_zero-dvd}
use Rattle.std.proofs.lemmas.Bool.{cases_lt}
use Rattle.std.proofs.lemmas.Int.{ints}
use Rattle.std.proofs.lemmas.List.{length-set}
use Rattle.std.proofs.lemmas.Nat.Gcd.{dvd-zero, dvd_trans, le_of_dvd}
use Rattle.dp_spec.specs.declared.span.Span.{Span}
use Rattle.dp_spec.specs.Arithmetic.{point}
use Rattle.dp_pomdp.specs.Looking.{AreZero, weights_of}
use Rattle.dp_pomdp.specs.Multiples.{AreNumbers, AreTimes, IsDivisorOf}

-- ---- the common divisor

-- one weight more
pub divides_more : (g k r i : ℕ) (ws : List Span) → IsGcd g r k → r ≡ unsigned_abs (weights_of ws i).high
    → ((s : ℕ) → s < i → g ∣ unsigned_abs (weights_of ws s).high)
    → (s : ℕ) → s < suc i → k ∣ unsigned_abs (weights_of ws s).high
divides_more g k r i ws both is below s lt = elim (cases_lt s i) [
  | inl early ↦ dvd_trans k both.0 (below s early)
  | inr late ↦ let here : s ≡ i = omega arith in rw here (rw (sym is) both.1)
]

-- and each common divisor divides it
pub divided_more : (g k r i : ℕ) (ws : List Span) → IsGcd g r k → r ≡ unsigned_abs (weights_of ws i).high
    → i < length ws → ((d : ℕ) → IsDivisorOf d ws → d ∣ g) → (d : ℕ) → IsDivisorOf d ws → d ∣ k
divided_more g k r i ws both is inside so_far d divides = both.2 d (so_far d divides) (rw is (divides i inside))

-- it is no greater than they are
pub small_more : (g k r : ℕ) (x : ℤ) → IsGcd g r k → r ≡ unsigned_abs x → pos 0 ≤ℤ x → FitsSigned w128 x
    → g < 2 ^ 127 → k < 2 ^ 127
small_more g k r x both is from fits so_far =
    let small : r < 2 ^ 127 = omega (arith, ints, is, from, fits) in
    elim (cases_lt 0 g) [
      | inl some ↦ let le = le_of_dvd some both.0 in omega (arith, le, so_far)
      | inr none ↦ elim (cases_lt 0 r) [
        | inl some ↦ let le = le_of_dvd some both.1 in omega (arith, le, small)
        | inr nought ↦
            let left : g ≡ 0 = omega arith in
            let right : r ≡ 0 = omega arith in
            let both_zero : k ≡ 0 = eq-zero_of_zero-dvd (both.2 0 (rw left (dvd-zero 0)) (rw right (dvd-zero 0))) in
            omega (arith, both_zero)
      ]
    ]

zero_of : (x : ℤ) → unsigned_abs x ≡ 0 → x ≡ pos 0
zero_of x e = omega (arith, ints)

-- 0 divides nothing but zeros
all_zero_by_zero : (k : ℕ) (ws : List Span) → k ≡ 0 → IsDivisorOf k ws → AreZero ws
all_zero_by_zero k ws none divides s lt =
    let zero_divides = subst (λ (n : ℕ). n ∣ unsigned_abs (weights_of ws s).high) none (divides s lt) in
    zero_of _ (eq-zero_of_zero-dvd zero_divides)

-- so one below 2 is 1, where some upper end is not 0
pub one_left : (k : ℕ) (ws : List Span) → k < 2 → IsDivisorOf k ws → (AreZero ws → ⊥) → k ≡ 1
one_left k ws less divides some = elim (cases_lt 0 k) [
  | inl more ↦ omega arith
  | inr none ↦ absurd (some (all_zero_by_zero k ws (omega arith) divides))
]

-- ---- the division

-- the weights below `at` are divided by k, and the others are as they were
pub record IsDividing (k : ℕ) (ws : List Span) (at : ℕ) (us : List Span) : Type 0 where
  pub one_each : length us ≡ length ws
  pub done : (s : ℕ) → s < at → weights_of us s ≡ point (pos (unsigned_abs (weights_of ws s).high / k))
  pub rest : (s : ℕ) → at ≤ s → weights_of us s ≡ weights_of ws s

pub start_dividing : (k : ℕ) (ws : List Span) → IsDividing k ws 0 ws
start_dividing k ws = record { one_each = refl; done = λ s lt. absurd (omega arith); rest = λ s le. refl }

pub go_on_dividing : (k : ℕ) (ws : List Span) (at : ℕ) (us : List Span) (x : Span) → at < length ws
    → x ≡ point (pos (unsigned_abs (weights_of us at).high / k)) → IsDividing k ws at us
    → IsDividing k ws (suc at) (set us at x)
go_on_dividing k ws at us x inside is so_far = record {
  one_each = length-set us at x ∙ so_far.one_each;
  done = λ s lt. elim (cases_lt s at) [
    | inl early ↦ let other : s ≢ at = λ e. absurd (omega arith) in rw get_or-set_other (so_far.done s early)
    | inr late ↦
        let here : s ≡ at = omega arith in
        let room : at < length us = let len = so_far.one_each in omega arith in
        rw here (rw get_or-set_same (is ∙ ap (λ (w : Span). point (pos (unsigned_abs w.high / k)))
        (so_far.rest at (omega arith))))
  ];
  rest = λ s le. let other : s ≢ at = λ e. absurd (omega arith) in rw get_or-set_other (so_far.rest s (omega arith));
}

-- a number from 0 that k divides is k times the quotient
times_quotient : (k : ℕ) (x : ℤ) → pos 0 ≤ℤ x → k ∣ unsigned_abs x → x ≡ pos k *ℤ pos (unsigned_abs x / k)
times_quotient k (pos n) from divides =
    let back : n / k * k ≡ n = div-mul_cancel k divides in
    let whole : n ≡ k * (n / k) = omega (arith, back) in ap pos whole
times_quotient k (negsuc n) from divides = absurd (omega (arith, ints))

pub end_dividing : (k : ℕ) (ws : List Span) (at : ℕ) (us : List Span) → 1 < k → AreNumbers ws → IsDivisorOf k ws
    → length ws ≤ at → IsDividing k ws at us → AreTimes k us ws
end_dividing k ws at us some numbers divides all is = record {
  some = omega arith;
  one_each = is.one_each;
  low = λ s lt.
      (numbers s lt).1 ∙ times_quotient k (weights_of ws s).high (numbers s lt).0 (divides s lt)
      ∙ sym (ap (λ (w : Span). pos k *ℤ w.low) (is.done s (omega arith)));
  high = λ s lt.
      times_quotient k (weights_of ws s).high (numbers s lt).0 (divides s lt)
      ∙ sym (ap (λ (w : Span). pos k *ℤ w.high) (is.done s (omega arith)));
}
