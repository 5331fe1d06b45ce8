-- One more digit of a significand.
use Rattle.std.proofs.Common.{◌≡◌, ◌≢◌, ℕ, ◌+◌, ◌*◌, ◌%◌, ◌^◌, ◌<◌, ◌≤◌, List, [], ◌∷◌, ◌++◌, refl, ap, ◌∙◌, arith}
use Rattle.std.specs.Str.Parse.{digits_value}
use Rattle.std.proofs.Math.Nat.{pow-le-pow_right, mul-le-mul_right}
use Rattle.std.proofs.lemmas.Nat.{pow-add}
use Rattle.std.proofs.lemmas.Int.Digits.{digits_value_push}
use Rattle.std.proofs.lemmas.Str.{digit_value_digit}
use Rattle.dp_base.specs.declared.significand.Significand.{Significand}
use Rattle.dp_base.specs.Significands.{IsSeen}

-- the number of digits with one more behind them
pushed : (ds : List ℕ) (d : ℕ) → d < 10 → digits_value 10 (ds ++ (48 + d) ∷ []) ≡ digits_value 10 ds * 10 + d
pushed ds d lt = omega (
  arith,
  digits_value_push 10 ds (48 + d),
  digit_value_digit (48 + d) (omega arith, omega arith),
)

-- ten times a power of ten
pub ten_more : (z : ℕ) → 10 ^ (z + 1) ≡ 10 ^ z * 10
ten_more z = pow-add 10 z 1

-- powers of ten grow
pub tens_up : (i j : ℕ) → i ≤ j → 10 ^ i ≤ 10 ^ j
tens_up i j le = let some : 0 < 10 = omega arith in pow-le-pow_right some le

-- ten times a number with zeros behind it
pub times_ten : (n z : ℕ) → n * 10 ^ (z + 1) ≡ n * 10 ^ z * 10
times_ten n z = let moved : n * 10 ^ (z + 1) ≡ n * (10 ^ z * 10) = ap (λ p. n * p) (ten_more z) in
    omega (arith, moved)

-- a power of ten is above 0
pub some_tens : (k : ℕ) → 0 < 10 ^ k
some_tens k = omega (arith, tens_up 0 k (omega arith))

-- a number of so many digits, with more of them behind it
pub more_high : (n len z d : ℕ) → n < 10 ^ len → d < 10 → n * 10 ^ (z + 1) + d < 10 ^ (len + z + 1)
more_high n len z d lt digit =
    let p : ℕ = 10 ^ (z + 1) in
    let big : 10 ^ 1 ≤ 10 ^ (z + 1) = tens_up 1 (z + 1) (omega arith) in
    let all : (n + 1) * 10 ^ (z + 1) ≤ 10 ^ len * 10 ^ (z + 1) = mul-le-mul_right (10 ^ (z + 1)) (omega arith) in
    let sum : 10 ^ (len + (z + 1)) ≡ 10 ^ len * 10 ^ (z + 1) = pow-add 10 len (z + 1) in
    let exps : 10 ^ (len + z + 1) ≡ 10 ^ (len + (z + 1)) = ap (λ (k : ℕ). 10 ^ k) (omega arith) in
    omega (arith, big, all, sum, exps)

-- and not of fewer
pub more_low : (n len z d : ℕ) → 10 ^ len ≤ n * 10 → 10 ^ (len + z + 1) ≤ (n * 10 ^ (z + 1) + d) * 10
more_low n len z d le =
    let all : 10 ^ len * 10 ^ (z + 1) ≤ n * 10 * 10 ^ (z + 1) = mul-le-mul_right (10 ^ (z + 1)) le in
    let sum : 10 ^ (len + (z + 1)) ≡ 10 ^ len * 10 ^ (z + 1) = pow-add 10 len (z + 1) in
    let exps : 10 ^ (len + z + 1) ≡ 10 ^ (len + (z + 1)) = ap (λ (k : ℕ). 10 ^ k) (omega arith) in
    omega (arith, all, sum, exps)

-- it ends in the digit
more_ends : (n z d : ℕ) → d < 10 → d ≢ 0 → (n * 10 ^ (z + 1) + d) % 10 ≢ 0
more_ends n z d lt some =
    let q : n * 10 ^ (z + 1) + d ≡ n * 10 ^ z * 10 + d = ap (λ k. k + d) (times_ten n z) in
    rw q (ends_in (n * 10 ^ z) d lt some)
  where
    ends_in : (q d : ℕ) → d < 10 → d ≢ 0 → (q * 10 + d) % 10 ≢ 0
    ends_in q d lt some = omega arith

-- it fits 128 bits as long as it is kept
pub fits_128 : (n len z d : ℕ) → n < 10 ^ len → d < 10 → len + z + 1 ≤ 36 → n * 10 ^ (z + 1) + d < 2 ^ 127
fits_128 n len z d lt digit short =
    let most : 10 ^ (len + z + 1) ≤ 10 ^ 36 = tens_up (len + z + 1) 36 short in
    omega (arith, most, more_high n len z d lt digit)

-- and so does the power of ten
pub pow_fits : (len z : ℕ) → 0 < len → len + z + 1 ≤ 36 → 10 ^ (z + 1) < 2 ^ 127
pow_fits len z some short = let most : 10 ^ (z + 1) ≤ 10 ^ 36 = tens_up (z + 1) 36 (omega arith) in
    omega (arith, most)

-- a zero more
pub zero_digit : (ds : List ℕ) (s t : Significand) → t.number ≡ s.number → t.len ≡ s.len → t.zeros ≡ s.zeros + 1
    → IsSeen ds s → IsSeen (ds ++ 48 ∷ []) t
zero_digit ds s t number len zeros seen =
    let n : ℕ = seen.0 in
    let was = seen.1 in (
      n,
      record {
        value = rw zeros (omega (arith, pushed ds 0 (omega arith), was.value, times_ten seen.0 s.zeros));
        none = rw len was.none;
        some = rw len was.some;
        kept = rw (len, number) was.kept;
      },
    )

-- the first digit above 0
pub first_digit : (ds : List ℕ) (d : ℕ) (s t : Significand) → d < 10 → d ≢ 0 → s.len ≡ 0 → t.number ≡ d → t.len ≡ 1
    → t.zeros ≡ 0 → IsSeen ds s → IsSeen (ds ++ (48 + d) ∷ []) t
first_digit ds d s t lt some empty number len zeros seen =
    let was = seen.1 in
    let none : seen.0 ≡ 0 = was.none empty in
    let nothing : digits_value 10 ds ≡ 0 = was.value ∙ rw none (omega arith) in (
      d,
      record {
        value = rw zeros (omega (arith, pushed ds d lt, nothing));
        none = λ h. absurd (omega arith);
        some = λ _. rw len (record { high = omega arith; low = omega arith; ends = omega arith });
        kept = λ _. number;
      },
    )

-- a digit above 0 behind others
pub next_digit : (ds : List ℕ) (d : ℕ) (s t : Significand) → d < 10 → d ≢ 0 → 0 < s.len → t.len ≡ s.len + s.zeros + 1
    → t.zeros ≡ 0 → (t.len ≤ 36 → t.number ≡ s.number * 10 ^ (s.zeros + 1) + d) → IsSeen ds s
    → IsSeen (ds ++ (48 + d) ∷ []) t
next_digit ds d s t lt some there len zeros number seen =
    let n : ℕ = seen.0 in
    let was = seen.1 in
    let long = was.some there in (
      n * 10 ^ (s.zeros + 1) + d,
      record {
        value = rw zeros (omega (arith, pushed ds d lt, was.value, times_ten seen.0 s.zeros));
        none = λ h. absurd (omega arith);
        some = λ _. rw len (record {
          high = more_high n s.len s.zeros d long.high lt;
          low =
              more_low n s.len s.zeros d long.low;
          ends = more_ends n s.zeros d lt some;
        });
        kept = λ short. number short ∙ ap (λ k. k * 10 ^ (s.zeros + 1) + d) (was.kept (omega arith));
      },
    )

-- no digits
pub nothing_seen : (s : Significand) → s.number ≡ 0 → s.len ≡ 0 → s.zeros ≡ 0 → IsSeen [] s
nothing_seen s number len zeros = (
  0,
  record {
    value = rw zeros refl;
    none = λ _. refl;
    some =
        λ lt. absurd (omega arith);
    kept = λ _. number;
  },
)
