-- The least digits of a number that was seen.
use Rattle.std.proofs.Common.{◌≡◌, ◌≢◌, ℕ, zero, suc, ◌+◌, ◌-◌, ◌*◌, ◌/◌, ◌%◌, ◌^◌, ◌<◌, ◌≤◌, Bool, true, false, leb}
use Rattle.std.proofs.Common.{List, Result, Ok, Err, refl, sym, ap, ◌∙◌, arith, zero-add}
use Rattle.std.specs.Prelude.{ℤ, unsigned_abs}
use Rattle.std.proofs.lemmas.Bool.{ne_eqb, le-leb, lt-ltb, le-ltb, lt-leb}
use Rattle.std.proofs.Math.Nat.{mul-le-mul_right, zero-mul}
use Rattle.std.proofs.lemmas.Nat.{pow-add}
use Rattle.std.specs.Str.Parse.{digits_value}
use Rattle.dp_base.specs.declared.significand.Significand.{Significand}
use Rattle.dp_base.specs.declared.decimal.NumFault.{NumFault}
use Rattle.dp_base.specs.declared.decimal.NumFault.TheVariants.{Large, Digits}
use Rattle.dp_base.specs.declared.decimal.Decimal.{Decimal}
use Rattle.dp_base.specs.Decimals.{signed, shortest, judged}
use Rattle.dp_base.specs.Significands.{HasLength, IsSeen}
use Rattle.dp_base.proofs.SignificandLaws.{tens_up, ten_more, times_ten}

-- units / 10 ^ digits with a sign
abbrev pub decimal_with : Bool → ℕ → ℕ → Decimal
decimal_with negative units digits = record { units = signed negative units; digits = digits }

-- zero has no fraction digits
pub shortest_zero : (negative : Bool) (k : ℕ) → shortest negative 0 k ≡ decimal_with negative 0 0
shortest_zero negative zero = refl
shortest_zero negative (suc k) = shortest_zero negative k

-- tens above and below cancel
shortest_less : (negative : Bool) (n j k : ℕ) → shortest negative (n * 10 ^ j) (j + k) ≡ shortest negative n k
shortest_less negative n zero k = let one : n * 10 ^ 0 ≡ n = omega arith in rw (one, zero-add k) refl
shortest_less negative n (suc j) k =
    let more : suc j + k ≡ suc (j + k) = omega arith in
    let plus : suc j ≡ j + 1 = omega arith in
    let ten : n * 10 ^ suc j ≡ n * 10 ^ j * 10 = ap (λ i. n * 10 ^ i) plus ∙ times_ten n j in
    rw (more, ten) (one_less negative (n * 10 ^ j) (j + k)) ∙ shortest_less negative n j k
  where
    one_less : (negative : Bool) (q m : ℕ) → shortest negative (q * 10) (suc m) ≡ shortest negative q m
    one_less negative q m =
        let none : q * 10 % 10 ≡ 0 = omega arith in
        let back : q * 10 / 10 ≡ q = omega arith in
        rw (none, back) refl

-- a number that does not end in 0 keeps its digits
shortest_stop : (negative : Bool) (n k : ℕ) → n % 10 ≢ 0 → shortest negative n k ≡ decimal_with negative n k
shortest_stop negative n zero some = refl
shortest_stop negative n (suc k) some = rw (ne_eqb (n % 10) 0 some) refl

module _ (ds : List ℕ) (s : Significand) (negative : Bool) (up down : ℕ) where
  -- where no digit but 0 was seen
  pub at_zero : s.len ≡ 0 → IsSeen ds s
      → shortest negative (digits_value 10 ds * 10 ^ up) down ≡ decimal_with negative 0 0
  at_zero empty seen =
      let none : seen.0 ≡ 0 = seen.1.none empty in
      let value : digits_value 10 ds ≡ 0 * 10 ^ s.zeros = seen.1.value ∙ ap (λ n. n * 10 ^ s.zeros) none in
      let zero_is : digits_value 10 ds ≡ 0 = omega (arith, value) in
      let nothing : digits_value 10 ds * 10 ^ up ≡ 0 = ap (λ v. v * 10 ^ up) zero_is ∙ zero-mul (10 ^ up) in
      rw nothing (shortest_zero negative down)

  -- the number with all its tens
  all_tens : (seen : IsSeen ds s) → digits_value 10 ds * 10 ^ up ≡ seen.0 * 10 ^ (s.zeros + up)
  all_tens seen =
      let sum : seen.0 * 10 ^ (s.zeros + up) ≡ seen.0 * (10 ^ s.zeros * 10 ^ up) =
      ap (λ p. seen.0 * p) (pow-add 10 s.zeros up) in
      let first : digits_value 10 ds * 10 ^ up ≡ seen.0 * 10 ^ s.zeros * 10 ^ up =
      ap (λ v. v * 10 ^ up) seen.1.value in
      omega (arith, sum, first)

  -- where the tens make it a whole number
  pub at_whole : (seen : IsSeen ds s) → down ≤ s.zeros + up
      → shortest negative (digits_value 10 ds * 10 ^ up) down
      ≡ decimal_with negative (seen.0 * 10 ^ (s.zeros + up - down)) 0
  at_whole seen le =
      let split : s.zeros + up ≡ (s.zeros + up - down) + down = omega arith in
      let apart : seen.0 * 10 ^ (s.zeros + up) ≡ seen.0 * (10 ^ (s.zeros + up - down) * 10 ^ down) =
      ap (λ k. seen.0 * 10 ^ k) split ∙ ap (λ p. seen.0 * p) (pow-add 10 (s.zeros + up - down) down) in
      let tens : digits_value 10 ds * 10 ^ up ≡ seen.0 * 10 ^ (s.zeros + up - down) * 10 ^ down =
      all_tens seen ∙ omega (arith, apart) in
      let none : down ≡ down + 0 = omega arith in
      rw tens (ap (shortest negative (seen.0 * 10 ^ (s.zeros + up - down) * 10 ^ down)) none
      ∙ shortest_less negative (seen.0 * 10 ^ (s.zeros + up - down)) down 0)

  -- where they do not
  pub at_fraction : (seen : IsSeen ds s) → 0 < s.len → s.zeros + up < down
      → shortest negative (digits_value 10 ds * 10 ^ up) down ≡ decimal_with negative seen.0 (down - (s.zeros + up))
  at_fraction seen some lt =
      let split : down ≡ (s.zeros + up) + (down - (s.zeros + up)) = omega arith in
      rw (all_tens seen) (ap (shortest negative (seen.0 * 10 ^ (s.zeros + up))) split
      ∙ shortest_less negative seen.0 (s.zeros + up) (down - (s.zeros + up)))
      ∙ shortest_stop negative seen.0 (down - (s.zeros + up)) (seen.1.some some).ends

-- the magnitude of a number with a sign
pub unsigned_abs-signed : (negative : Bool) (n : ℕ) → unsigned_abs (signed negative n) ≡ n
unsigned_abs-signed true zero = refl
unsigned_abs-signed true (suc n) = refl
unsigned_abs-signed false n = refl

-- ---- what is answered of a number that has so many digits and does not end in 0

-- of a whole number with more than 18 digits
pub large_whole : (negative : Bool) (n len more : ℕ) → HasLength n len → 18 < len + more
    → judged (decimal_with negative (n * 10 ^ more) 0) ≡ Err Large
large_whole negative n len more long lt =
    let sum : 10 ^ (len + more) ≡ 10 ^ len * 10 ^ more = pow-add 10 len more in
    let most : 10 ^ 19 ≤ 10 ^ (len + more) = tens_up 19 (len + more) lt in
    let low : 10 ^ len * 10 ^ more ≤ n * 10 * 10 ^ more = mul-le-mul_right (10 ^ more) long.low in
    let large : 10 ^ 18 ≤ n * 10 ^ more = omega (arith, sum, most, low) in
    rw (unsigned_abs-signed negative (n * 10 ^ more), le-leb (10 ^ 18) (n * 10 ^ more) large) refl

-- a whole number with at most 18 digits is below 10 ^ 18
below_whole : (n len more : ℕ) → n < 10 ^ len → len + more ≤ 18 → n * 10 ^ more < 10 ^ 18
below_whole n len more high le =
    let sum : 10 ^ (len + more) ≡ 10 ^ len * 10 ^ more = pow-add 10 len more in
    let most : 10 ^ (len + more) ≤ 10 ^ 18 = tens_up (len + more) 18 le in
    let all : (n + 1) * 10 ^ more ≤ 10 ^ len * 10 ^ more = mul-le-mul_right (10 ^ more) (omega arith) in
    let some : 10 ^ 0 ≤ 10 ^ more = tens_up 0 more (omega arith) in
    omega (arith, sum, most, all, some)

-- so it has 127 bits
pub whole_fits : (n len more : ℕ) → n < 10 ^ len → len + more ≤ 18 → n * 10 ^ more < 2 ^ 127
whole_fits n len more high le = omega (arith, below_whole n len more high le)

-- and is given
pub ok_whole : (negative : Bool) (n len more : ℕ) → HasLength n len → len + more ≤ 18
    → judged (decimal_with negative (n * 10 ^ more) 0) ≡ Ok (decimal_with negative (n * 10 ^ more) 0)
ok_whole negative n len more long le = rw (
  unsigned_abs-signed negative (n * 10 ^ more),
  lt-leb (10 ^ 18) (n * 10 ^ more) (below_whole n len more long.high le),
) refl

-- of a fraction with more than 18 digits before the point
pub large_fraction : (negative : Bool) (n len k : ℕ) → HasLength n len → 18 + k < len
    → judged (decimal_with negative n k) ≡ Err Large
large_fraction negative n len k long lt =
    let most : 10 ^ (18 + k + 1) ≤ 10 ^ len = tens_up (18 + k + 1) len (omega arith) in
    let large : 10 ^ (18 + k) ≤ n = omega (arith, most, ten_more (18 + k), long.low) in
    rw (unsigned_abs-signed negative n, le-leb (10 ^ (18 + k)) n large) refl

-- a fraction with at most 18 of them is below 10 ^ 18
not_large : (n len k : ℕ) → n < 10 ^ len → len ≤ 18 + k → leb (10 ^ (18 + k)) n ≡ false
not_large n len k high le = lt-leb (10 ^ (18 + k)) n (let most = tens_up len (18 + k) le in omega (arith, most))

-- and refused where it has more than 18 fraction digits
pub digits_fraction : (negative : Bool) (n len k : ℕ) → HasLength n len → len ≤ 18 + k → 18 < k
    → judged (decimal_with negative n k) ≡ Err (Digits k)
digits_fraction negative n len k long le lt = rw (
  unsigned_abs-signed negative n,
  not_large n len k long.high le,
  lt-ltb 18 k lt,
) refl

-- and else given
pub ok_fraction : (negative : Bool) (n len k : ℕ) → HasLength n len → len ≤ 18 + k → k ≤ 18
    → judged (decimal_with negative n k) ≡ Ok (decimal_with negative n k)
ok_fraction negative n len k long le small = rw (
  unsigned_abs-signed negative n,
  not_large n len k long.high le,
  le-ltb 18 k small,
) refl

-- where it has 127 bits
pub fraction_fits : (n len k : ℕ) → n < 10 ^ len → len ≤ 18 + k → k ≤ 18 → n < 2 ^ 127
fraction_fits n len k high le small = let most = tens_up len 36 (omega arith) in omega (arith, most)

-- zero is given
pub ok_zero : (negative : Bool) → judged (decimal_with negative 0 0) ≡ Ok (decimal_with negative 0 0)
ok_zero true = refl
ok_zero false = refl

-- the decimal with these units is the one that is given
pub ok_of : (negative : Bool) (n k : ℕ) (units : ℤ) → units ≡ signed negative n
    → judged (decimal_with negative n k) ≡ Ok (decimal_with negative n k)
    → Ok (record { units = units; digits = k }) ≡ judged (decimal_with negative n k)
ok_of negative n k units e ok = ap given e ∙ sym ok
  where
    given : ℤ → Result Decimal NumFault
    given z = Ok (record { units = z; digits = k })
