-- Numbers as they are written: fraction digits, and the sign of a decimal.
use Rattle.std.proofs.Common.{◌≡◌, ◌≢◌, ℕ, zero, suc, ◌+◌, ◌*◌, ◌/◌, ◌%◌, ◌^◌, ◌<◌, ◌≤◌, Bool, true, false, [], ◌∷◌}
use Rattle.std.proofs.Common.{◌++◌, ℤ, pos, negsuc, unsigned_abs, refl, sym, ap, ◌∙◌, arith}
use Rattle.std.specs.Fmt.{decimal}
use Rattle.std.specs.Int.Signed.{lt_z}
use Rattle.std.proofs.lemmas.Bool.{le-ltb}
use Rattle.std.proofs.lemmas.Fmt.{decimal_digit, decimal_step}
use Rattle.dp_base.specs.Decimals.{shortest, signed}
use Rattle.dp_base.proofs.SignificandLaws.{ten_more, tens_up}
use Rattle.dp_writer.specs.WrittenModel.{chance_word, reward_word}
use Rattle.dp_writer.specs.WrittenNumbers.{decimal_over, decimal_text, fraction_text, is_below_zero}
use Rattle.dp_writer.specs.WrittenNumbers.{last_digits, magnitude_text, sign_text}

-- behind a leading 1 stand the digits of a number that has no more
pub with_one : (k n : ℕ) → k ≤ 18 → n < 10 ^ k → decimal (10 ^ k + n) ≡ 49 ∷ last_digits k n
with_one zero n le below =
    let none : 10 ^ 0 + n ≡ 1 = omega arith in ap decimal none ∙ decimal_digit 1 (omega arith)
with_one (suc k) n le below =
    let plus : suc k ≡ k + 1 = omega arith in
    let ten : 10 ^ suc k ≡ 10 ^ k * 10 = ap (λ i. 10 ^ i) plus ∙ ten_more k in
    let most : 10 ^ suc k ≤ 10 ^ 18 = tens_up (suc k) 18 le in
    let least : 10 ^ 1 ≤ 10 ^ suc k = tens_up 1 (suc k) (omega arith) in
    let front : (10 ^ suc k + n) / 10 ≡ 10 ^ k + n / 10 = omega (arith, ten) in
    let last : (10 ^ suc k + n) % 10 ≡ n % 10 = omega (arith, ten) in
    decimal_step (10 ^ suc k + n) (omega (arith, least)) (omega (arith, most, below))
    ∙ (λ i. decimal (front i) ++ (48 + last i) ∷ [])
    ∙ ap (λ l. l ++ (48 + n % 10) ∷ []) (with_one k (n / 10) (omega arith) (omega (arith, ten, below)))

-- the fraction digits, where there are some
pub fraction_is : (units k : ℕ) → k ≢ 0 → fraction_text units k ≡ 46 ∷ last_digits k (units % 10 ^ k)
fraction_is units zero some = absurd (some refl)
fraction_is units (suc k) some = refl

-- a number that is not negative
pub chance_word_is : (scale n units digits : ℕ)
    → shortest false (n * 10 ^ 18 / scale) 18 ≡ record { units = pos units; digits = digits }
    → chance_word scale n ≡ magnitude_text units digits
unfolding decimal_over decimal_text
chance_word_is scale n units digits e = ap decimal_text e

-- a decimal with its sign
pub signed_text : (negative : Bool) (units digits : ℕ) → (negative ≡ true → 0 < units)
    → decimal_text (record { units = signed negative units; digits = digits })
    ≡ sign_text negative ++ magnitude_text units digits
unfolding decimal_text
signed_text false units digits some = refl
signed_text true zero digits some = absurd (omega (arith, some refl))
signed_text true (suc k) digits some = refl

-- a number that may be negative
pub reward_word_is : (scale units digits : ℕ) (r : ℤ)
    → shortest (is_below_zero r) (unsigned_abs r * 10 ^ 9 / scale) 9
    ≡ record { units = signed (is_below_zero r) units; digits = digits }
    → (is_below_zero r ≡ true → 0 < units)
    → reward_word scale r ≡ sign_text (is_below_zero r) ++ magnitude_text units digits
unfolding decimal_over
reward_word_is scale units digits r e some = ap decimal_text e ∙ signed_text (is_below_zero r) units digits some

-- it is below 0 where it is less than 0
pub below_zero_is : (r : ℤ) → lt_z r (pos 0) ≡ is_below_zero r
below_zero_is (pos n) = le-ltb n 0 (omega arith)
below_zero_is (negsuc n) = refl

pub some_below_zero : (r : ℤ) → is_below_zero r ≡ true → 0 < unsigned_abs r
some_below_zero (pos n) below = absurd cc
some_below_zero (negsuc n) below = omega arith

-- a number that may be negative, by its magnitude
pub reward_of : (scale magnitude units digits : ℕ) (r : ℤ) → magnitude ≡ unsigned_abs r
    → ((negative : Bool) → shortest negative (magnitude * 10 ^ 9 / scale) 9
    ≡ record { units = signed negative units; digits = digits })
    → (0 < magnitude → 0 < units)
    → reward_word scale r ≡ sign_text (is_below_zero r) ++ magnitude_text units digits
reward_of scale magnitude units digits r e is some =
    reward_word_is scale units digits r
    (ap (λ n. shortest (is_below_zero r) (n * 10 ^ 9 / scale) 9) (sym e) ∙ is (is_below_zero r))
    (λ below. some (omega (arith, e, some_below_zero r below)))
