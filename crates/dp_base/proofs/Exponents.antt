-- The number that an exponent writes.
use Rattle.std.proofs.Common.{◌≡◌, ℕ, ◌+◌, ◌-◌, ◌*◌, ◌^◌, ◌<◌, true, List, length, get_or, take, arith}
use Rattle.std.specs.Char.{is_ascii_digit}
use Rattle.std.specs.Str.Parse.{digits_value}
use Rattle.std.proofs.lemmas.Int.Digits.{digits_value_more}
use Rattle.std.proofs.lemmas.Str.{digit_value_digit}
use Rattle.dp_base.proofs.DigitRuns.{digit_low, digit_high}
use Rattle.dp_base.proofs.SignificandLaws.{ten_more}

-- the number of the first digits and one more
pub more_value : (text : List ℕ) (n i : ℕ) → i < length text → is_ascii_digit (get_or text i 0) ≡ true
    → n ≡ digits_value 10 (take i text) → n * 10 + (get_or text i 0 - 48) ≡ digits_value 10 (take (i + 1) text)
more_value text n i lt digit so_far =
    let low = digit_low (get_or text i 0) digit in
    let high = digit_high (get_or text i 0) digit in
    omega (arith, digits_value_more 10 text i lt, digit_value_digit (get_or text i 0) (low, high))

-- it is below the power of ten of their count
pub more_below : (text : List ℕ) (n i : ℕ) → is_ascii_digit (get_or text i 0) ≡ true → n < 10 ^ i
    → n * 10 + (get_or text i 0 - 48) < 10 ^ (i + 1)
more_below text n i digit lt = let high = digit_high (get_or text i 0) digit in omega (arith, ten_more i)
