-- The words of chances and rewards are read as exactly the decimals that are written, and in range.
use Rattle.std.proofs.Common.{◌≡◌, ℕ, ◌+◌, ◌*◌, ◌/◌, ◌%◌, ◌^◌, ◌<◌, ◌≤◌, true, ℤ, pos, List, []}
use Rattle.std.proofs.Common.{◌∷◌}
use Rattle.std.proofs.Common.{unsigned_abs, Ok, refl, sym, ap, ◌∙◌, arith, subst}
use Rattle.std.proofs.Common.{length}
use Rattle.std.specs.Prelude.{nat_le, ◌&&◌}
use Rattle.std.proofs.lemmas.Bool.{le-leb}
use Rattle.std.proofs.lemmas.Nat.{pow-add}
use Rattle.std.proofs.Math.Nat.{div-le_of_le-mul, le_of_mul-le-mul_right, mul-le-mul_right, mul_right_comm}
use Rattle.std.proofs.Math.Nat.{mul_comm}
use Rattle.dp_base.specs.declared.decimal.Decimal.{Decimal}
use Rattle.dp_base.specs.DecimalShape.{is_decimal}
use Rattle.dp_base.specs.Decimals.{decimal_of, signed}
use Rattle.dp_base.proofs.Outcomes.{shortest_form}
use Rattle.dp_base.proofs.Shortest.{unsigned_abs-signed}
use Rattle.dp_base.proofs.SignificandLaws.{tens_up}
use Rattle.dp_lexer.specs.declared.Kind.TheVariants.{Number}
use Rattle.dp_lexer.specs.TokenLaws.{IsOfKind}
use Rattle.dp_meaning.specs.Numbers.{is_at_most, is_chance, is_reward}
use Rattle.dp_writer.specs.WrittenModel.{chance_word, reward_word}
use Rattle.dp_writer.specs.WrittenNumbers.{decimal_over, decimal_text, is_below_zero}
use Rattle.dp_writer.proofs.DigitTexts.{some_below_zero}
use Rattle.dp_writer.proofs.ReadDecimals.{number_token, read_written}
use Rattle.dp_writer.proofs.ReadFractions.{not_zero, reward_digits, small, times_scale, without_tens}
use Rattle.dp_writer.proofs.Symbols.{IsRun}
use Rattle.dp_writer.proofs.ReadPieces.{IsNumberOf}

-- the text of a decimal is one Number and read as it is; the decimal is z over the scale
pub record IsReadOver (most scale : ℕ) (z : ℤ) (d : Decimal) : Type 0 where
  pub token : IsOfKind Number (decimal_text d)
  pub read : decimal_of (decimal_text d) ≡ Ok d
  pub sign : d.units ≡ signed (is_below_zero z) (unsigned_abs d.units)
  pub fraction : unsigned_abs d.units * scale ≡ unsigned_abs z * 10 ^ d.digits
  pub few : d.digits ≤ most

-- z over a scale, where so many fraction digits are enough
pub exactly_read : (most scale : ℕ) (z : ℤ) → most ≤ 18 → unsigned_abs z * 10 ^ most % scale ≡ 0
    → unsigned_abs z * 10 ^ most / scale < 10 ^ (18 + most) → IsReadOver most scale z (decimal_over most z scale)
unfolding decimal_over
exactly_read most scale z few whole below =
    let negative = is_below_zero z in
    let a = unsigned_abs z in
    let v = a * 10 ^ most / scale in
    let f = shortest_form negative v most in
    let is = times_scale a scale (10 ^ most) v whole refl in
    let same = without_tens f.n a scale f.j f.k most v f.reduced.sum f.reduced.value is in
    let within : f.k ≤ most = omega (arith, f.reduced.sum) in
    let few_digits : f.k ≤ 18 = omega (arith, within, few) in
    let not_large = small f.n f.j f.k most v f.reduced.sum f.reduced.value below in
    let some : negative ≡ true → 0 < f.n = λ minus. not_zero f.n a scale f.k same (some_below_zero z minus) in
    subst (IsReadOver most scale z) (sym f.is) (record {
      token = number_token negative f.n f.k not_large few_digits some;
      read = read_written negative f.n f.k f.reduced.ends not_large few_digits some;
      sign = ap (signed negative) (sym (unsigned_abs-signed negative f.n));
      fraction = ap (λ n. n * scale) (unsigned_abs-signed negative f.n) ∙ same;
      few = within;
    })

-- a Number is not empty
decimal_some : (text : List ℕ) → is_decimal text ≡ true → 0 < length text
unfolding is_decimal
decimal_some [] e = absurd cc
decimal_some (b ∷ text) e = omega arith

number_run : (text : List ℕ) → IsOfKind Number text → IsRun text
number_run text token = record { some = decimal_some text token.1; named = token.0 }

-- ---- chances

chance_range : (d : Decimal) (scale n : ℕ) → 0 < scale → n ≤ scale → d.units ≡ pos (unsigned_abs d.units)
    → unsigned_abs d.units * scale ≡ n * 10 ^ d.digits → d.digits ≤ 18 → is_chance d ≡ true
chance_range d scale n some within units fraction few =
    let tens = 10 ^ d.digits in
    let most : unsigned_abs d.units * scale ≤ tens * scale
    = omega (arith, fraction, mul-le-mul_right tens within, mul_comm tens scale) in
    ap (λ u. is_at_most u tens && nat_le d.digits 18) units
    ∙ rw (le-leb (unsigned_abs d.units) tens (le_of_mul-le-mul_right most some), le-leb d.digits 18 few) refl

-- a chance that is a whole multiple of 10 ^ -18
pub chance_number : (scale n : ℕ) → 0 < scale → n ≤ scale → n * 10 ^ 18 % scale ≡ 0
    → IsNumberOf is_chance (chance_word scale n) (decimal_over 18 (pos n) scale)
chance_number scale n some within whole =
    let is = exactly_read 18 scale (pos n) (omega arith) whole
    (omega (arith, div-le_of_le-mul scale {m = n * 10 ^ 18} {n = 10 ^ 18} (mul-le-mul_right (10 ^ 18) within))) in
    record {
      run = number_run (chance_word scale n) is.token;
      shape = is.token.1;
      read = is.read;
      in_range = chance_range (decimal_over 18 (pos n) scale) scale n some within is.sign is.fraction is.few;
    }

-- ---- rewards

reward_range : (d : Decimal) (scale n : ℕ) → 0 < scale → n ≤ 10 ^ 8 * scale
    → unsigned_abs d.units * scale ≡ n * 10 ^ d.digits → d.digits ≤ 9 → is_reward d ≡ true
reward_range d scale n some within fraction few =
    let tens = 10 ^ d.digits in
    let more : n * tens ≤ 10 ^ 8 * scale * tens = mul-le-mul_right tens within in
    let most : unsigned_abs d.units * scale ≤ 10 ^ (8 + d.digits) * scale
    = omega (arith, fraction, more, ap (λ p. p * scale) (pow-add 10 8 d.digits), mul_right_comm (10 ^ 8) scale tens)
    in
    rw (le-leb (unsigned_abs d.units) (10 ^ (8 + d.digits)) (le_of_mul-le-mul_right most some), le-leb d.digits 9 few)
    refl

-- a reward over a power of ten
pub reward_number : (scale k : ℕ) (r : ℤ) → k ≤ 9 → scale ≡ 10 ^ k → unsigned_abs r ≤ 10 ^ 8 * scale
    → IsNumberOf is_reward (reward_word scale r) (decimal_over 9 r scale)
reward_number scale k r few tens within =
    let digits = reward_digits scale k r few tens within in
    let is = exactly_read 9 scale r (omega arith) digits.0 digits.1 in
    let some : 0 < scale = omega (arith, tens, tens_up 0 k (omega arith)) in
    record {
      run = number_run (reward_word scale r) is.token;
      shape = is.token.1;
      read = is.read;
      in_range = reward_range (decimal_over 9 r scale) scale (unsigned_abs r) some within is.fraction is.few;
    }
