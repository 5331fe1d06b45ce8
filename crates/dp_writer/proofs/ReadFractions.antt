-- Fractions that are written are read as they are.
use Rattle.std.proofs.Common.{◌≡◌, ℕ, zero, suc, ◌+◌, ◌-◌, ◌*◌, ◌/◌, ◌%◌, ◌^◌, ◌<◌, ◌≤◌, true, ℤ, pos}
use Rattle.std.proofs.Common.{negsuc, ◌*ℤ◌}
use Rattle.std.proofs.Common.{unsigned_abs, inl, inr, refl, sym, ap, subst, ◌∙◌, arith}
use Rattle.std.proofs.lemmas.Bool.{cases_lt}
use Rattle.std.proofs.lemmas.Nat.{pow-add}
use Rattle.std.proofs.Math.Nat.{div-mul-le_self, eq_of_mul-eq-mul_right, mod-eq-sub-div-mul, mul_assoc}
use Rattle.std.proofs.Math.Nat.{mul-le-mul_right}
use Rattle.std.proofs.Math.Nat.{mul_right_comm, div-le_of_le-mul, mul-mod_left}
use Rattle.dp_base.specs.declared.decimal.Decimal.{Decimal}
use Rattle.dp_base.specs.Decimals.{decimal_of, signed}
use Rattle.dp_base.proofs.Outcomes.{shortest_form}
use Rattle.dp_base.proofs.Outcomes.{signed-mul}
use Rattle.dp_base.proofs.SignificandLaws.{tens_up}
use Rattle.dp_lexer.specs.declared.Kind.TheVariants.{Number}
use Rattle.dp_lexer.specs.TokenLaws.{IsOfKind}
use Rattle.dp_writer.specs.WriterLaws.{ReadsAs, WrittenChancesReadBack, WrittenRewardsReadBack}
use Rattle.dp_writer.specs.WrittenNumbers.{decimal_over, decimal_text, is_below_zero}
use Rattle.dp_writer.proofs.DigitTexts.{some_below_zero}
use Rattle.dp_writer.proofs.ReadDecimals.{number_token, read_written}

-- a number by its sign and its magnitude
pub signed_abs : (z : ℤ) → signed (is_below_zero z) (unsigned_abs z) ≡ z
signed_abs (pos n) = refl
signed_abs (negsuc n) = refl

-- v over ten to `most` is the fraction a / scale
pub times_scale : (a scale p v : ℕ) → a * p % scale ≡ 0 → v ≡ a * p / scale → v * scale ≡ a * p
times_scale a scale p v none is =
    ap (λ x. x * scale) is ∙ omega (arith, mod-eq-sub-div-mul (a * p) scale, div-mul-le_self (a * p) scale, none)

-- and so it is without the tens that cancel
pub without_tens : (n a scale j k most v : ℕ) → j + k ≡ most → n * 10 ^ j ≡ v → v * scale ≡ a * 10 ^ most
    → n * scale ≡ a * 10 ^ k
without_tens n a scale j k most v sum value is =
    let split : most ≡ k + j = omega (arith, sum) in
    eq_of_mul-eq-mul_right (10 ^ j) (omega (arith, tens_up 0 j (omega arith))) (n * scale) (a * 10 ^ k)
    (mul_right_comm n scale (10 ^ j) ∙ ap (λ x. x * scale) value ∙ is ∙ ap (λ e. a * 10 ^ e) split
    ∙ ap (λ p. a * p) (pow-add 10 k j) ∙ sym (mul_assoc a (10 ^ k) (10 ^ j)))

-- it is small
pub small : (n j k most v : ℕ) → j + k ≡ most → n * 10 ^ j ≡ v → v < 10 ^ (18 + most) → n < 10 ^ (18 + k)
small n j k most v sum value below = elim (cases_lt n (10 ^ (18 + k))) [
  | inl less ↦ less
  | inr past ↦ (
      let split : 18 + most ≡ 18 + k + j = omega (arith, sum) in
      let all : 10 ^ (18 + most) ≡ 10 ^ (18 + k) * 10 ^ j = ap (λ e. 10 ^ e) split ∙ pow-add 10 (18 + k) j in
      absurd (omega (arith, mul-le-mul_right (10 ^ j) past, all, value, below))
      )
]

-- it is not 0
pub not_zero : (n a scale k : ℕ) → n * scale ≡ a * 10 ^ k → 0 < a → 0 < n
not_zero zero a scale k is some =
    let none : 0 * scale ≡ 0 = omega arith in
    let tens : 1 ≤ 10 ^ k = omega (arith, tens_up 0 k (omega arith)) in
    let least : 1 * 10 ^ k ≤ a * 10 ^ k = mul-le-mul_right (10 ^ k) some in
    absurd (omega (arith, none, is, tens, least))
not_zero (suc n) a scale k is some = omega arith

-- z over a scale, where so many fraction digits are enough
read_over : (most scale : ℕ) (z : ℤ) → most ≤ 18 → unsigned_abs z * 10 ^ most % scale ≡ 0
    → unsigned_abs z * 10 ^ most / scale < 10 ^ (18 + most)
    → ReadsAs (decimal_text (decimal_over most z scale)) z scale
unfolding decimal_over
read_over most scale z few whole below =
    let negative = is_below_zero z in
    let a = unsigned_abs z in
    let v = a * 10 ^ most / scale in
    let f = shortest_form negative v most in
    let is = times_scale a scale (10 ^ most) v whole refl in
    let same = without_tens f.n a scale f.j f.k most v f.reduced.sum f.reduced.value is in
    let few_digits : f.k ≤ 18 = omega (arith, f.reduced.sum, few) in
    let not_large = small f.n f.j f.k most v f.reduced.sum f.reduced.value below in
    let some : negative ≡ true → 0 < f.n = λ minus. not_zero f.n a scale f.k same (some_below_zero z minus) in
    record {
      token = subst (λ (d : Decimal). IsOfKind Number (decimal_text d)) (sym f.is)
          (number_token negative f.n f.k not_large few_digits some);
      decimal = record { units = signed negative f.n; digits = f.k };
      read = ap (λ d. decimal_of (decimal_text d)) f.is
          ∙ read_written negative f.n f.k f.reduced.ends not_large few_digits some;
      fraction = signed-mul negative f.n scale ∙ ap (signed negative) same ∙ sym (signed-mul negative a (10 ^ f.k))
          ∙ ap (λ x. x *ℤ pos (10 ^ f.k)) (signed_abs z);
    }

-- a chance
pub chances_read_back : WrittenChancesReadBack
chances_read_back scale n some within whole =
    read_over 18 scale (pos n) (omega arith) whole
    (omega (arith, div-le_of_le-mul scale {m = n * 10 ^ 18} {n = 10 ^ 18} (mul-le-mul_right (10 ^ 18) within)))

-- a reward over a power of ten has few fraction digits
pub reward_digits : (scale k : ℕ) (r : ℤ) → k ≤ 9 → scale ≡ 10 ^ k → unsigned_abs r ≤ 10 ^ 8 * scale
    → (unsigned_abs r * 10 ^ 9 % scale ≡ 0) × (unsigned_abs r * 10 ^ 9 / scale < 10 ^ (18 + 9))
reward_digits scale k r few tens within =
    let a = unsigned_abs r in
    let split : 9 ≡ (9 - k) + k = omega (arith, few) in
    let nine : 10 ^ 9 ≡ 10 ^ (9 - k) * 10 ^ k = ap (λ e. 10 ^ e) split ∙ pow-add 10 (9 - k) k in
    let all : a * 10 ^ 9 ≡ a * 10 ^ (9 - k) * scale =
    ap (λ p. a * p) nine ∙ sym (mul_assoc a (10 ^ (9 - k)) (10 ^ k)) ∙ ap (λ p. a * 10 ^ (9 - k) * p) (sym tens) in
    let most : a * 10 ^ 9 ≤ scale * 10 ^ 17 = omega (arith, within) in (
      ap (λ x. x % scale) all ∙ mul-mod_left (a * 10 ^ (9 - k)) scale,
      omega (arith, div-le_of_le-mul scale {m = a * 10 ^ 9} {n = 10 ^ 17} most),
    )

-- a reward
pub rewards_read_back : WrittenRewardsReadBack
rewards_read_back scale k r few tens within =
    let digits = reward_digits scale k r few tens within in read_over 9 scale r (omega arith) digits.0 digits.1
