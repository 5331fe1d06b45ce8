-- What is read from a text, in terms of the number that it writes.
use Rattle.std.proofs.Common.{◌≡◌, ◌≢◌, ℕ, zero, suc, ◌+◌, ◌-◌, ◌*◌, ◌/◌, ◌%◌, ◌^◌, ◌<◌, ◌≤◌, inl, inr, Bool, true}
use Rattle.std.proofs.Common.{false, eqb, List, Result, Ok, Err, ℤ, pos, ◌*ℤ◌, refl, sym, ap, subst, ◌∙◌, arith}
use Rattle.std.specs.Prelude.{unsigned_abs, IfOk, ◌↔◌, IsTrue}
use Rattle.std.proofs.lemmas.Bool.{le-leb, lt-leb, lt-ltb, le-ltb, cases_lt, cases_eq, ne_eqb}
use Rattle.std.proofs.lemmas.Int.{unsigned_abs-mul}
use Rattle.std.proofs.lemmas.Nat.{pow-add}
use Rattle.std.proofs.Math.Nat.{mul-le-mul_right, eq_of_mul-eq-mul_right}
use Rattle.dp_base.specs.declared.decimal.Decimal.{Decimal}
use Rattle.dp_base.specs.declared.decimal.NumFault.{NumFault}
use Rattle.dp_base.specs.declared.decimal.NumFault.TheVariants.{Shape, Large, Digits}
use Rattle.dp_base.specs.DecimalShape.{first, unsigned, is_magnitude, is_decimal}
use Rattle.dp_base.specs.Decimals.{significand, numerator_tens, denominator_tens, signed, Writes, WritesShortest}
use Rattle.dp_base.specs.Decimals.{IsLarge, IsSmall, HasTooManyDigits, shortest, judged, decimal_of, IsRead}
use Rattle.dp_base.proofs.SignificandLaws.{some_tens, times_ten}
use Rattle.dp_base.proofs.Shortest.{decimal_with, unsigned_abs-signed}

-- ---- a decimal with the least digits

-- n / 10 ^ k is v / 10 ^ down, by j tens that cancel
pub record IsReduced (v down n k j : ℕ) : Type 0 where
  pub sum : j + k ≡ down
  pub value : n * 10 ^ j ≡ v
  pub ends : 0 < k → n % 10 ≢ 0

-- the decimal with the least digits, and how it comes about
pub record ShortestForm (negative : Bool) (v down : ℕ) : Type 0 where
  pub n : ℕ
  pub k : ℕ
  pub j : ℕ
  pub is : shortest negative v down ≡ decimal_with negative n k
  pub reduced : IsReduced v down n k j

-- a whole number is its own
at_zero_digits : (negative : Bool) (v : ℕ) → ShortestForm negative v 0
at_zero_digits negative v = record {
  n = v;
  k = 0;
  j = 0;
  is = refl;
  reduced =
      record { sum = refl; value = omega arith; ends = λ lt. absurd (omega arith) };
}

-- a number that ends in 0 has that of its tenth
ten_less : (negative : Bool) (v down : ℕ) → v % 10 ≡ 0 → ShortestForm negative (v / 10) down
    → ShortestForm negative v (suc down)
ten_less negative v down none rest = record {
  n = rest.n;
  k = rest.k;
  j = rest.j + 1;
  is = rw none rest.is;
  reduced = record {
    sum = omega (arith, rest.reduced.sum);
    value =
        omega (arith, times_ten rest.n rest.j, rest.reduced.value);
    ends = rest.reduced.ends;
  };
}

-- one that does not is its own
not_less : (negative : Bool) (v down : ℕ) → v % 10 ≢ 0 → ShortestForm negative v (suc down)
not_less negative v down some = record {
  n = v;
  k = suc down;
  j = 0;
  is = rw (ne_eqb (v % 10) 0 some) refl;
  reduced =
      record { sum = omega arith; value = omega arith; ends = λ lt. some };
}

-- it is as described
pub shortest_form : (negative : Bool) (v down : ℕ) → ShortestForm negative v down
shortest_form negative v zero = at_zero_digits negative v
shortest_form negative v (suc down) =
    let rest = shortest_form negative (v / 10) down in
    elim (cases_eq (v % 10) 0) [
      | inl none ↦ ten_less negative v down none rest
      | inr some ↦
          not_less negative v down some
    ]

-- ---- the number that is written

-- the sign of a product
pub signed-mul : (negative : Bool) (a b : ℕ) → (signed negative a *ℤ pos b) ≡ signed negative (a * b)
signed-mul false a b = refl
signed-mul true zero b = let e : 0 * b ≡ 0 = omega arith in rw e refl
signed-mul true (suc a) b = refl

-- the form writes it
form_value : (s up down v n k j : ℕ) → v ≡ s * 10 ^ up → IsReduced v down n k j → n * 10 ^ down ≡ s * 10 ^ (up + k)
form_value s up down v n k j e low =
    let down_is : 10 ^ down ≡ 10 ^ j * 10 ^ k = ap (λ (i : ℕ). 10 ^ i) (sym low.sum) ∙ pow-add 10 j k in
    let up_is : s * 10 ^ (up + k) ≡ s * (10 ^ up * 10 ^ k) = ap (λ p. s * p) (pow-add 10 up k) in
    let left : n * 10 ^ down ≡ n * (10 ^ j * 10 ^ k) = ap (λ p. n * p) down_is in
    let value : n * 10 ^ j * 10 ^ k ≡ s * 10 ^ up * 10 ^ k = ap (λ p. p * 10 ^ k) (low.value ∙ e) in
    omega (arith, left, value, up_is)

-- a multiple of ten ends in 0
ends_in : (q n : ℕ) → q * 10 ≡ n → n % 10 ≡ 0
ends_in q n e = omega arith

-- and no form with fewer digits does
form_least : (s up down v n k j m fewer : ℕ) → v ≡ s * 10 ^ up → IsReduced v down n k j
    → m * 10 ^ down ≡ s * 10 ^ (up + fewer) → k ≤ fewer
form_least s up down v n k j m fewer e low writes = elim (cases_lt fewer k) [
  | inr le ↦ le
  | inl lt ↦
      absurd (less lt)
]
  where
    less : fewer < k → ⊥
    less lt =
        let i : ℕ = k - fewer - 1 in
        let k_is : k ≡ i + 1 + fewer = omega arith in
        let down_is : 10 ^ down ≡ 10 ^ j * (10 ^ (i + 1) * 10 ^ fewer) =
        ap (λ (d : ℕ). 10 ^ d) (sym low.sum ∙ ap (λ (q : ℕ). j + q) k_is) ∙ pow-add 10 j (i + 1 + fewer)
        ∙ ap (λ p. 10 ^ j * p) (pow-add 10 (i + 1) fewer) in
        let left : m * 10 ^ down ≡ m * (10 ^ j * (10 ^ (i + 1) * 10 ^ fewer)) = ap (λ p. m * p) down_is in
        let right : s * 10 ^ (up + fewer) ≡ s * (10 ^ up * 10 ^ fewer) = ap (λ p. s * p) (pow-add 10 up fewer) in
        let value : n * 10 ^ j * 10 ^ fewer ≡ s * 10 ^ up * 10 ^ fewer = ap (λ p. p * 10 ^ fewer) (low.value ∙ e) in
        let both : m * 10 ^ (i + 1) * (10 ^ j * 10 ^ fewer) ≡ n * (10 ^ j * 10 ^ fewer) =
        omega (arith, left, right, value, writes) in
        let some : 0 < 10 ^ j * 10 ^ fewer = omega (arith, pow-add 10 j fewer, some_tens (j + fewer)) in
        let cancelled : m * 10 ^ (i + 1) ≡ n = eq_of_mul-eq-mul_right (10 ^ j * 10 ^ fewer) some
        (m * 10 ^ (i + 1)) n both in
        let ten : m * 10 ^ i * 10 ≡ n = sym (times_ten m i) ∙ cancelled in
        low.ends (omega arith) (ends_in (m * 10 ^ i) n ten)

module _ (text : List ℕ) where
  -- the text without its sign
  abbrev number : List ℕ
  number = unsigned text

  -- whether it has a minus
  abbrev negative : Bool
  negative = eqb (first text) 45

  -- significand and tens
  abbrev tens : ℕ
  tens = significand number * 10 ^ numerator_tens number

  -- the decimal with the least digits
  abbrev form : ShortestForm negative tens (denominator_tens number)
  form = shortest_form negative tens (denominator_tens number)

  -- it writes the number
  writes_form : Writes text (signed negative form.n) form.k
  writes_form =
      signed-mul negative form.n (10 ^ denominator_tens number)
      ∙ ap (signed negative) (form_value (significand number) (numerator_tens number)
      (denominator_tens number) tens form.n form.k form.j refl form.reduced)
      ∙ sym (signed-mul negative (significand number) (10 ^ (numerator_tens number + form.k)))

  -- magnitudes of two ways to write it
  magnitude_is : (units : ℤ) (digits : ℕ) → Writes text units digits
      → unsigned_abs units * 10 ^ denominator_tens number ≡ significand number * 10 ^ (numerator_tens number + digits)
  magnitude_is units digits writes =
      sym (unsigned_abs-mul units (pos (10 ^ denominator_tens number)))
      ∙ ap unsigned_abs writes
      ∙ unsigned_abs-mul (signed negative (significand number)) (pos (10 ^ (numerator_tens number + digits)))
      ∙ ap (λ n. n * 10 ^ (numerator_tens number + digits)) (unsigned_abs-signed negative (significand number))

  -- with the least digits
  least_form : (units : ℤ) (digits : ℕ) → Writes text units digits → form.k ≤ digits
  least_form units digits writes =
      form_least (significand number) (numerator_tens number) (denominator_tens number) tens form.n form.k form.j
      (unsigned_abs units) digits refl form.reduced (magnitude_is units digits writes)

  -- both
  shortest_writes : WritesShortest text (signed negative form.n) form.k
  shortest_writes = record { writes = writes_form; least = least_form }

  -- the number is at least 10 ^ 18 where the decimal is
  large_form : 10 ^ (18 + form.k) ≤ form.n → IsLarge text
  large_form le = large (denominator_tens number) tens form.n form.k form.j form.reduced le
    where
      large : (down v n k j : ℕ) → IsReduced v down n k j → 10 ^ (18 + k) ≤ n → 10 ^ (18 + down) ≤ v
      large down v n k j low le =
          let e : 10 ^ (18 + down) ≡ 10 ^ (18 + k) * 10 ^ j =
          ap (λ (i : ℕ). 10 ^ i) (omega (arith, low.sum)) ∙ pow-add 10 (18 + k) j in
          omega (arith, e, low.value, mul-le-mul_right (10 ^ j) le)

  -- and below it where that is below
  small_form : form.n < 10 ^ (18 + form.k) → IsSmall text
  small_form lt = small (denominator_tens number) tens form.n form.k form.j form.reduced lt
    where
      small : (down v n k j : ℕ) → IsReduced v down n k j → n < 10 ^ (18 + k) → v < 10 ^ (18 + down)
      small down v n k j low lt =
          let e : 10 ^ (18 + down) ≡ 10 ^ (18 + k) * 10 ^ j =
          ap (λ (i : ℕ). 10 ^ i) (omega (arith, low.sum)) ∙ pow-add 10 (18 + k) j in
          let all : (n + 1) * 10 ^ j ≤ 10 ^ (18 + k) * 10 ^ j = mul-le-mul_right (10 ^ j) (omega arith) in
          omega (arith, e, low.value, all, some_tens j)

  -- where the shape is decimal, what is read is the judged form
  judged_form : is_magnitude number ≡ true → decimal_of text ≡ judged (decimal_with negative form.n form.k)
  unfolding decimal_of
  judged_form shape = rw shape (ap judged form.is)

-- ---- the four outcomes

-- what is answered, and why
pub data Outcome (text : List ℕ) : Type 0 where
  misshapen : is_decimal text ≡ false → decimal_of text ≡ Err Shape → Outcome text
  large : is_decimal text ≡ true → IsLarge text → decimal_of text ≡ Err Large → Outcome text
  fine : (k : ℕ) → is_decimal text ≡ true → HasTooManyDigits text k → decimal_of text ≡ Err (Digits k) → Outcome text
  read : (units : ℤ) (k : ℕ) → is_decimal text ≡ true → IsSmall text → unsigned_abs units < 10 ^ (18 + k) → k ≤ 18
      → WritesShortest text units k
      → decimal_of text ≡ Ok (record { units = units; digits = k }) → Outcome text

-- by the shape
outcome_where : (text : List ℕ) (b : Bool) → is_decimal text ≡ b → Outcome text
unfolding is_decimal decimal_of
outcome_where text false e = misshapen e (rw e refl)
outcome_where text true e =
    let f = form text in
    let negative = eqb (first text) 45 in
    let abs = unsigned_abs-signed negative f.n in
    elim (cases_lt f.n (10 ^ (18 + f.k))) [
      | inr le ↦ large e (large_form text le) (judged_form text e ∙ rw (abs, le-leb (10 ^ (18 + f.k)) f.n le) refl)
      | inl lt ↦
          elim (cases_lt 18 f.k) [
            | inl more ↦
                fine f.k e
                (record {
                  small = small_form text lt;
                  more = more;
                  units = signed negative f.n;
                  shortest =
                      shortest_writes text;
                })
                (judged_form text e ∙ rw (abs, lt-leb (10 ^ (18 + f.k)) f.n lt, lt-ltb 18 f.k more) refl)
            | inr few ↦
                read (signed negative f.n) f.k e (small_form text lt) (rw abs lt) few (shortest_writes text)
                (judged_form text e ∙ rw (abs, lt-leb (10 ^ (18 + f.k)) f.n lt, le-ltb 18 f.k few) refl)
          ]
    ]

-- each text has one
pub outcome : (text : List ℕ) → Outcome text
outcome text = outcome_where text (is_decimal text) refl

-- ---- when each answer comes

-- no number exactly where the shape is another
pub shape_iff : (text : List ℕ) → (decimal_of text ≡ Err Shape) ↔ (is_decimal text ≡ false)
shape_iff text =
    elim (outcome text) [
      | misshapen other e ↦ (λ x. other, λ x. e)
      | large shape is e ↦ (λ x. absurd cc, λ x. absurd cc)
      | fine k shape is e ↦ (λ x. absurd cc, λ x. absurd cc)
      | read units k shape small abs few writes e ↦ (λ x. absurd cc, λ x. absurd cc)
    ]

-- no number is small and large
not_both : (text : List ℕ) → IsSmall text → IsLarge text → ⊥
not_both text below above = omega (arith, below, above)

-- too large exactly where the number is
pub large_iff : (text : List ℕ) → (decimal_of text ≡ Err Large) ↔ (IsTrue (is_decimal text) × IsLarge text)
large_iff text =
    elim (outcome text) [
      | misshapen other e ↦ (λ x. absurd cc, λ x. let y = x.0 in absurd cc)
      | large shape is e ↦ (λ x. (shape, is), λ x. e)
      | fine k shape is e ↦ (λ x. absurd cc, λ x. absurd (not_both text is.small x.1))
      | read units k shape small abs few writes e ↦ (λ x. absurd cc, λ x. absurd (not_both text small x.1))
    ]

-- the fault that carries k digits
abbrev fault : ℕ → Result Decimal NumFault
fault k = Err (Digits k)

-- two shortest ways to write a number have one number of digits
same_digits : (text : List ℕ) (a b : ℤ) (j k : ℕ) → WritesShortest text a j → WritesShortest text b k → j ≡ k
same_digits text a b j k p q = omega (arith, p.least b k q.writes, q.least a j p.writes)

-- equal faults carry equal numbers
same_fault : (j k : ℕ) → fault j ≡ fault k → j ≡ k
same_fault j k e = cc

-- too many digits exactly where the least are
pub digits_iff : (text : List ℕ) (k : ℕ)
    → (decimal_of text ≡ Err (Digits k)) ↔ (IsTrue (is_decimal text) × HasTooManyDigits text k)
digits_iff text k =
    elim (outcome text) [
      | misshapen other e ↦ (λ x. absurd cc, λ x. let y = x.0 in absurd cc)
      | large shape is e ↦ (λ x. absurd cc, λ x. absurd (not_both text x.1.small is))
      | fine j shape is e ↦ (
        λ x. (shape, subst (HasTooManyDigits text) (same_fault j k (sym e ∙ x)) is),
        λ x. e
            ∙ ap (λ n. Err (Digits n)) (same_digits text is.units x.1.units j k is.shortest x.1.shortest),
      )
      | read units j shape small abs few writes e ↦ (
        λ x. absurd cc,
        λ x. let same = same_digits text units x.1.units j k writes x.1.shortest in
            let more = x.1.more in absurd (omega arith),
      )
    ]

-- what is given is the number that is written, with the least digits and within the limits
pub read_is : (text : List ℕ) → IfOk (decimal_of text) (IsRead text)
read_is text =
    elim (outcome text) [
      | misshapen other e ↦ rw e tt
      | large shape is e ↦ rw e tt
      | fine k shape is e ↦ rw e tt
      | read units k shape small abs few writes e ↦ rw e (record { shortest = writes; magnitude = abs; digits = few })
    ]
