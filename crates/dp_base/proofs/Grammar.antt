-- The test of the decimal shape is passed exactly by the texts with its parts.
use Rattle.std.proofs.Common.{◌≡◌, ℕ, suc, ◌+◌, ◌<◌, Bool, true, false, ◌&&◌, ◌||◌, eqb, leb, ltb, ◌⊎◌, inl, inr}
use Rattle.std.proofs.Common.{List, [], ◌∷◌, ◌++◌, length, take, drop, refl, sym, ap, subst, ◌∙◌, append_assoc}
use Rattle.std.proofs.Common.{length-append, arith}
use Rattle.std.specs.Prelude.{IsTrue, ◌↔◌}
use Rattle.std.specs.List.{prefix_len, list_all}
use Rattle.std.specs.Char.{is_ascii_digit}
use Rattle.std.proofs.lemmas.Bool.{and_parts, eqb-true, le-leb, leb-true, lt-ltb, ltb-true, ne_eqb, or_cases}
use Rattle.std.proofs.lemmas.List.{take-append-drop, append-nil}
use Rattle.std.proofs.Math.Seq.{drop-append_seam}
use Rattle.std.proofs.lemmas.List.Folds.{length-prefix_len}
use Rattle.dp_base.specs.Bytes.{is_sign}
use Rattle.dp_base.specs.DecimalShape.{first, unsigned, digit_count, after_digits, is_power, is_exponent}
use Rattle.dp_base.specs.DecimalShape.{is_magnitude, is_decimal}
use Rattle.dp_base.specs.DecimalGrammar.{AreDigits, IsOptionalSign, IsOptionalPoint, IsPower, IsOptionalExponent}
use Rattle.dp_base.specs.DecimalGrammar.{HasDecimalShape}
use Rattle.dp_base.proofs.DigitRuns.{digit_low}
use Rattle.dp_base.proofs.Magnitudes.{pointed_shape, plain_shape}

-- ---- from the parts to the test

-- digits at the front, with no digit behind them
front_count : (ds rest : List ℕ) → AreDigits ds → is_ascii_digit (first rest) ≡ false
    → prefix_len is_ascii_digit (ds ++ rest) ≡ length ds
front_count [] [] all other = refl
front_count [] (r ∷ rest) all other = rw other refl
front_count (d ∷ ds) rest all other =
    let here = (and_parts (is_ascii_digit d) (list_all is_ascii_digit ds) all).0 in
    let more = front_count ds rest (and_parts (is_ascii_digit d) (list_all is_ascii_digit ds) all).1 other in
    rw here (omega (arith, more))

-- so these are all of them
after_front : (ds rest : List ℕ) → AreDigits ds → is_ascii_digit (first rest) ≡ false
    → after_digits (ds ++ rest) ≡ rest
after_front ds rest all other = ap (λ n. drop n (ds ++ rest)) (front_count ds rest all other)
    ∙ drop-append_seam ds rest

-- what stands behind a sign
unsigned_of : (sign body : List ℕ) → IsOptionalSign sign → is_sign (first body) ≡ false
    → unsigned (sign ++ body) ≡ body
unsigned_of [] body s other = rw other refl
unsigned_of (b ∷ []) body s other = rw s refl
unsigned_of (b ∷ c ∷ rest) body s other = absurd s

-- a digit is no sign
digit_no_sign : (b : ℕ) → is_ascii_digit b ≡ true → is_sign b ≡ false
digit_no_sign b digit =
    let low = digit_low b digit in
    let plus : eqb b 43 ≡ false = ne_eqb b 43 (λ e. absurd (omega arith)) in
    let minus : eqb b 45 ≡ false = ne_eqb b 45 (λ e. absurd (omega arith)) in
    rw (plus, minus) refl

-- nor is the first of some digits
first_no_sign : (ds rest : List ℕ) → AreDigits ds → 0 < length ds → is_sign (first (ds ++ rest)) ≡ false
first_no_sign [] rest all some = absurd (omega arith)
first_no_sign (d ∷ ds) rest all some = digit_no_sign d
    (and_parts (is_ascii_digit d) (list_all is_ascii_digit ds) all).0

-- a power passes its test
power_true : (text : List ℕ) → IsPower text → is_power (unsigned text) ≡ true
power_true text p =
    let number : unsigned text ≡ p.digits =
    ap unsigned p.text_is ∙ unsigned_of p.sign p.digits p.sign_is
    (subst (λ (l : List ℕ). is_sign (first l) ≡ false) (append-nil p.digits)
    (first_no_sign p.digits [] p.digits_are p.some)) in
    rw (
      number,
      le-leb 1 (length p.digits) (omega (arith, p.some)),
      le-leb (length p.digits) 3 p.few,
      p.digits_are,
    ) refl

-- and so does an exponent
exponent_true : (text : List ℕ) → IsOptionalExponent text → is_exponent text ≡ true
exponent_true [] e = refl
exponent_true (letter ∷ power) (inl l, p) = let some : eqb (length (letter ∷ power)) 0 ≡ false =
    ne_eqb _ 0 (λ e. absurd (omega arith)) in rw (some, l, power_true power p) refl
exponent_true (letter ∷ power) (inr l, p) = let some : eqb (length (letter ∷ power)) 0 ≡ false =
    ne_eqb _ 0 (λ e. absurd (omega arith)) in rw (some, l, power_true power p) refl

-- an exponent begins with no digit and no point
exponent_no_digit : (text : List ℕ) → IsOptionalExponent text → is_ascii_digit (first text) ≡ false
exponent_no_digit [] e = refl
exponent_no_digit (letter ∷ power) (inl l, p) = rw l refl
exponent_no_digit (letter ∷ power) (inr l, p) = rw l refl

exponent_no_point : (text : List ℕ) → IsOptionalExponent text → eqb (first text) 46 ≡ false
exponent_no_point [] e = refl
exponent_no_point (letter ∷ power) (inl l, p) = rw l refl
exponent_no_point (letter ∷ power) (inr l, p) = rw l refl

-- digits behind digits
digits_append : (a b : List ℕ) → AreDigits a → AreDigits b → AreDigits (a ++ b)
digits_append [] b p q = q
digits_append (x ∷ a) b p q =
    rw (and_parts (is_ascii_digit x) (list_all is_ascii_digit a) p).0
    (digits_append a b (and_parts (is_ascii_digit x) (list_all is_ascii_digit a) p).1 q)

-- digits and an exponent pass the test
plain_true : (ds exponent : List ℕ) → AreDigits ds → 0 < length ds → IsOptionalExponent exponent
    → is_magnitude (ds ++ exponent) ≡ true
plain_true ds exponent all some e =
    let other = exponent_no_digit exponent e in
    let after = after_front ds exponent all other in
    let miss : eqb (first (after_digits (ds ++ exponent))) 46 ≡ false = rw after (exponent_no_point exponent e) in
    let count : ltb 0 (digit_count (ds ++ exponent)) ≡ true =
    rw (front_count ds exponent all other) (lt-ltb 0 (length ds) some) in
    let exp : is_exponent (after_digits (ds ++ exponent)) ≡ true = rw after (exponent_true exponent e) in
    plain_shape (ds ++ exponent) miss count exp

-- and so they do with a point
pointed_true : (whole fraction exponent : List ℕ) → AreDigits whole → AreDigits fraction
    → 0 < length whole + length fraction → IsOptionalExponent exponent
    → is_magnitude (whole ++ (46 ∷ (fraction ++ exponent))) ≡ true
pointed_true whole fraction exponent w f some e =
    let other = exponent_no_digit exponent e in
    let number : List ℕ = whole ++ (46 ∷ (fraction ++ exponent)) in
    let after : after_digits (whole ++ (46 ∷ (fraction ++ exponent))) ≡ 46 ∷ (fraction ++ exponent) =
    after_front whole (46 ∷ (fraction ++ exponent)) w refl in
    let hit : eqb (first (after_digits (whole ++ (46 ∷ (fraction ++ exponent))))) 46 ≡ true = rw after refl in
    let counts : digit_count (whole ++ (46 ∷ (fraction ++ exponent))) + digit_count (fraction ++ exponent)
    ≡ length whole + length fraction = omega (
      arith,
      front_count whole (46 ∷ (fraction ++ exponent)) w refl,
      front_count fraction exponent f other,
    ) in
    let count : ltb 0 (digit_count (whole ++ (46 ∷ (fraction ++ exponent)))
    + digit_count (drop 1 (after_digits (whole ++ (46 ∷ (fraction ++ exponent)))))) ≡ true =
    ap (λ (l : List ℕ). ltb 0 (digit_count (whole ++ (46 ∷ (fraction ++ exponent))) + digit_count (drop 1 l))) after
    ∙ lt-ltb 0 _ (omega (arith, counts, some)) in
    let exp : is_exponent (after_digits (drop 1 (after_digits (whole ++ (46 ∷ (fraction ++ exponent)))))) ≡ true =
    ap (λ (l : List ℕ). is_exponent (after_digits (drop 1 l))) after
    ∙ ap is_exponent (after_front fraction exponent f other) ∙ exponent_true exponent e in
    pointed_shape (whole ++ (46 ∷ (fraction ++ exponent))) hit count exp

-- the parts behind the sign pass the test
magnitude_true : (whole mark fraction exponent : List ℕ) → AreDigits whole → IsOptionalPoint mark → AreDigits fraction
    → 0 < length whole + length fraction → IsOptionalExponent exponent
    → is_magnitude (whole ++ (mark ++ (fraction ++ exponent))) ≡ true
magnitude_true whole [] fraction exponent w m f some e =
    subst (λ (l : List ℕ). is_magnitude l ≡ true) (append_assoc whole fraction exponent)
    (plain_true (whole ++ fraction) exponent (digits_append whole fraction w f)
    (omega (arith, length-append whole fraction, some)) e)
magnitude_true whole (b ∷ []) fraction exponent w m f some e =
    subst (λ (p : ℕ). is_magnitude (whole ++ (p ∷ (fraction ++ exponent))) ≡ true) (sym m)
    (pointed_true whole fraction exponent w f some e)
magnitude_true whole (b ∷ c ∷ rest) fraction exponent w m f some e = absurd m

-- and begin with no sign
no_sign : (whole mark fraction exponent : List ℕ) → AreDigits whole → IsOptionalPoint mark → AreDigits fraction
    → 0 < length whole + length fraction
    → is_sign (first (whole ++ (mark ++ (fraction ++ exponent)))) ≡ false
no_sign (d ∷ ds) mark fraction exponent w m f some = digit_no_sign d
    (and_parts (is_ascii_digit d) (list_all is_ascii_digit ds) w).0
no_sign [] [] fraction exponent w m f some = first_no_sign fraction exponent f (omega (arith, some))
no_sign [] (b ∷ []) fraction exponent w m f some = rw m refl
no_sign [] (b ∷ c ∷ rest) fraction exponent w m f some = absurd m

-- a text with the parts passes the test
pub decimal_from_shape : (text : List ℕ) → HasDecimalShape text → is_decimal text ≡ true
unfolding is_decimal
decimal_from_shape text h =
    let body = no_sign h.whole h.mark h.fraction h.exponent h.whole_are h.mark_is h.fraction_are h.some in
    ap (λ (l : List ℕ). is_magnitude (unsigned l)) h.text_is
    ∙ ap is_magnitude (unsigned_of h.sign (h.whole ++ (h.mark ++ (h.fraction ++ h.exponent))) h.sign_is body)
    ∙ magnitude_true h.whole h.mark h.fraction h.exponent h.whole_are h.mark_is h.fraction_are h.some h.exponent_is

-- ---- from the test to the parts

-- a text and its sign
pub record Signed (text : List ℕ) : Type 0 where
  pub sign : List ℕ
  pub sign_is : IsOptionalSign sign
  pub text_is : text ≡ sign ++ unsigned text

-- each text has one
split_sign : (text : List ℕ) → Signed text
split_sign [] = record { sign = []; sign_is = tt; text_is = refl }
split_sign (b ∷ rest) = by_sign (is_sign b) refl
  where
    by_sign : (s : Bool) → is_sign b ≡ s → Signed (b ∷ rest)
    by_sign true e = record { sign = b ∷ []; sign_is = e; text_is = rw e refl }
    by_sign false e = record { sign = []; sign_is = tt; text_is = rw e refl }

-- the digits at the front are digits
run_digits : (text : List ℕ) → AreDigits (take (digit_count text) text)
run_digits [] = refl
run_digits (b ∷ rest) = by_digit b rest (is_ascii_digit b) refl (run_digits rest)
  where
    by_digit : (b : ℕ) (rest : List ℕ) (d : Bool) → is_ascii_digit b ≡ d → AreDigits (take (digit_count rest) rest)
        → AreDigits (take (digit_count (b ∷ rest)) (b ∷ rest))
    by_digit b rest true e more =
        let count : digit_count (b ∷ rest) ≡ suc (digit_count rest) = rw e (omega arith) in
        subst (λ n. AreDigits (take n (b ∷ rest))) (sym count) (rw e more)
    by_digit b rest false e more =
        let count : digit_count (b ∷ rest) ≡ 0 = rw e refl in
        subst (λ n. AreDigits (take n (b ∷ rest))) (sym count) refl

-- an exponent that passes its test has the parts
exponent_parts : (text : List ℕ) → is_exponent text ≡ true → IsOptionalExponent text
exponent_parts [] h = tt
exponent_parts (l ∷ power) h =
    let some : eqb (length (l ∷ power)) 0 ≡ false = ne_eqb _ 0 (λ e. absurd (omega arith)) in
    let both : ((eqb l 101 || eqb l 69) && is_power (unsigned power)) ≡ true = rw some at h in
    let which = or_cases (eqb l 101) (eqb l 69) (and_parts (eqb l 101 || eqb l 69)
    (is_power (unsigned power)) both).0 in
    let digits = unsigned power in
    let test : ((leb 1 (length (unsigned power)) && leb (length (unsigned power)) 3) && list_all is_ascii_digit
    (unsigned power)) ≡ true = (and_parts (eqb l 101 || eqb l 69) (is_power (unsigned power)) both).1 in
    let count = (and_parts (leb 1 (length digits) && leb (length digits) 3)
    (list_all is_ascii_digit digits) test).0 in
    let s = split_sign power in (
      elim which as (λ x. (l ≡ 101) ⊎ (l ≡ 69)) [ inl e ↦ inl (eqb-true l 101 e) | inr e ↦ inr (eqb-true l 69 e) ],
      record {
        sign = s.sign;
        digits = digits;
        text_is = s.text_is;
        sign_is = s.sign_is;
        digits_are = (and_parts (leb 1 (length digits) && leb (length digits) 3)
            (list_all is_ascii_digit digits) test).1;
        some = leb-true 1 (length digits) (and_parts (leb 1 (length digits)) (leb (length digits) 3) count).0;
        few = leb-true (length digits) 3 (and_parts (leb 1 (length digits)) (leb (length digits) 3) count).1;
      },
    )

-- a text that begins with a point
head_point : (text : List ℕ) → eqb (first text) 46 ≡ true → text ≡ 46 ∷ drop 1 text
head_point [] h = absurd cc
head_point (b ∷ rest) h = ap (λ p. p ∷ rest) (eqb-true b 46 h)

-- the digits at the front and what stands behind them
split_run : (text : List ℕ) → text ≡ take (digit_count text) text ++ after_digits text
split_run text = sym (take-append-drop (digit_count text) text)

module _ (text number : List ℕ) (s : Signed text) (same : number ≡ unsigned text) where
  -- what stands behind the first digits
  abbrev rest : List ℕ
  rest = after_digits number

  -- the parts of a number with a point
  pointed_parts : eqb (first rest) 46 ≡ true → is_magnitude number ≡ true → HasDecimalShape text
  pointed_parts hit h =
      let both : (ltb 0 (digit_count number + digit_count (drop 1 rest)) && is_exponent (after_digits (drop 1 rest)))
      ≡ true = rw hit at h in
      let count = ltb-true 0 _ (and_parts (ltb 0 (digit_count number + digit_count (drop 1 rest))) _ both).0 in
      record {
        sign = s.sign;
        whole = take (digit_count number) number;
        mark = 46 ∷ [];
        fraction = take (digit_count (drop 1 rest)) (drop 1 rest);
        exponent = after_digits (drop 1 rest);
        text_is =
            s.text_is
            ∙ ap (λ (l : List ℕ). s.sign ++ l) (sym same ∙ split_run number
            ∙ ap (λ (l : List ℕ). take (digit_count number) number ++ l) (head_point rest hit
            ∙ ap (λ (l : List ℕ). 46 ∷ l) (split_run (drop 1 rest))));
        sign_is = s.sign_is;
        whole_are = run_digits number;
        mark_is = refl;
        fraction_are = run_digits (drop 1 rest);
        some = omega (
          arith,
          count,
          length-prefix_len is_ascii_digit number,
          length-prefix_len is_ascii_digit (drop 1 rest),
        );
        exponent_is = exponent_parts (after_digits (drop 1 rest))
            (and_parts (ltb 0 (digit_count number + digit_count (drop 1 rest)))
            (is_exponent (after_digits (drop 1 rest))) both).1;
      }

  -- and of one without
  plain_parts : eqb (first rest) 46 ≡ false → is_magnitude number ≡ true → HasDecimalShape text
  plain_parts miss h =
      let both : (ltb 0 (digit_count number) && is_exponent rest) ≡ true = rw miss at h in
      let count = ltb-true 0 _ (and_parts (ltb 0 (digit_count number)) _ both).0 in
      record {
        sign = s.sign;
        whole = take (digit_count number) number;
        mark = [];
        fraction = [];
        exponent = rest;
        text_is = s.text_is ∙ ap (λ (l : List ℕ). s.sign ++ l) (sym same ∙ split_run number);
        sign_is = s.sign_is;
        whole_are = run_digits number;
        mark_is = tt;
        fraction_are = refl;
        some = omega (arith, count, length-prefix_len is_ascii_digit number);
        exponent_is = exponent_parts rest (and_parts (ltb 0 (digit_count number)) (is_exponent rest) both).1;
      }

  -- of each number
  parts : (b : Bool) → eqb (first rest) 46 ≡ b → is_magnitude number ≡ true → HasDecimalShape text
  parts true e h = pointed_parts e h
  parts false e h = plain_parts e h

-- a text that passes the test has the parts
pub shape_from_decimal : (text : List ℕ) → is_decimal text ≡ true → HasDecimalShape text
unfolding is_decimal
shape_from_decimal text h = parts text (unsigned text) (split_sign text) refl
    (eqb (first (after_digits (unsigned text))) 46) refl h

-- both
pub decimal_iff : (text : List ℕ) → IsTrue (is_decimal text) ↔ HasDecimalShape text
decimal_iff text = (shape_from_decimal text, decimal_from_shape text)
