-- Numbers of the command line, as `parse` reads them.
use Rattle.std.proofs.Common.{◌≡◌, ℕ, ◌^◌, ◌<◌, ◌≤◌, Bool, true, false, List, [], ◌∷◌, length, Some, None, refl, sym}
use Rattle.std.proofs.Common.{ap, subst, ◌∙◌, arith}
use Rattle.std.specs.Prelude.{◌&&◌, nat_le, nat_lt, if◌then◌else◌}
use Rattle.std.specs.List.{list_all}
use Rattle.std.specs.Char.{is_ascii_digit}
use Rattle.std.specs.Str.Parse.{AllDigits, IsNumeral, without_leading_plus, digits_value}
use Rattle.std.proofs.lemmas.Bool.{and_parts, le-leb, lt-leb}
use Rattle.std.proofs.lemmas.Str.{digit_value_digit}
use Rattle.std.proofs.lemmas.Str.Parse.{without_leading_plus_none}
use Rattle.dp_base.specs.DecimalShape.{is_index}
use Rattle.dp_base.proofs.DigitRuns.{digit_low, digit_high}
use Rattle.dp_words.specs.Words.{is_number, number_of}

digits : (word : List ℕ) → list_all is_ascii_digit word ≡ true → AllDigits 10 word
digits [] all = tt
digits (c ∷ cs) all =
    let both = and_parts (is_ascii_digit c) (list_all is_ascii_digit cs) all in
    let low = digit_low c both.0 in
    let high = digit_high c both.0 in
    let value = digit_value_digit c (low, high) in
    (omega arith, digits cs both.1)

-- an index is a numeral, and no plus stands before it
numeral : (word : List ℕ) → is_index word ≡ true → IsNumeral 10 word × (without_leading_plus word ≡ word)
unfolding is_index
numeral [] is = cc
numeral (c ∷ cs) is =
    let all = (and_parts (nat_lt 0 (length (c ∷ cs))) (list_all is_ascii_digit (c ∷ cs)) is).1 in
    let low = digit_low c (and_parts (is_ascii_digit c) (list_all is_ascii_digit cs) all).0 in
    ((omega arith, digits (c ∷ cs) all), without_leading_plus_none (c ∷ cs) (λ e. omega arith))

and_true : (a b c : Bool) → a ≡ true → b ≡ true → c ≡ true → (a && b && c) ≡ true
and_true a b c x y z = cc

and_first : (a b c : Bool) → a ≡ false → (a && b && c) ≡ false
and_first false b c x = refl
and_first true b c x = cc

and_second : (a b c : Bool) → b ≡ false → (a && b && c) ≡ false
and_second true false c x = refl
and_second false b c x = refl
and_second true true c x = cc

and_third : (a b c : Bool) → c ≡ false → (a && b && c) ≡ false
and_third true true false x = refl
and_third true false c x = refl
and_third false b c x = refl
and_third true true true x = cc

-- what is written where the three tests answer so
written : (least most : ℕ) (word : List ℕ) (b : Bool)
    → (is_number word && nat_le least (digits_value 10 word) && nat_le (digits_value 10 word) most) ≡ b
    → number_of least most word ≡ (if b then Some (digits_value 10 word) else None)
written least most word b e = ap (λ t. if t then Some (digits_value 10 word) else None) e

is_index_of : (word : List ℕ) → is_number word ≡ true → is_index word ≡ true
is_index_of word is = (and_parts (is_index word) _ is).0

-- a word that is no number
pub no_number : (least most : ℕ) (word : List ℕ) → is_number word ≡ false → None ≡ number_of least most word
no_number least most word other = sym (written least most word false (and_first _ _ _ other))

-- what `parse` reads of 64 bits
abbrev Fits64 : List ℕ → Type 0
Fits64 word = IsNumeral 10 (without_leading_plus word) × (digits_value 10 (without_leading_plus word) < 2 ^ 64)

-- a number that `parse` reads
pub number_read : (n : ℕ) (word : List ℕ) → is_number word ≡ true
    → Fits64 word × (n ≡ digits_value 10 (without_leading_plus word)) → n ≡ digits_value 10 word
number_read n word is read =
    let same = (numeral word (is_index_of word is)).1 in
    read.1 ∙ ap (digits_value 10) same

pub number_ok : (least most n : ℕ) (word : List ℕ) → is_number word ≡ true
    → Fits64 word × (n ≡ digits_value 10 (without_leading_plus word)) → least ≤ n → n ≤ most
    → Some n ≡ number_of least most word
number_ok least most n word is read enough few =
    let value = number_read n word is read in
    let above : least ≤ digits_value 10 word = omega arith in
    let below : digits_value 10 word ≤ most = omega arith in
    ap Some value ∙ sym (written least most word true (and_true _ _ _ is (le-leb _ _ above) (le-leb _ _ below)))

pub number_low : (least most n : ℕ) (word : List ℕ) → is_number word ≡ true
    → Fits64 word × (n ≡ digits_value 10 (without_leading_plus word)) → n < least
    → None ≡ number_of least most word
number_low least most n word is read few =
    let value = number_read n word is read in
    let low : digits_value 10 word < least = omega arith in
    sym (written least most word false (and_second (is_number word) _ _ (lt-leb _ _ low)))

pub number_many : (least most n : ℕ) (word : List ℕ) → is_number word ≡ true
    → Fits64 word × (n ≡ digits_value 10 (without_leading_plus word)) → most < n
    → None ≡ number_of least most word
number_many least most n word is read many =
    let value = number_read n word is read in
    let high : most < digits_value 10 word = omega arith in
    sym (written least most word false
    (and_third (is_number word) (nat_le least (digits_value 10 word)) _ (lt-leb _ _ high)))

pub number_high : (least most : ℕ) (word : List ℕ) → most < 2 ^ 64 → is_number word ≡ true → (Fits64 word → ⊥)
    → None ≡ number_of least most word
number_high least most word small is none =
    let of_word = numeral word (is_index_of word is) in
    let fits = λ (small : digits_value 10 word < 2 ^ 64).
    none (subst (λ w. IsNumeral 10 w × (digits_value 10 w < 2 ^ 64)) (sym of_word.1) (of_word.0, small)) in
    sym (written least most word false
    (and_third (is_number word) (nat_le least (digits_value 10 word)) _ (large fits)))
  where
    large : ((digits_value 10 word < 2 ^ 64) → ⊥) → nat_le (digits_value 10 word) most ≡ false
    large beyond = by (digits_value 10 word) beyond
      where
        by : (v : ℕ) → ((v < 2 ^ 64) → ⊥) → nat_le v most ≡ false
        by v beyond = lt-leb v most (grind arith)
