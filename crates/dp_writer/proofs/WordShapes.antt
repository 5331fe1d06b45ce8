-- What kinds of words are written: numbers in digits, and names.
use Rattle.std.proofs.Common.{◌≡◌, ℕ, ◌<◌, ◌^◌, true, false, List, [], ◌∷◌, ◌++◌}
use Rattle.std.proofs.Common.{length, refl, sym, ◌∙◌, arith, subst, inl, inr}
use Rattle.std.specs.Prelude.{not, ◌&&◌, ◌||◌, nat_lt, codes}
use Rattle.std.specs.Char.{is_ascii_digit}
use Rattle.std.specs.Fmt.{decimal}
use Rattle.std.specs.List.{list_all}
use Rattle.std.specs.Str.{bytes_eq}
use Rattle.std.specs.Str.Parse.{digits_value}
use Rattle.std.proofs.lemmas.Bool.{and_parts, cases_Bool, lt-ltb, not-true, true≢false}
use Rattle.std.proofs.lemmas.Fmt.{decimal_is_IsNumeral_wide}
use Rattle.std.proofs.lemmas.List.{append-nil}
use Rattle.dp_base.specs.Bytes.{is_name_byte}
use Rattle.dp_base.specs.DecimalShape.{is_decimal, is_index}
use Rattle.dp_base.specs.Names.{is_name, is_word}
use Rattle.dp_base.proofs.Grammar.{decimal_from_shape}
use Rattle.dp_writer.proofs.ReadDecimals.{all_digits, digit_names}
use Rattle.dp_writer.proofs.Symbols.{IsRun}

-- ---- numbers in digits

-- a number that is written in digits
pub record IsIndexOf (text : List ℕ) (n : ℕ) : Type 0 where
  pub run : IsRun text
  pub index : is_index text ≡ true
  pub value : digits_value 10 text ≡ n

-- digits that are not none are an index
digits_index : (text : List ℕ) → 0 < length text → list_all is_ascii_digit text ≡ true → is_index text ≡ true
unfolding is_index
digits_index text some digits = rw (lt-ltb 0 (length text) some, digits) refl

-- a number as it is written in digits
pub index_written : (n : ℕ) → n < 10 ^ 64 → IsIndexOf (decimal n) n
index_written n fits =
    let part = decimal_is_IsNumeral_wide n fits in
    let digits = all_digits (decimal n) part.0.1 in
    record {
      run = record { some = part.0.0; named = digit_names (decimal n) digits };
      index = digits_index (decimal n) part.0.0 digits;
      value = part.1;
    }

-- ---- names

-- a name, which is no number in digits
pub record IsNameWord (text : List ℕ) : Type 0 where
  pub run : IsRun text
  pub name : is_name text ≡ true
  pub no_index : is_index text ≡ false

digits_decimal : (ds : List ℕ) → list_all is_ascii_digit ds ≡ true → 0 < length ds → is_decimal ds ≡ true
digits_decimal ds all some = subst (λ l. is_decimal l ≡ true) (append-nil ds) (decimal_from_shape (ds ++ []) (record {
  sign = [];
  whole = ds;
  mark = [];
  fraction = [];
  exponent = [];
  text_is = refl;
  sign_is = tt;
  whole_are = all;
  mark_is = tt;
  fraction_are = refl;
  some = omega (arith, some);
  exponent_is = tt;
}))

-- a test of numbers that holds
some_length : (text : List ℕ) → nat_lt 0 (length text) ≡ true → 0 < length text
some_length [] t = absurd cc
some_length (b ∷ text) t = omega arith

word_no_index : (text : List ℕ) → is_decimal text ≡ false → is_index text ≡ false
unfolding is_index
word_no_index text other = elim (cases_Bool (is_index text)) [
  | inl is ↦ (
      let parts = and_parts (nat_lt 0 (length text)) (list_all is_ascii_digit text) is in
      absurd (true≢false (sym (digits_decimal text parts.1 (some_length text parts.0)) ∙ other))
      )
  | inr other_way ↦ other_way
]

pub name_word : (text : List ℕ) → is_name text ≡ true → IsNameWord text
unfolding is_name is_word
name_word text is =
    let word = (and_parts (is_word text) (not (bytes_eq text (codes "uniform") || bytes_eq text (codes "identity"))) is).0
    in
    let parts = and_parts (nat_lt 0 (length text) && list_all is_name_byte text) (not (is_decimal text)) word in
    let bytes = and_parts (nat_lt 0 (length text)) (list_all is_name_byte text) parts.0 in
    record {
      run = record { some = some_length text bytes.0; named = bytes.1 };
      name = is;
      no_index = word_no_index text (not-true (is_decimal text) parts.1);
    }
