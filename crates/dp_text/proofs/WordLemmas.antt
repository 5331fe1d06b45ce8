-- Tokens are texts, and names are words but two.
use Rattle.std.proofs.Common.{◌≡◌, ◌≢◌, ℕ, zero, suc, ◌<◌, true, false, not, ◌&&◌, List, [], ◌∷◌, length, refl, ap}
use Rattle.std.proofs.Common.{◌∙◌, sym, arith, Result, Ok, Err, ◌^◌}
use Rattle.std.specs.Prelude.{nat_lt, slice_index}
use Rattle.std.specs.List.{list_all}
use Rattle.std.specs.Option.{SomeIff}
use Rattle.std.specs.Result.{OkIff, result_ok}
use Rattle.std.specs.Char.{is_ascii_digit}
use Rattle.std.specs.Str.{IsUtf8, all_ascii_digits}
use Rattle.std.specs.Str.Parse.{ParsesUnsigned, digits_value}
use Rattle.std.proofs.lemmas.Str.Parse.{numerals_by_value, tells_all_ascii_digits, parse_digits}
use Rattle.std.proofs.lemmas.Bool.Decides.{nat_tests}
use Rattle.std.proofs.lemmas.Bool.{and_parts, ltb-true}
use Rattle.std.proofs.lemmas.Str.{IsUtf8-from_ascii}
use Rattle.dp_base.specs.Bytes.{is_name_byte}
use Rattle.dp_base.specs.DecimalShape.{is_decimal, is_index}
use Rattle.dp_base.specs.Names.{is_word}
use Rattle.dp_lexer.specs.declared.Kind.{Kind}
use Rattle.dp_lexer.specs.declared.Kind.TheVariants.{Word, Number, Colon, Star, LineEnd}
use Rattle.dp_lexer.specs.TokenLaws.{IsOfKind}

byte_low : (b : ℕ) → is_name_byte b ≡ true → b < 128
byte_low b h = grind (arith, nat_tests)

bytes_low : (bytes : List ℕ) → list_all is_name_byte bytes ≡ true → (i : ℕ) → slice_index bytes i < 128
bytes_low [] h i = omega arith
bytes_low (b ∷ bs) h zero = byte_low b (and_parts (is_name_byte b) (list_all is_name_byte bs) h).0
bytes_low (b ∷ bs) h (suc i) = bytes_low bs (and_parts (is_name_byte b) (list_all is_name_byte bs) h).1 i

mark_low : (b : ℕ) → b < 128 → (i : ℕ) → slice_index (b ∷ []) i < 128
mark_low b h zero = h
mark_low b h (suc i) = omega arith

pub text_of_kind : (kind : Kind) (bytes : List ℕ) → IsOfKind kind bytes → IsUtf8 bytes
unfolding is_word
text_of_kind Word bytes h =
    let run = (and_parts (nat_lt 0 (length bytes) && list_all is_name_byte bytes) (not (is_decimal bytes)) h).0 in
    IsUtf8-from_ascii bytes (bytes_low bytes (and_parts (nat_lt 0 (length bytes))
    (list_all is_name_byte bytes) run).1)
text_of_kind Number bytes h = IsUtf8-from_ascii bytes (bytes_low bytes h.0)
text_of_kind Colon bytes h = rw h (IsUtf8-from_ascii (58 ∷ []) (mark_low 58 (omega arith)))
text_of_kind Star bytes h = rw h (IsUtf8-from_ascii (42 ∷ []) (mark_low 42 (omega arith)))
text_of_kind LineEnd bytes h = rw h (IsUtf8-from_ascii (10 ∷ []) (mark_low 10 (omega arith)))

-- a token of another kind is no word
pub no_word : (kind : Kind) (bytes : List ℕ) → IsOfKind kind bytes → kind ≢ Word → false ≡ is_word bytes
unfolding is_word
no_word Word bytes h ne = absurd (ne refl)
no_word Number bytes h ne = grind arith
no_word Colon bytes h ne = rw h refl
no_word Star bytes h ne = rw h refl
no_word LineEnd bytes h ne = rw h refl

digits_test : (bytes : List ℕ) → list_all is_ascii_digit bytes ≡ all_ascii_digits bytes
digits_test [] = refl
digits_test (b ∷ bs) = ap (λ rest. is_ascii_digit b && rest) (digits_test bs)

some_of_ok : {E : Type 0} (r : Result ℕ E) (Q P : Type 0) (n : ℕ) → Q → OkIff r (Q × P) n → SomeIff (result_ok r) P n
some_of_ok (Ok m) Q P n q h = (h.0.1, h.1)
some_of_ok (Err e) Q P n q h = λ p. h (q, p)

-- what `parse` reads of an index
pub index_parsed : {E : Type 0} (bytes : List ℕ) (r : Result ℕ E) → is_index bytes ≡ true
    → ParsesUnsigned 32 10 bytes r
    → SomeIff (result_ok r) (digits_value 10 bytes < 2 ^ 32) (digits_value 10 bytes)
unfolding is_index
index_parsed bytes r is h =
    let parts = and_parts (nat_lt 0 (length bytes)) (list_all is_ascii_digit bytes) is in
    let digits : all_ascii_digits bytes ≡ true = sym (digits_test bytes) ∙ parts.1 in
    let some : 0 < length bytes = ltb-true 0 (length bytes) parts.0 in
    let parsed = parse_digits (numerals_by_value _ tells_all_ascii_digits) 32 bytes r h digits in
    some_of_ok r (0 < length bytes) (digits_value 10 bytes < 2 ^ 32) (digits_value 10 bytes) some parsed
