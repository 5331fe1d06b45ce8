-- What a word is: by the definitions, and by `clap`.
use Rattle.std.proofs.Common.{◌≡◌, ◌∙◌, ◌==◌, ℕ, Bool, cond, true, false, refl, sym, ap, arith, List, [], ◌∷◌, Option}
use Rattle.std.proofs.Common.{Some, None, subst}
use Rattle.std.specs.Prelude.{slice_get, encode_utf8_all}
use Rattle.std.specs.Str.{bytes_eq, chars, IsUtf8}
use Rattle.std.specs.List.{list_any, before_first, after_first}
use Rattle.std.proofs.lemmas.Bool.{eqb-true}
use Rattle.std.proofs.lemmas.Bool.Decides.{nat_tests}
use Rattle.dp_words.proofs.Cuts.{before_here, before_next, after_next}
use Rattle.std.proofs.lemmas.Str.{encodes-chars}
use Rattle.clap.specs.Lexer.{name_and_value}
use Rattle.dp_words.specs.Line.{Text, attached_value, is_equals, is_option, name_of}
use Rattle.dp_words.proofs.Walks.{IsLong, IsPlainWord, IsShort, View, an_end, a_long, a_short, a_plain}

-- What a word is for `clap`, and what the definitions say of it: `--`, a long flag, short flags, which
-- are no option that there is, or a plain word. 45 is the dash.
pub data WordKind (word : Text) : Type 0 where
  kind_end : bytes_eq word (45 ∷ 45 ∷ []) ≡ true → WordKind word
  kind_long : (name : Text) (v : Option Text) → IsLong word name v → is_option word ≡ true
      → name_of word ≡ 45 ∷ 45 ∷ name → attached_value word ≡ v → WordKind word
  kind_short : (x : ℕ) (flags : Text) (y : ℕ) → IsShort word x flags → slice_get (chars (x ∷ flags)) 0 ≡ Some y
      → is_option word ≡ true
      → ((name : Text) → bytes_eq (45 ∷ 45 ∷ name) (name_of word) ≡ false) → WordKind word
  kind_plain : IsPlainWord word → is_option word ≡ false → WordKind word

abbrev pub view_of : {word : Text} → WordKind word → View word
view_of (kind_end e) = an_end e
view_of (kind_long name v is o n a) = a_long name v is
view_of (kind_short x flags y is first o n) = a_short x flags y is first
view_of (kind_plain is o) = a_plain is

some_first : (xs : List ℕ) → (xs ≡ [] → ⊥) → (y : ℕ) × (slice_get xs 0 ≡ Some y)
some_first [] none = absurd (none refl)
some_first (x ∷ xs) none = (x, refl)

-- a text of more than a dash has a character after the dash
first_char : (x : ℕ) (xs : Text) → IsUtf8 (45 ∷ x ∷ xs) → (y : ℕ) × (slice_get (chars (x ∷ xs)) 0 ≡ Some y)
unfolding chars lib.Utf8.encode
first_char x xs utf8 =
    some_first (chars (x ∷ xs)) (λ none.
    let whole : encode_utf8_all (45 ∷ chars (x ∷ xs)) ≡ 45 ∷ x ∷ xs = encodes-chars (45 ∷ x ∷ xs) utf8 in
    let short : 45 ∷ [] ≡ 45 ∷ x ∷ xs = sym (ap (λ (cs : List ℕ). encode_utf8_all (45 ∷ cs)) none) ∙ whole in
    cc)

before_two : (es : Text) → before_first is_equals (45 ∷ 45 ∷ es) ≡ 45 ∷ 45 ∷ before_first is_equals es
before_two es = before_next is_equals 45 (45 ∷ es) refl ∙ ap (λ xs. 45 ∷ xs) (before_next is_equals 45 es refl)

after_two : (es : Text) → after_first is_equals (45 ∷ 45 ∷ es) ≡ after_first is_equals es
after_two es = after_next is_equals 45 (45 ∷ es) refl ∙ after_next is_equals 45 es refl

attached_two : (es : Text) → attached_value (45 ∷ 45 ∷ es) ≡ (name_and_value es).1
attached_two es = ap (λ xs. cond (list_any is_equals es) (Some xs) None) (after_two es)

swap_test : (x y : ℕ) → (x == y) ≡ false → (y == x) ≡ false
swap_test x y e = grind (arith, nat_tests)

no_two : (d : ℕ) (ds name : Text) → (d == 45) ≡ false → bytes_eq (45 ∷ 45 ∷ name) (name_of (45 ∷ d ∷ ds))
    ≡ false
no_two d ds name e = by (is_equals d) refl
  where
    other : (45 == d) ≡ false
    other = swap_test d 45 e

    by : (b : Bool) → is_equals d ≡ b → bytes_eq (45 ∷ 45 ∷ name) (name_of (45 ∷ d ∷ ds)) ≡ false
    by true f = rw (before_next is_equals 45 (d ∷ ds) refl, before_here is_equals d ds f) refl
    by false f = rw (before_next is_equals 45 (d ∷ ds) refl, before_next is_equals d ds f) (rw other refl)

pub kind_of_word : (word : Text) → IsUtf8 word → WordKind word
kind_of_word [] utf8 = kind_plain (refl, refl, refl) refl
kind_of_word (x ∷ xs) utf8 = by_first xs (x == 45) refl utf8
  where
    by_third : (d : ℕ) (ds : Text) → (d == 45) ≡ false → IsUtf8 (45 ∷ d ∷ ds) → WordKind (45 ∷ d ∷ ds)
    by_third d ds e utf8 =
        let first = first_char d ds utf8 in
        kind_short d ds first.0 (rw e refl, rw e refl, rw e refl) first.1 refl (λ name. no_two d ds name e)

    by_second : (ds : Text) (d : ℕ) (b : Bool) → (d == 45) ≡ b → IsUtf8 (45 ∷ d ∷ ds) → WordKind (45 ∷ d ∷ ds)
    by_second ds d false e utf8 = by_third d ds e utf8
    by_second [] d true e utf8 = kind_end (rw (eqb-true d 45 e) refl)
    by_second (f ∷ fs) d true e utf8 =
        let is : d ≡ 45 = eqb-true d 45 e in
        let pair = name_and_value (f ∷ fs) in
        kind_long pair.0 pair.1 (rw is refl, rw is refl) refl
        (ap (λ z. name_of (45 ∷ z ∷ f ∷ fs)) is ∙ before_two (f ∷ fs))
        (ap (λ z. attached_value (45 ∷ z ∷ f ∷ fs)) is ∙ attached_two (f ∷ fs))

    dashed : (ys : Text) → IsUtf8 (45 ∷ ys) → WordKind (45 ∷ ys)
    dashed [] utf8 = kind_plain (refl, refl, refl) refl
    dashed (d ∷ ds) utf8 = by_second ds d (d == 45) refl utf8

    by_first : (ys : Text) (b : Bool) → (x == 45) ≡ b → IsUtf8 (x ∷ ys) → WordKind (x ∷ ys)
    by_first ys true e utf8 =
        let is : x ≡ 45 = eqb-true x 45 e in
        subst (λ z. WordKind (z ∷ ys)) (sym is) (dashed ys (subst (λ z. IsUtf8 (z ∷ ys)) is utf8))
    by_first ys false e utf8 = kind_plain (rw e refl, rw e refl, rw e refl) (rw e refl)
