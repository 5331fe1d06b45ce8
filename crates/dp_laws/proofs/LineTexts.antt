-- One spelling of lines: no two lists of numbers that a form allows give the same line, and no two lists of lines the
-- same text.
use Rattle.std.proofs.Common.{◌≡◌, ℕ, suc, ◌^◌, ◌<◌, false, eqb, List, [], ◌∷◌, ◌++◌, get_or, drop, refl, sym, ap}
use Rattle.std.proofs.Common.{subst, ◌∙◌, arith}
use Rattle.std.specs.Prelude.{ℤ, pos, negsuc, map, FitsSigned}
use Rattle.std.specs.Int.{w128}
use Rattle.std.specs.List.{slice_split, join_with_byte, AllByRecursion}
use Rattle.std.specs.Str.Parse.{digits_value, AllDigits}
use Rattle.std.specs.Fmt.{decimal, signed_decimal}
use Rattle.std.proofs.lemmas.Bool.{ne_eqb}
use Rattle.std.proofs.lemmas.List.{append-nil, append_cancel_right}
use Rattle.std.proofs.lemmas.List.Elements.{All-from_recursion}
use Rattle.std.proofs.lemmas.Fmt.{decimal_is_IsNumeral_wide}
use Rattle.std.proofs.lemmas.Str.Parse.{digit_from_value}
use Rattle.std.proofs.lemmas.List.Splits.{slice_split_at, slice_split_none}
use Rattle.dp_spec.specs.TextLines.{Item, fixed, plain, signed, Line, spelled_items, line_text, text_of_lines, Allows}

-- ---- items

-- no space and no line feed
abbrev pub IsItem : List ℕ → Type 0
IsItem item = AllByRecursion (λ b. (eqb b 32 ≡ false) × (eqb b 10 ≡ false)) item

-- digits are an item
digits_item : (ds : List ℕ) → AllDigits 10 ds → IsItem ds
digits_item [] h = tt
digits_item (c ∷ ds) h = let in_digits = digit_from_value c h.0 in
    ((ne_eqb c 32 (omega arith), ne_eqb c 10 (omega arith)), digits_item ds h.1)

-- a number that is written out is an item
pub decimal_item : (n : ℕ) → n < 10 ^ 64 → IsItem (decimal n)
decimal_item n small = digits_item (decimal n) (decimal_is_IsNumeral_wide n small).0.1

-- its magnitude is within what std spells
abbrev pub IsSmall : ℤ → Type 0
IsSmall (pos n) = n < 10 ^ 64
IsSmall (negsuc n) = suc n < 10 ^ 64

-- so is one with a sign
signed_item : (z : ℤ) → IsSmall z → IsItem (signed_decimal z)
signed_item (pos n) small = decimal_item n small
signed_item (negsuc n) small = ((refl, refl), decimal_item (suc n) small)

-- numbers with the same digits are equal, also past 64 bits
pub decimal_injective_wide : (m n : ℕ) → m < 10 ^ 64 → n < 10 ^ 64 → decimal m ≡ decimal n → m ≡ n
decimal_injective_wide m n p q e = sym (decimal_is_IsNumeral_wide m p).1 ∙ ap (digits_value 10) e
    ∙ (decimal_is_IsNumeral_wide n q).1

-- a number without a sign does not begin with `-`
no_minus : (n : ℕ) (ds : List ℕ) → n < 10 ^ 64 → decimal n ≡ 45 ∷ ds → ⊥
no_minus n ds small e =
    let numeral : AllDigits 10 (45 ∷ ds) = subst (AllDigits 10) e (decimal_is_IsNumeral_wide n small).0.1 in
    let in_digits = digit_from_value 45 numeral.0 in
    omega (arith, in_digits)

-- the same of numbers with a sign
pub signed_decimal_injective_wide : (y z : ℤ) → IsSmall y → IsSmall z → signed_decimal y ≡ signed_decimal z
    → y ≡ z
signed_decimal_injective_wide (pos m) (pos n) p q e = ap pos (decimal_injective_wide m n p q e)
signed_decimal_injective_wide (pos m) (negsuc n) p q e = absurd (no_minus m (decimal (suc n)) p e)
signed_decimal_injective_wide (negsuc m) (pos n) p q e = absurd (no_minus n (decimal (suc m)) q (sym e))
signed_decimal_injective_wide (negsuc m) (negsuc n) p q e =
    let same : suc m ≡ suc n = decimal_injective_wide (suc m) (suc n) p q (ap (drop 1) e) in
    let less : m ≡ n = omega arith in ap negsuc less

-- a number of 128 bits is small
signed_small : (z : ℤ) → FitsSigned w128 z → IsSmall z
signed_small (pos n) fits = let f : n < 2 ^ 127 = fits.sfits in omega arith
signed_small (negsuc n) fits = let f : n < 2 ^ 127 = fits.sfits in omega arith

-- ---- forms

-- the fixed texts of a form are items
abbrev pub HasItems : List Item → Type 0
HasItems [] = Unit {0}
HasItems (fixed text ∷ form) = IsItem text × HasItems form
HasItems (plain low high ∷ form) = HasItems form
HasItems (signed ∷ form) = HasItems form

-- what a line of a form has between its spaces are items
pub spelled_are_items : (form : List Item) (zs : List ℤ) → HasItems form → Allows form zs
    → AllByRecursion IsItem (spelled_items form zs)
spelled_are_items [] zs are allowed = tt
spelled_are_items (fixed text ∷ form) zs are allowed = (are.0, spelled_are_items form zs are.1 allowed)
spelled_are_items (plain low high ∷ form) [] are allowed = tt
spelled_are_items (plain low high ∷ form) (pos n ∷ zs) are allowed =
    (decimal_item n (omega (arith, allowed.0)), spelled_are_items form zs are allowed.3)
spelled_are_items (plain low high ∷ form) (negsuc n ∷ zs) are allowed = absurd allowed
spelled_are_items (signed ∷ form) [] are allowed = tt
spelled_are_items (signed ∷ form) (z ∷ zs) are allowed = (
  signed_item z (signed_small z allowed.0),
  spelled_are_items form zs are allowed.1,
)

-- equal lists have equal first elements
pub first_of_list : {A : Type 0} (x y : A) (xs ys : List A) → x ∷ xs ≡ y ∷ ys → x ≡ y
first_of_list {A = A} x y xs ys e = ap (λ (l : List A). get_or l 0 x) e

-- and are equal behind them
pub rest_of_list : {A : Type 0} (x y : A) (xs ys : List A) → x ∷ xs ≡ y ∷ ys → xs ≡ ys
rest_of_list {A = A} x y xs ys e = ap (drop 1) e

-- the spelled items determine the numbers
spelled_items_injective : (form : List Item) (ys zs : List ℤ) → Allows form ys → Allows form zs
    → spelled_items form ys ≡ spelled_items form zs → ys ≡ zs
spelled_items_injective [] [] [] p q e = refl
spelled_items_injective [] [] (z ∷ zs) p q e = absurd q
spelled_items_injective [] (y ∷ ys) zs p q e = absurd p
spelled_items_injective (fixed text ∷ form) ys zs p q e = spelled_items_injective form ys zs p q
    (rest_of_list text text (spelled_items form ys) (spelled_items form zs) e)
spelled_items_injective (plain low high ∷ form) [] zs p q e = absurd p
spelled_items_injective (plain low high ∷ form) (negsuc n ∷ ys) zs p q e = absurd p
spelled_items_injective (plain low high ∷ form) (pos m ∷ ys) [] p q e = absurd q
spelled_items_injective (plain low high ∷ form) (pos m ∷ ys) (negsuc n ∷ zs) p q e = absurd q
spelled_items_injective (plain low high ∷ form) (pos m ∷ ys) (pos n ∷ zs) p q e =
    let one : m ≡ n = decimal_injective_wide m n (omega (arith, p.0)) (omega (arith, q.0))
    (first_of_list _ _ _ _ e) in
    rw (one, spelled_items_injective form ys zs p.3 q.3 (rest_of_list _ _ _ _ e)) refl
spelled_items_injective (signed ∷ form) [] zs p q e = absurd p
spelled_items_injective (signed ∷ form) (y ∷ ys) [] p q e = absurd q
spelled_items_injective (signed ∷ form) (y ∷ ys) (z ∷ zs) p q e =
    let one : y ≡ z = signed_decimal_injective_wide y z (signed_small y p.0) (signed_small z q.0)
    (first_of_list _ _ _ _ e) in
    rw (one, spelled_items_injective form ys zs p.1 q.1 (rest_of_list _ _ _ _ e)) refl

-- ---- one line

-- an item has no space
no_space : (item : List ℕ) → IsItem item → AllByRecursion (λ b. eqb b 32 ≡ false) item
no_space [] h = tt
no_space (b ∷ item) h = (h.0.0, no_space item h.1)

-- items that are joined by spaces are its parts between spaces
split_joined : (first : List ℕ) (items : List (List ℕ)) → AllByRecursion IsItem (first ∷ items)
    → slice_split (λ b. eqb b 32) (join_with_byte 32 (first ∷ items)) ≡ first ∷ items
split_joined first [] h = slice_split_none (λ b. eqb b 32) first
    (All-from_recursion _ first (no_space first h.0))
split_joined first (second ∷ items) h =
    slice_split_at (λ b. eqb b 32) first 32 (join_with_byte 32 (second ∷ items))
    (All-from_recursion _ first (no_space first h.0)) refl
    ∙ ap (λ (l : List (List ℕ)). first ∷ l) (split_joined second items h.1)

-- items that are equal once they are joined are equal
pub joined_injective : (x y : List ℕ) (xs ys : List (List ℕ)) → AllByRecursion IsItem (x ∷ xs)
    → AllByRecursion IsItem (y ∷ ys) → join_with_byte 32 (x ∷ xs) ≡ join_with_byte 32 (y ∷ ys) → x ∷ xs ≡ y ∷ ys
joined_injective x y xs ys p q e = sym (split_joined x xs p) ∙ ap (slice_split (λ b. eqb b 32)) e
    ∙ split_joined y ys q

-- the line of a form determines its numbers
pub line_text_injective : (form : List Item) (ys zs : List ℤ) → HasItems form → Allows form ys → Allows form zs
    → line_text form ys ≡ line_text form zs → ys ≡ zs
line_text_injective [] ys zs are p q e = spelled_items_injective [] ys zs p q refl
line_text_injective (fixed text ∷ form) ys zs are p q e =
    spelled_items_injective (fixed text ∷ form) ys zs p q (joined_injective text text (spelled_items form ys)
    (spelled_items form zs) (spelled_are_items (fixed text ∷ form) ys are p)
    (spelled_are_items (fixed text ∷ form) zs are q) e)
line_text_injective (plain low high ∷ form) [] zs are p q e = absurd p
line_text_injective (plain low high ∷ form) (y ∷ ys) [] are p q e = absurd q
line_text_injective (plain low high ∷ form) (y ∷ ys) (z ∷ zs) are p q e =
    spelled_items_injective (plain low high ∷ form) (y ∷ ys) (z ∷ zs) p q
    (joined_injective _ _ _ _ (spelled_are_items (plain low high ∷ form) (y ∷ ys) are p)
    (spelled_are_items (plain low high ∷ form) (z ∷ zs) are q) e)
line_text_injective (signed ∷ form) [] zs are p q e = absurd p
line_text_injective (signed ∷ form) (y ∷ ys) [] are p q e = absurd q
line_text_injective (signed ∷ form) (y ∷ ys) (z ∷ zs) are p q e =
    spelled_items_injective (signed ∷ form) (y ∷ ys) (z ∷ zs) p q
    (joined_injective _ _ _ _ (spelled_are_items (signed ∷ form) (y ∷ ys) are p)
    (spelled_are_items (signed ∷ form) (z ∷ zs) are q) e)

-- ---- lines

-- no byte is a line feed
abbrev NoFeed : List ℕ → Type 0
NoFeed line = AllByRecursion (λ b. eqb b 10 ≡ false) line

-- an item before bytes without line feeds adds none
NoFeed-append : (item rest : List ℕ) → IsItem item → NoFeed rest → NoFeed (item ++ rest)
NoFeed-append [] rest h r = r
NoFeed-append (b ∷ item) rest h r = (h.0.1, NoFeed-append item rest h.1 r)

-- items that are joined by spaces have no line feed
NoFeed-joined : (items : List (List ℕ)) → AllByRecursion IsItem items → NoFeed (join_with_byte 32 items)
NoFeed-joined [] h = tt
NoFeed-joined (item ∷ []) h = subst NoFeed (append-nil item) (NoFeed-append item [] h.0 tt)
NoFeed-joined (item ∷ second ∷ items) h = NoFeed-append item (32 ∷ join_with_byte 32 (second ∷ items)) h.0
    (refl, NoFeed-joined (second ∷ items) h.1)

-- every line has items and the numbers that its form allows
abbrev pub AreLines : List Line → Type 0
AreLines lines = AllByRecursion (λ (line : Line). HasItems line.form × Allows line.form line.numbers) lines

-- the bytes of a line without its line feed
unfoldable pub bytes_of : Line → List ℕ
bytes_of line = line_text line.form line.numbers

-- a text between its line feeds is its lines, and nothing behind the last one
split_text : (lines : List Line) → AreLines lines
    → slice_split (λ b. eqb b 10) (text_of_lines lines) ≡ map bytes_of lines ++ [] ∷ []
unfolding bytes_of
split_text [] are = refl
split_text (line ∷ lines) are =
    slice_split_at (λ b. eqb b 10) (line_text line.form line.numbers) 10 (text_of_lines lines)
    (All-from_recursion _ _ (NoFeed-joined (spelled_items line.form line.numbers)
    (spelled_are_items line.form line.numbers are.0.0 are.0.1))) refl
    ∙ ap (λ (l : List (List ℕ)). line_text line.form line.numbers ∷ l) (split_text lines are.1)

-- a text determines its lines
pub text_of_lines_injective : (lines more : List Line) → AreLines lines → AreLines more
    → text_of_lines lines ≡ text_of_lines more → map bytes_of lines ≡ map bytes_of more
text_of_lines_injective lines more p q e =
    append_cancel_right (map bytes_of lines) (map bytes_of more) ([] ∷ [])
    (sym (split_text lines p) ∙ ap (slice_split (λ b. eqb b 10)) e ∙ split_text more q)
