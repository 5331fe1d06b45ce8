-- How many numbers a line has.
use Rattle.std.proofs.Common.{◌≡◌, ℕ, suc, ◌+◌, ◌≤◌, Bool, true, false, subst, List, [], ◌∷◌, length, get_or, map, Ok}
use Rattle.std.proofs.Common.{refl, sym, ap, ◌∙◌, arith}
use Rattle.std.specs.Prelude.{ℤ, pos, unsigned_abs, Option, Some, None}
use Rattle.std.proofs.lemmas.List.{length-append}
use Rattle.dp_spec.specs.TextLines.{Item, fixed, plain, signed}
use Rattle.dp_lines.specs.Forms.{AreSpelled, AreInRange}
use Rattle.dp_lines.specs.declared.line.PlainRange.{PlainRange}
use Rattle.dp_lines.specs.Lines.{plain_form}
use Rattle.dp_lines.specs.Scanning.{numbers_at, are_typed, are_in_range, judged, judged_line, line_at}
use Rattle.dp_lines.proofs.SpelledLines.{ItemSays, first_spelled, numbers_at-says}
use Rattle.dp_lines.proofs.FirstLines.{in_range_from}
use Rattle.dp_lines.proofs.LineAnswers.{judged_ok}

abbrev pub number_count : List Item → ℕ
number_count [] = 0
number_count (fixed text ∷ form) = number_count form
number_count (plain low high ∷ form) = suc (number_count form)
number_count (signed ∷ form) = suc (number_count form)

count_first : (want : Item) (form : List Item) (zs : List ℤ) (item : List ℕ) → ItemSays want zs item
    → length zs + number_count form ≡ number_count (want ∷ form)
count_first (fixed text) form zs item says = rw says.0 (omega arith)
count_first (plain low high) form zs item says = rw says.1 (omega arith)
count_first signed form zs item says = rw says.1 (omega arith)

spelled_count : (form : List Item) (zs : List ℤ) (items : List (List ℕ)) → AreSpelled form zs items
    → length zs ≡ number_count form
spelled_count [] [] [] s = refl
spelled_count [] (z ∷ zs) items s = absurd s
spelled_count [] [] (item ∷ items) s = absurd s
spelled_count (want ∷ form) zs items s =
    let f = first_spelled want form zs items s in
    let sizes : length zs ≡ length f.mine + length f.others = ap length f.numbers
    ∙ length-append f.mine f.others in
    let rest = spelled_count form f.others f.rest f.spelled in
    let first = count_first want form f.mine f.item f.says in
    omega (arith, sizes, rest, first)

pub line_count : (form : List Item) (bytes : List ℕ) (zs : List ℤ) (more : List ℕ)
    → line_at form bytes ≡ Ok (zs, more) → length zs ≡ number_count form
unfolding line_at
line_count form bytes zs more e = by_numbers (numbers_at form bytes) refl e
  where
    by_numbers : (o : Option (List ℤ × List ℕ)) → numbers_at form bytes ≡ o → judged_line form o ≡ Ok (zs, more)
        → length zs ≡ number_count form
    by_numbers None is e = absurd cc
    by_numbers (Some read) is e =
        let found : List ℤ × List ℕ = (zs, more) in
        let same : read ≡ found = judged_ok (are_typed form read.0) (are_in_range form read.0) read found e in
        let s = numbers_at-says form bytes read.0 read.1 is in
        sym (ap (λ (p : List ℤ × List ℕ). length p.0) same) ∙ spelled_count form read.0 s.says.items
        s.says.spelled

map_length : (xs : List ℕ) → length (map pos xs) ≡ length xs
map_length [] = refl
map_length (x ∷ xs) = ap suc (map_length xs)

-- plain numbers, read back
pub numbers_back : (xs : List ℕ) → map unsigned_abs (map pos xs) ≡ xs
numbers_back [] = refl
numbers_back (x ∷ xs) = ap (λ l. x ∷ l) (numbers_back xs)

-- a line of three plain numbers has three
pub three_numbers : (word : List ℕ) (a b c d e f : ℕ) (bytes xs more : List ℕ)
    → line_at (fixed word ∷ plain a b ∷ plain c d ∷ plain e f ∷ []) bytes ≡ Ok (map pos xs, more)
    → length xs ≡ 3
three_numbers word a b c d e f bytes xs more is = sym (map_length xs)
    ∙ line_count (fixed word ∷ plain a b ∷ plain c d ∷ plain e f ∷ []) bytes (map pos xs) more is

pub three_are : (xs : List ℕ) (a b c : ℕ) → length xs ≡ 3 → a ≡ get_or xs 0 a → b ≡ get_or xs 1 b
    → c ≡ get_or xs 2 c → map pos xs ≡ pos a ∷ pos b ∷ pos c ∷ []
three_are [] a b c n p q r = absurd (omega (arith, n))
three_are (x ∷ []) a b c n p q r = absurd (omega (arith, n))
three_are (x ∷ y ∷ []) a b c n p q r = absurd (omega (arith, n))
three_are (x ∷ y ∷ z ∷ []) a b c n p q r = let p' : a ≡ x = p in let q' : b ≡ y = q in let r' : c ≡ z = r in
    rw (p', q', r') refl
three_are (x ∷ y ∷ z ∷ w ∷ xs) a b c n p q r = absurd (omega (arith, n))

-- a line of one plain number has one
pub one_number : (word : List ℕ) (a b : ℕ) (bytes xs more : List ℕ)
    → line_at (fixed word ∷ plain a b ∷ []) bytes ≡ Ok (map pos xs, more) → length xs ≡ 1
one_number word a b bytes xs more is =
    sym (map_length xs) ∙ line_count (fixed word ∷ plain a b ∷ []) bytes (map pos xs) more is

pub one_is : (xs : List ℕ) (a : ℕ) → length xs ≡ 1 → a ≡ get_or xs 0 a → map pos xs ≡ pos a ∷ []
one_is [] a n p = absurd (omega (arith, n))
one_is (x ∷ []) a n p = let p' : a ≡ x = p in rw p' refl
one_is (x ∷ y ∷ xs) a n p = absurd (omega (arith, n))

-- ---- numbers that were read are in their ranges

judged_inside : {A : Type 0} (typed inside : Bool) (x y : A) → judged typed inside x ≡ Ok y → inside ≡ true
judged_inside true true x y e = refl
judged_inside true false x y e = absurd cc
judged_inside false inside x y e = absurd cc

pub line_inside : (form : List Item) (bytes : List ℕ) (zs : List ℤ) (more : List ℕ)
    → line_at form bytes ≡ Ok (zs, more)
    → AreInRange form zs
unfolding line_at
line_inside form bytes zs more e = by_numbers (numbers_at form bytes) e
  where
    by_numbers : (o : Option (List ℤ × List ℕ)) → judged_line form o ≡ Ok (zs, more) → AreInRange form zs
    by_numbers None e = absurd cc
    by_numbers (Some read) e =
        let found : List ℤ × List ℕ = (zs, more) in
        let same : read ≡ found = judged_ok (are_typed form read.0) (are_in_range form read.0) read found e in
        let numbers = ap (λ (p : List ℤ × List ℕ). p.0) same in
        subst (AreInRange form) numbers
        (in_range_from form read.0 (judged_inside (are_typed form read.0) (are_in_range form read.0)
        read found e))

pub one_inside : (word : List ℕ) (a b : ℕ) (bytes more : List ℕ) (n : ℕ)
    → line_at (fixed word ∷ plain a b ∷ []) bytes ≡ Ok (pos n ∷ [], more) → (a ≤ n) × (n ≤ b)
one_inside word a b bytes more n e =
    let inside = line_inside (fixed word ∷ plain a b ∷ []) bytes (pos n ∷ []) more e in (inside.0, inside.1)

-- ---- a line of ranges has a number for each

plain_count : (ranges : List PlainRange) → number_count (plain_form ranges) ≡ length ranges
plain_count [] = refl
plain_count (range ∷ ranges) = ap suc (plain_count ranges)

pub row_count : (ranges : List PlainRange) (bytes xs more : List ℕ)
    → line_at (plain_form ranges) bytes ≡ Ok (map pos xs, more) → length xs ≡ length ranges
row_count ranges bytes xs more is =
    sym (map_length xs) ∙ line_count (plain_form ranges) bytes (map pos xs) more is ∙ plain_count ranges

pub numbers_count : (word : List ℕ) (ranges : List PlainRange) (bytes xs more : List ℕ)
    → line_at (fixed word ∷ plain_form ranges) bytes ≡ Ok (map pos xs, more) → length xs ≡ length ranges
numbers_count word ranges bytes xs more is =
    sym (map_length xs) ∙ line_count (fixed word ∷ plain_form ranges) bytes (map pos xs) more is
    ∙ plain_count ranges
