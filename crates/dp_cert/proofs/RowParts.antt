-- Rows, cells and ranges, one after the other.
use Rattle.std.proofs.Common.{◌≡◌, ℕ, zero, suc, ◌+◌, ◌*◌, ◌^◌, ◌<◌, ◌≤◌, Bool, true, false, cond, List, [], ◌∷◌}
use Rattle.std.proofs.Common.{◌++◌, length, drop, get_or, map, refl, sym, ap, ◌∙◌, append_assoc, add-one, arith}
use Rattle.std.specs.Prelude.{pos, replicate, nat_lt, Option, Some, None, option_map}
use Rattle.std.specs.List.{AllByRecursion}
use Rattle.std.proofs.Math.Seq.{drop-cons}
use Rattle.std.proofs.lemmas.Bool.Decides.{nat_tests}
use Rattle.dp_lines.proofs.LineCounts.{numbers_back}
use Rattle.std.proofs.lemmas.List.{replicate_more, map-append, drop_all, append-nil}
use Rattle.dp_model.specs.declared.limit.Limit.TheVariants.{PolicyCells}
use Rattle.dp_model.specs.declared.limit.TooLarge.{TooLarge}
use Rattle.dp_spec.specs.TextLines.{plain}
use Rattle.dp_spec.specs.SharedPolicy.{PolicyRow}
use Rattle.dp_spec.specs.SharedRows.{counts_form, first_past, products}
use Rattle.dp_lines.specs.declared.line.PlainRange.{PlainRange}
use Rattle.dp_lines.specs.Forms.{AreInRange}
use Rattle.dp_lines.specs.Lines.{plain_form}
use Rattle.dp_cert.specs.PolicyGrammar.{cells_passed, row_of, rows_from}

-- ---- ranges

pub ranges_step : (first done more : List PlainRange) (k : ℕ) (range : PlainRange)
    → plain_form done ≡ plain_form first ++ replicate k (plain range.low range.high) → more ≡ done ++ range ∷ []
    → plain_form more ≡ plain_form first ++ replicate (suc k) (plain range.low range.high)
ranges_step first done more k range so_far e =
    ap plain_form e
    ∙ map-append (λ (r : PlainRange). plain r.low r.high) done (range ∷ [])
    ∙ ap (λ l. l ++ plain range.low range.high ∷ []) so_far
    ∙ append_assoc (plain_form first) (replicate k (plain range.low range.high))
    (plain range.low range.high ∷ [])
    ∙ ap (λ l. plain_form first ++ l) (replicate_more k (plain range.low range.high)
    ∙ ap (λ n. replicate n (plain range.low range.high)) (add-one k))

-- ---- cells

pub products_step : (cells counts done more : List ℕ) (t : ℕ) (c k : ℕ) → t < length cells → t < length counts
    → c ≡ get_or cells t c → k ≡ get_or counts t k → more ≡ done ++ c * k ∷ []
    → done ++ products (drop t cells) (drop t counts) ≡ products cells counts
    → more ++ products (drop (suc t) cells) (drop (suc t) counts) ≡ products cells counts
products_step cells counts done more t c k lt lu ec ek e so_far =
    ap (λ l. l ++ products (drop (suc t) cells) (drop (suc t) counts)) e
    ∙ append_assoc done (c * k ∷ []) (products (drop (suc t) cells) (drop (suc t) counts))
    ∙ ap (λ x. done ++ x * k ∷ products (drop (suc t) cells) (drop (suc t) counts)) ec
    ∙ ap (λ x. done ++ get_or cells t c * x ∷ products (drop (suc t) cells) (drop (suc t) counts)) ek
    ∙ ap (λ l. done ++ products l (get_or counts t k ∷ drop (suc t) counts)) (sym (drop-cons cells t c lt))
    ∙ ap (λ l. done ++ products (drop t cells) l) (sym (drop-cons counts t k lu))
    ∙ so_far

pub products_end : (cells counts done : List ℕ) (t : ℕ) → length cells ≤ t
    → done ++ products (drop t cells) (drop t counts) ≡ products cells counts → done ≡ products cells counts
products_end cells counts done t le so_far =
    sym (append-nil done) ∙ ap (λ l. done ++ products l (drop t counts)) (sym (drop_all t cells le)) ∙ so_far

-- ---- the limit on cells

not_past : (limit x : ℕ) → nat_lt limit x ≡ false → x ≤ limit
not_past limit x e = grind (arith, nat_tests)

passed_of : Option ℕ → Option TooLarge
passed_of found = option_map (λ count. record { what = PolicyCells; count = count }) found

pub kept_cells : (cells : List ℕ) → cells_passed cells ≡ None → AllByRecursion (λ (k : ℕ). k ≤ 2 ^ 22) cells
unfolding cells_passed passed_of
kept_cells [] e = tt
kept_cells (x ∷ xs) e = by_test (nat_lt (2 ^ 22) x) refl e (kept_cells xs)
  where
    by_test : (b : Bool) → nat_lt (2 ^ 22) x ≡ b → passed_of (cond b (Some x) (first_past (2 ^ 22) xs)) ≡ None
        → (cells_passed xs ≡ None → AllByRecursion (λ (k : ℕ). k ≤ 2 ^ 22) xs)
        → AllByRecursion (λ (k : ℕ). k ≤ 2 ^ 22) (x ∷ xs)
    by_test true is f others = absurd cc
    by_test false is f others = (not_past (2 ^ 22) x is, others f)

-- the cells from one on, of which the first is past the limit
pub cells_past : (cells : List ℕ) (t x : ℕ) → t < length cells → x ≡ get_or cells t 0 → 2 ^ 22 < x
    → cells_passed (drop t cells) ≡ Some (record { what = PolicyCells; count = x })
unfolding cells_passed
cells_past cells t x lt e past =
    let is : nat_lt (2 ^ 22) x ≡ true = is_past (2 ^ 22) x past in
    ap cells_passed (drop-cons cells t 0 lt ∙ ap (λ y. y ∷ drop (suc t) cells) (sym e)) ∙ rw is refl
  where
    is_past : (a b : ℕ) → a < b → nat_lt a b ≡ true
    is_past a b lt = grind (arith, nat_tests)

-- or is not
pub cells_within : (cells : List ℕ) (t x : ℕ) → t < length cells → x ≡ get_or cells t 0 → x ≤ 2 ^ 22
    → cells_passed (drop t cells) ≡ cells_passed (drop (suc t) cells)
unfolding cells_passed
cells_within cells t x lt e within =
    let is : nat_lt (2 ^ 22) x ≡ false = is_within (2 ^ 22) x within in
    ap cells_passed (drop-cons cells t 0 lt ∙ ap (λ y. y ∷ drop (suc t) cells) (sym e)) ∙ rw is refl
  where
    is_within : (a b : ℕ) → b ≤ a → nat_lt a b ≡ false
    is_within a b le = grind (arith, nat_tests)

pub cells_end : (cells : List ℕ) (t : ℕ) → length cells ≤ t → cells_passed (drop t cells) ≡ None
unfolding cells_passed
cells_end cells t le = ap cells_passed (drop_all t cells le)

-- ---- rows

-- the row of a line, as the code takes it apart
pub row_of_line : (xs rest : List ℕ) (a : ℕ) → 0 < length xs → a ≡ get_or xs 0 a → rest ≡ drop 1 xs
    → (let row : PolicyRow = record { action = a; next = rest } in row) ≡ row_of (map pos xs)
row_of_line [] rest a some e f = absurd (omega arith)
row_of_line (x ∷ xs) rest a some e f =
    let same : a ≡ x = e in let others : rest ≡ xs = f in rw (same, others, numbers_back xs) refl

same_some : (k c : ℕ) (xs : List ℕ) → length xs ≡ k → AreInRange (replicate k (plain 1 c)) (map pos xs)
    → AllByRecursion (λ (x : ℕ). 0 < x) xs
same_some k c [] e inside = tt
same_some zero c (x ∷ xs) e inside = absurd (omega (arith, e))
same_some (suc k) c (x ∷ xs) e inside = (omega (arith, inside.0), same_some k c xs (omega (arith, e)) inside.2)

-- each stage has a row
pub some_counts : (h : ℕ) (xs : List ℕ) → length xs ≡ h → AreInRange (counts_form h) (map pos xs)
    → AllByRecursion (λ (x : ℕ). 0 < x) xs
some_counts h [] e inside = tt
some_counts zero (x ∷ xs) e inside = absurd (omega (arith, e))
some_counts (suc h) (x ∷ xs) e inside = (
  omega (arith, inside.0),
  same_some h (2 ^ 22) xs (omega (arith, e)) inside.2,
)

-- those that follow one, too
pub some_dropped : (xs : List ℕ) (k : ℕ) → AllByRecursion (λ (x : ℕ). 0 < x) xs
    → AllByRecursion (λ (x : ℕ). 0 < x) (drop k xs)
some_dropped [] zero all = tt
some_dropped [] (suc k) all = tt
some_dropped (x ∷ xs) zero all = all
some_dropped (x ∷ xs) (suc k) all = some_dropped xs k all.1

-- ---- rows of own histories

row_with : ℕ → List ℕ → PolicyRow
row_with action next = record { action = action; next = next }

pub rows_step : (n t first : ℕ) (seen actions next : List ℕ) (done more : List PolicyRow) → t < length actions
    → next ≡ map (λ o. first + o) seen → first ≡ t * n
    → more ≡ done ++ (record { action = get_or actions t 0; next = next }) ∷ []
    → done ++ rows_from n seen t (drop t actions) ≡ rows_from n seen 0 actions
    → more ++ rows_from n seen (t + 1) (drop (t + 1) actions) ≡ rows_from n seen 0 actions
unfolding row_with
rows_step n t first seen actions next done more lt is from e so_far =
    let row = row_with (get_or actions t 0) next in
    ap (λ k. more ++ rows_from n seen (t + 1) (drop k actions)) (add-one t)
    ∙ ap (λ l. l ++ rows_from n seen (t + 1) (drop (suc t) actions)) e
    ∙ append_assoc done (row ∷ []) (rows_from n seen (t + 1) (drop (suc t) actions))
    ∙ ap (λ l. done ++ row_with (get_or actions t 0) l ∷ rows_from n seen (t + 1) (drop (suc t) actions)) is
    ∙ ap (λ (f : ℕ). done ++ row_with (get_or actions t 0) (map (λ o. f + o) seen) ∷ rows_from n seen (t + 1)
    (drop (suc t) actions)) from
    ∙ ap (λ l. done ++ rows_from n seen t l) (sym (drop-cons actions t 0 lt))
    ∙ so_far

pub rows_end : (n t : ℕ) (seen actions : List ℕ) (done : List PolicyRow) → length actions ≤ t
    → done ++ rows_from n seen t (drop t actions) ≡ rows_from n seen 0 actions
    → done ≡ rows_from n seen 0 actions
rows_end n t seen actions done le so_far =
    sym (append-nil done) ∙ ap (λ l. done ++ rows_from n seen t l) (sym (drop_all t actions le)) ∙ so_far

pub first_step : (t n first : ℕ) → first ≡ t * n → first + n ≡ (t + 1) * n
first_step t n first e = let f : t * n + n ≡ (t + 1) * n = omega arith in omega (arith, e, f)
