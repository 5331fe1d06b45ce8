-- Rows that are tried one after the other.
use Rattle.std.proofs.Common.{◌≡◌, ◌≢◌, ℕ, zero, suc, ◌+◌, ◌*◌, ◌/◌, ◌%◌, ◌^◌, ◌<◌, ◌≤◌, ℤ, pos, Bool, true, false}
use Rattle.std.proofs.Common.{◌||◌}
use Rattle.std.proofs.Common.{◌&&◌, List, [], ◌∷◌, ◌++◌, length, get_or, take, max, refl, sym, ap, subst, ◌∙◌, arith}
use Rattle.std.proofs.Common.{eq-eqb, inl, inr}
use Rattle.std.specs.Prelude.{nat_le}
use Rattle.std.specs.Ordering.{nat_cmp, ord_max}
use Rattle.std.proofs.lemmas.Grind.{common_steps}
use Rattle.std.specs.List.{flat_map, fold, list_all, list_any, range_with_len}
use Rattle.std.proofs.Math.Bool.{or-false, or-true}
use Rattle.std.proofs.lemmas.Bool.{cases_lt, ne_eqb}
use Rattle.std.proofs.lemmas.List.{take_more}
use Rattle.std.proofs.lemmas.List.Folds.{list_all-append, list_any-append}
use Rattle.std.proofs.lemmas.List.Sums.{fold-append}
use Rattle.dp_base.specs.declared.decimal.Decimal.{Decimal}
use Rattle.dp_base.specs.Decimals.{shortest}
use Rattle.dp_meaning.specs.Scales.{scale_of}
use Rattle.dp_writer.specs.declared.needs.RowNeeds.{RowNeeds}
use Rattle.dp_writer.specs.NeededScales.{AreNeeds, HasDigits}
use Rattle.dp_writer.specs.ModelRows.{each_below}
use Rattle.dp_writer.specs.Writable.{are_writable_rows, is_decimal_cell, is_writable_row, most_digits, row_digits}
use Rattle.dp_writer.specs.Writable.{written_scale}
use Rattle.dp_writer.specs.WrittenModel.{are_equal}
use Rattle.dp_writer.specs.WrittenNumbers.{decimal_over}
use Rattle.dp_writer.proofs.RowCells.{all_fails, each_more}
use Rattle.dp_writer.proofs.WordTexts.{below_more as rows_more}

-- the greater of two numbers, as `max` says it
pub max_is : (a b : ℕ) → ord_max nat_cmp a b ≡ max a b
max_is a b = grind (arith, common_steps)

-- cells behind cells
pub digits_behind : (scale : ℕ) (xs ys : List ℕ) (d e : ℕ) → HasDigits scale xs d → HasDigits scale ys e
    → most_digits scale (xs ++ ys) ≡ max d e → HasDigits scale (xs ++ ys) (max d e)
digits_behind scale xs ys d e a b most = record {
  decimals = list_all-append (is_decimal_cell scale) xs ys ∙ rw (a.decimals, b.decimals) refl;
  most = sym most;
  within = omega (arith, a.within, b.within);
}

-- one cell more
pub digits_more : (scale : ℕ) (xs : List ℕ) (i d e : ℕ) → i < length xs → HasDigits scale (take i xs) d
    → HasDigits scale (get_or xs i 0 ∷ []) e → HasDigits scale (take (i + 1) xs) (max d e)
digits_more scale xs i d e lt a b =
    let x = get_or xs i 0 in
    let whole = take_more xs i 0 lt in
    record {
      decimals = ap (list_all (is_decimal_cell scale)) whole
          ∙ list_all-append (is_decimal_cell scale) (take i xs) (x ∷ []) ∙ rw (a.decimals, b.decimals) refl;
      most = (λ j. max (a.most j) (one j)) ∙ sym (ap (most_digits scale) whole
          ∙ fold-append (λ most n. max most (decimal_over 18 (pos n) scale).digits) 0 (take i xs) (x ∷ []));
      within = omega (arith, a.within, b.within);
    }
  where
    one : e ≡ (decimal_over 18 (pos (get_or xs i 0)) scale).digits
    one = b.most ∙ omega arith

-- rows behind rows
pub needs_behind : (scale : ℕ) (xs ys : List (List ℕ)) (before mid after : RowNeeds) → AreNeeds scale xs before mid
    → AreNeeds scale ys mid after → AreNeeds scale (xs ++ ys) before after
needs_behind scale xs ys before mid after a b = record {
  writable = list_all-append (is_writable_row scale) xs ys ∙ rw (a.writable, b.writable) refl;
  digits = b.digits ∙ ap (λ d. fold (λ most row. max most (row_digits scale row)) d ys) a.digits
      ∙ sym (fold-append (λ most row. max most (row_digits scale row)) before.digits xs ys);
  uniform = b.uniform ∙ ap (λ u. u || list_any are_equal ys) a.uniform
      ∙ or_assoc before.uniform (list_any are_equal xs) (list_any are_equal ys)
      ∙ ap (λ u. before.uniform || u) (sym (list_any-append are_equal xs ys));
  within = b.within;
}
  where
    or_assoc : (x y z : Bool) → ((x || y) || z) ≡ (x || (y || z))
    or_assoc true y z = refl
    or_assoc false y z = refl

-- ---- one cell, one row

-- a cell that is a multiple, by its numbers
pub decimal_cell : (scale n a b : ℕ) → a ≡ n → b ≡ scale → a * 10 ^ 18 % b ≡ 0
    → list_all (is_decimal_cell scale) (n ∷ []) ≡ true
decimal_cell scale n a b e f none =
    let is : n * 10 ^ 18 % scale ≡ 0 = (λ i. sym e i * 10 ^ 18 % sym f i) ∙ none in rw (eq-eqb _ 0 is) refl

pub no_decimal_cell : (scale n a b : ℕ) → a ≡ n → b ≡ scale → a * 10 ^ 18 % b ≢ 0 → is_decimal_cell scale n ≡ false
no_decimal_cell scale n a b e f some = ne_eqb _ 0 (λ is. some ((λ i. e i * 10 ^ 18 % f i) ∙ is))

-- how many fraction digits it has
pub cell_digits_are : (scale n digits : ℕ) (units : ℤ)
    → shortest false (n * 10 ^ 18 / scale) 18 ≡ record { units = units; digits = digits }
    → digits ≡ most_digits scale (n ∷ [])
unfolding decimal_over
cell_digits_are scale n digits units e =
    let is = ap (λ (d : Decimal). d.digits) e in omega (arith, is)

-- a row of equal cells
pub uniform_needs : (scale : ℕ) (cells : List ℕ) (before : RowNeeds) → are_equal cells ≡ true → before.digits ≤ 18
    → AreNeeds scale (cells ∷ []) before (record { digits = before.digits; uniform = true })
uniform_needs scale cells before equal within = record {
  writable = rw equal refl;
  digits = let none : before.digits ≡ max before.digits 0 = omega arith in rw equal none;
  uniform = rw equal (sym (or-true before.uniform));
  within = within;
}

-- a row of decimals
pub decimal_needs : (scale : ℕ) (cells : List ℕ) (before : RowNeeds) (digits : ℕ) → are_equal cells ≡ false
    → before.digits ≤ 18 → HasDigits scale cells digits
    → AreNeeds scale (cells ∷ []) before (record { digits = max before.digits digits; uniform = before.uniform })
decimal_needs scale cells before digits differ within has = record {
  writable = rw (differ, has.decimals) refl;
  digits = rw differ (ap (max before.digits) has.most);
  uniform = rw differ (sym (or-false before.uniform));
  within = omega (arith, within, has.within);
}

-- neither
pub no_needs : (scale : ℕ) (cells : List ℕ) → are_equal cells ≡ false → list_all (is_decimal_cell scale) cells ≡ false
    → list_all (is_writable_row scale) (cells ∷ []) ≡ false
no_needs scale cells differ none = rw (differ, none) refl

-- ---- all rows

-- of no rows nothing is needed
pub none_needed : (scale : ℕ) (before : RowNeeds) → before.digits ≤ 18 → AreNeeds scale [] before before
none_needed scale before within = record {
  writable = refl;
  digits = refl;
  uniform = sym (or-false before.uniform);
  within = within;
}

-- with one row more
pub one_more : (scale : ℕ) (f : ℕ → List ℕ) (n : ℕ) (before mid after : RowNeeds)
    → AreNeeds scale (each_below f n) before mid → AreNeeds scale (f n ∷ []) mid after
    → AreNeeds scale (each_below f (n + 1)) before after
one_more scale f n before mid after a b =
    subst (λ rows. AreNeeds scale rows before after) (sym (each_more f n))
    (needs_behind scale (each_below f n) (f n ∷ []) before mid after a b)

-- with the rows of one number more
pub more_rows : (scale : ℕ) (f : ℕ → List (List ℕ)) (n : ℕ) (before mid after : RowNeeds)
    → AreNeeds scale (flat_map f (range_with_len 0 n)) before mid → AreNeeds scale (f n) mid after
    → AreNeeds scale (flat_map f (range_with_len 0 (n + 1))) before after
more_rows scale f n before mid after a b =
    subst (λ rows. AreNeeds scale rows before after) (sym (rows_more f n))
    (needs_behind scale (flat_map f (range_with_len 0 n)) (f n) before mid after a b)

-- a test of one item
single : (b : Bool) → (b && true) ≡ false → b ≡ false
single true e = absurd cc
single false e = refl

-- one row that cannot be written
pub row_fails : (scale : ℕ) (f : ℕ → List ℕ) (n i : ℕ) → i < n
    → list_all (is_writable_row scale) (f i ∷ []) ≡ false
    → list_all (is_writable_row scale) (each_below f n) ≡ false
row_fails scale f n i lt fails =
    all_fails (is_writable_row scale) f n i lt (single (is_writable_row scale (f i)) fails)

and-false : (b : Bool) → (b && false) ≡ false
and-false true = refl
and-false false = refl

-- among the rows of each number below n
pub rows_fail : (scale : ℕ) (f : ℕ → List (List ℕ)) (n i : ℕ) → i < n
    → list_all (is_writable_row scale) (f i) ≡ false
    → list_all (is_writable_row scale) (flat_map f (range_with_len 0 n)) ≡ false
rows_fail scale f zero i lt fails = absurd (omega (arith, lt))
rows_fail scale f (suc n) i lt fails =
    let more : suc n ≡ n + 1 = omega arith in
    let test = list_all (is_writable_row scale) in
    ap (λ k. test (flat_map f (range_with_len 0 k))) more ∙ ap test (rows_more f n)
    ∙ list_all-append (is_writable_row scale) (flat_map f (range_with_len 0 n)) (f n)
    ∙ elim (cases_lt i n) [
      | inl below ↦ rw (rows_fail scale f n i below fails) refl
      | inr past ↦ (let same : i ≡ n = omega (arith, lt, past) in
          ap (λ b. test (flat_map f (range_with_len 0 n)) && b) (ap (λ k. test (f k)) (sym same) ∙ fails)
          ∙ and-false (test (flat_map f (range_with_len 0 n))))
    ]

-- all rows can be written where the scale is one that a model may have
pub written_where : (scale len : ℕ) (rows : List (List ℕ)) (needs : RowNeeds) (result : Bool)
    → AreNeeds scale rows (record { digits = 0; uniform = false }) needs
    → result ≡ nat_le (scale_of needs.digits needs.uniform len) (2 ^ 62)
    → result ≡ are_writable_rows scale len rows
unfolding written_scale
written_where scale len rows needs result are is =
    is ∙ (λ i. nat_le (scale_of (are.digits i) (are.uniform i) len) (2 ^ 62)) ∙ rw are.writable refl

-- and else not
pub not_written : (scale len : ℕ) (rows : List (List ℕ)) → list_all (is_writable_row scale) rows ≡ false
    → false ≡ are_writable_rows scale len rows
not_written scale len rows fails = rw fails refl
