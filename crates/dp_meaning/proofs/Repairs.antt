-- What the repair of a row, and of rows in order, gives.
use Rattle.std.proofs.Common.{◌≡◌, ◌≢◌, inl, inr, ℕ, zero, suc, ◌+◌, ◌*◌, ◌-◌, ◌<◌, ◌≤◌, Bool, true, false, cond}
use Rattle.std.proofs.Common.{List, [], ◌∷◌, ◌++◌, length, get_or, set, refl, sym, ap, subst, ◌∙◌, arith, length-set}
use Rattle.std.proofs.Common.{length-append}
use Rattle.std.proofs.lemmas.Nat.{mul-le}
use Rattle.std.specs.Prelude.{not, ◌==◌, sum, count_by}
use Rattle.std.specs.List.{position_or_len}
use Rattle.std.proofs.lemmas.Bool.Decides.{nat_tests}
use Rattle.std.proofs.lemmas.List.{get_or-set_same, get_or-set_other, get_or_append_left, get_or-append-add}
use Rattle.std.proofs.lemmas.List.Sums.{sum_by-le, sum_by-set, sum_by-cons, passes_at_first}
use Rattle.dp_base.specs.Sums.{nat_sum}
use Rattle.dp_meaning.specs.declared.why.Why.TheVariants.{RowSum}
use Rattle.dp_meaning.specs.Faults.{fault}
use Rattle.dp_meaning.specs.Rows.{Row, Repaired, greatest_cell, greatest_place, repaired_cells, is_near, repair_at}
use Rattle.dp_meaning.specs.Rows.{row_place, repair, repair_all}
use Rattle.dp_meaning.proofs.FaultSteps.{done, ok_same, err_not_ok, bind_ok}
use Rattle.dp_meaning.proofs.Lists.{below_greatest, first_greatest, sum_of_places}
use Rattle.dp_base.proofs.NaturalSumLaws.{nat_sum_ext}
use Rattle.std.proofs.lemmas.Bool.{eqb-true, cases_eq}

-- ---- one row

pub near_parts : (scale total : ℕ) → is_near scale total ≡ true → ((scale - total) + (total - scale)) * 1000 ≤ scale
near_parts scale total e = grind (arith, nat_tests, e)

-- the first of the largest cells of a row holds what is the largest
pub at_greatest : (cells : List ℕ) → 0 < length cells → get_or cells (greatest_place cells) 0 ≡ greatest_cell cells
at_greatest cells some =
    eqb-true _ _ (passes_at_first (λ n. n == greatest_cell cells) cells 0 (first_greatest cells some))

-- what a near row of fewer than a thousand cells has too much can be taken from the largest of them
pub enough_in_greatest : (scale : ℕ) (cells : List ℕ) → length cells < 1000 → is_near scale (sum cells) ≡ true
    → sum cells ≤ greatest_cell cells + scale
enough_in_greatest scale cells short near =
    by (length cells) (greatest_cell cells) (sum cells) short
    (sum_by-le (λ n. n) (greatest_cell cells) cells (below_greatest cells)) (near_parts scale (sum cells) near)
  where
    by : (len greatest total : ℕ) → len < 1000 → total ≤ len * greatest
        → ((scale - total) + (total - scale)) * 1000 ≤ scale → total ≤ greatest + scale
    by len greatest total short most near =
        let times : len * greatest ≤ 999 * greatest = mul-le len greatest 999 greatest (omega arith) (omega arith) in
        omega arith

-- such a row sums to its scale once it is repaired
pub sum_of_repaired : (scale : ℕ) (cells : List ℕ) → length cells < 1000 → is_near scale (sum cells) ≡ true
    → sum (repaired_cells scale cells) ≡ scale
unfolding repaired_cells
sum_of_repaired scale [] short near = let h = near_parts scale 0 near in omega arith
sum_of_repaired scale (x ∷ xs) short near =
    let at = at_greatest (x ∷ xs) (omega arith) in
    let written = sum_by-set (λ n. n) (x ∷ xs) (greatest_place (x ∷ xs))
    (greatest_cell (x ∷ xs) + scale - sum (x ∷ xs)) 0
    (first_greatest (x ∷ xs) (omega arith)) in
    let enough = enough_in_greatest scale (x ∷ xs) short near in
    exact (greatest_cell (x ∷ xs)) (sum (x ∷ xs)) _ _ enough at written
  where
    exact : (greatest total cell new : ℕ) → total ≤ greatest + scale → cell ≡ greatest
        → new + cell ≡ total + (greatest + scale - total) → new ≡ scale
    exact greatest total cell new enough at written = omega arith

-- a repair of a row leaves a cell of 0 as it is
pub zero_of_repaired : (scale : ℕ) (cells : List ℕ) (i : ℕ) → i < length cells → is_near scale (sum cells) ≡ true
    → get_or cells i 0 ≡ 0
    → get_or (repaired_cells scale cells) i 0 ≡ 0
unfolding repaired_cells
zero_of_repaired scale cells i h near none = elim (cases_eq i place) [
  | inl e ↦
      let most = sum_by-le (λ n. n) (greatest_cell cells) cells (below_greatest cells) in
      let greatest : greatest_cell cells ≡ 0 = sym (at_greatest cells (omega arith))
      ∙ ap (λ k. get_or cells k 0) (sym e) ∙ none in
      ap (λ k. get_or (set cells place new) k 0) e ∙ get_or-set_same cells place new 0
      (subst (λ k. k < length cells) e h)
      ∙ nothing (length cells) (greatest_cell cells) scale (sum cells) greatest most
      (near_parts scale (sum cells) near)
  | inr ne ↦ get_or-set_other cells place i new 0 ne ∙ none
]
  where
    place : ℕ
    place = position_or_len (λ n. n == greatest_cell cells) cells

    new : ℕ
    new = greatest_cell cells + scale - sum cells

    nothing : (len greatest scale total : ℕ) → greatest ≡ 0 → total ≤ len * greatest
        → ((scale - total) + (total - scale)) * 1000 ≤ scale
        → greatest + scale - total ≡ 0
    nothing len greatest scale total e most near =
        let times : len * greatest ≡ 0 = ap (λ g. len * g) e ∙ omega arith in omega arith

-- ---- a row that is read

-- the cells of a row that is repaired where it has to be, and whether it was
pub record IsRepair (scale : ℕ) (given : List ℕ) (x : Repaired) : Type 0 where
  pub len : length x.cells ≡ length given
  pub count : x.repaired ≡ cond (not (sum given == scale)) 1 0
  pub sums : length given < 1000 → sum x.cells ≡ scale
  pub zeros : (i : ℕ) → i < length given → get_or given i 0 ≡ 0 → get_or x.cells i 0 ≡ 0
  pub kept : sum given ≡ scale → x.cells ≡ given
  pub near : is_near scale (sum given) ≡ true
  pub others : (i : ℕ) → i ≢ greatest_place given → get_or x.cells i 0 ≡ get_or given i 0

repaired_at : (at scale : ℕ) (given : List ℕ) (x : Repaired) → repair_at at scale given ≡ done x
    → IsRepair scale given x
unfolding repaired_cells
repaired_at at scale given x e = by (sum given == scale) refl (is_near scale (sum given)) refl e
  where
    itself : (n : ℕ) → is_near n n ≡ true
    itself n = let small : ((n - n) + (n - n)) * 1000 ≤ n = omega arith in grind (arith, nat_tests)

    clash : sum given ≡ scale → (sum given == scale) ≡ false → ⊥
    clash h f = grind (arith, nat_tests)

    by : (t : Bool) → (sum given == scale) ≡ t → (n : Bool) → is_near scale (sum given) ≡ n
        → cond t (done (record { cells = given; repaired = 0 }))
        (cond n (done (record { cells = repaired_cells scale given; repaired = 1 })) (fault RowSum at)) ≡ done x
        → IsRepair scale given x
    by true s n m f = let same = ok_same _ x f in subst (IsRepair scale given) same (record {
      len = refl;
      count = ap (λ b. cond (not b) 1 0) (sym s);
      sums = λ h. eqb-true _ _ s;
      zeros = λ i h z. z;
      kept = λ h. refl;
      near = ap (is_near scale) (eqb-true _ _ s) ∙ itself scale;
      others = λ i ne. refl;
    })
    by false s true m f = let same = ok_same _ x f in subst (IsRepair scale given) same (record {
      len = length-set given _ _;
      count = ap (λ b. cond (not b) 1 0) (sym s);
      sums = λ h. sum_of_repaired scale given h m;
      zeros = λ i h z. zero_of_repaired scale given i h m z;
      kept = λ h. absurd (clash h s);
      near = m;
      others = λ i ne. get_or-set_other given (greatest_place given) i (greatest_cell given + scale - sum given) 0 ne;
    })
    by false s false m f = absurd (err_not_ok x _ f)

pub repair_ok : (end : ℕ) (row : Row) (x : Repaired) → repair end row ≡ done x → IsRepair row.scale row.cells x
unfolding repair
repair_ok end row x e = let w = bind_ok (row_place end row.at) _ x e in repaired_at w.0 row.scale row.cells x w.2

-- ---- rows in order

pub repair_all_ok : (end : ℕ) (row : Row) (rows : List Row) (x : Repaired) → repair_all end (row ∷ rows) ≡ done x
    → (first : Repaired) × (others : Repaired) × (repair end row ≡ done first) × (repair_all end rows ≡ done others)
    × (record { cells = first.cells ++ others.cells; repaired = first.repaired + others.repaired } ≡ x)
unfolding repair_all
repair_all_ok end row rows x e =
    let first = bind_ok (repair end row) _ x e in
    let others = bind_ok (repair_all end rows) _ x first.2 in
    (first.0, others.0, first.1, others.1, ok_same _ x others.2)

-- as many rows are repaired as have a sum that is not their scale
pub repaired_count : (end : ℕ) (rows : List Row) (x : Repaired) → repair_all end rows ≡ done x
    → x.repaired ≡ count_by (λ row. not (sum row.cells == row.scale)) rows
unfolding repair_all
repaired_count end [] x e = ap (λ y. y.repaired) (sym (ok_same _ x e))
repaired_count end (row ∷ rows) x e =
    let w = repair_all_ok end row rows x e in
    let here = (repair_ok end row w.0 w.2).count in
    let rest = repaired_count end rows w.1 w.3 in
    let both = sum_by-cons (λ r. cond (not (sum r.cells == r.scale)) 1 0) row rows in
    let all = ap (λ y. y.repaired) w.4 in omega arith

-- the cells of row i of rows of n cells each stand at i * n and behind
pub row_of_all : (end n : ℕ) (rows : List Row) (x : Repaired)
    → ((i : ℕ) (d : Row) → i < length rows → length (get_or rows i d).cells ≡ n)
    → repair_all end rows ≡ done x → (i : ℕ) (d : Row) → i < length rows
    → (y : Repaired) × IsRepair (get_or rows i d).scale (get_or rows i d).cells y ×
    ((j : ℕ) → j < n → get_or x.cells (i * n + j) 0 ≡ get_or y.cells j 0)
row_of_all end n [] x len e i d h = absurd (omega arith)
row_of_all end n (row ∷ rows) x len e zero d h =
    let w = repair_all_ok end row rows x e in
    let is = repair_ok end row w.0 w.2 in (
      w.0,
      is,
      λ j l.
          let at : 0 * n + j ≡ j = omega arith in
          let long : j < length w.0.cells = (let a = is.len in let b = len 0 d h in omega arith) in
          ap (λ y. get_or y.cells (0 * n + j) 0) (sym w.4) ∙ ap (λ k. get_or (w.0.cells ++ w.1.cells) k 0) at
          ∙ get_or_append_left w.0.cells w.1.cells 0 j long,
    )
row_of_all end n (row ∷ rows) x len e (suc i) d h =
    let w = repair_all_ok end row rows x e in
    let is = repair_ok end row w.0 w.2 in
    let rest = row_of_all end n rows w.1 (λ k c l. len (suc k) c (omega arith)) w.3 i d (omega arith) in (
      rest.0,
      rest.1,
      λ j l.
          let at : suc i * n + j ≡ length w.0.cells + (i * n + j) =
          (let a = is.len in let b = len 0 d (omega arith) in behind i n j (length w.0.cells) (a ∙ b)) in
          ap (λ y. get_or y.cells (suc i * n + j) 0) (sym w.4) ∙ ap (λ k. get_or (w.0.cells ++ w.1.cells) k 0) at
          ∙ get_or-append-add w.0.cells w.1.cells _ 0 ∙ rest.2 j l,
    )
  where
    behind : (i n j len : ℕ) → len ≡ n → suc i * n + j ≡ len + (i * n + j)
    behind i n j len f = omega arith

-- and there are no others
pub length_of_all : (end n : ℕ) (rows : List Row) (x : Repaired)
    → ((i : ℕ) (d : Row) → i < length rows → length (get_or rows i d).cells ≡ n)
    → repair_all end rows ≡ done x → length x.cells ≡ length rows * n
unfolding repair_all
length_of_all end n [] x len e = ap (λ y. length y.cells) (sym (ok_same _ x e)) ∙ omega arith
length_of_all end n (row ∷ rows) x len e =
    let w = repair_all_ok end row rows x e in
    let a = (repair_ok end row w.0 w.2).len in
    let b = len 0 row (omega arith) in
    let rest = length_of_all end n rows w.1 (λ k c l. len (suc k) c (omega arith)) w.3 in
    let joined = length-append w.0.cells w.1.cells in
    ap (λ y. length y.cells) (sym w.4) ∙ joined ∙ together (length w.0.cells) (length row.cells) (length w.1.cells)
    (length rows) n a b rest
  where
    together : (first given others count n : ℕ) → first ≡ given → given ≡ n → others ≡ count * n
        → first + others ≡ suc count * n
    together first given others count n a b c = omega arith

-- a row that is read sums to its scale
pub sum_of_row : (n start scale : ℕ) (cells given : List ℕ) (y : Repaired) → IsRepair scale given y → length given ≡ n
    → n < 1000
    → ((j : ℕ) → j < n → get_or cells (start + j) 0 ≡ get_or y.cells j 0)
    → nat_sum n (λ j. get_or cells (start + j) 0) ≡ scale
sum_of_row n start scale cells given y is len short same =
    nat_sum_ext n _ _ same ∙ sum_of_places y.cells n (is.len ∙ len) ∙ is.sums (omega arith)
