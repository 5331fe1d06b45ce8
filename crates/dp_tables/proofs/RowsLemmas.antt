-- Rows that are repaired one after the other.
use Rattle.std.proofs.Common.{◌≡◌, ℕ, zero, suc, ◌+◌, ◌*◌, ◌-◌, ◌<◌, ◌≤◌, true, List, [], ◌∷◌, ◌++◌, length, get_or}
use Rattle.std.proofs.Common.{take, drop, refl, sym, ap, subst, ◌∙◌, arith, append_assoc, add-one, length-drop}
use Rattle.std.proofs.Common.{length-take-le}
use Rattle.std.specs.Prelude.{sum, Option, Some, None, Result, Ok, Err}
use Rattle.std.proofs.lemmas.Bool.Decides.{nat_tests}
use Rattle.std.proofs.lemmas.List.{append-nil, take_all, drop-drop}
use Rattle.std.proofs.lemmas.Nat.{mul-le}
use Rattle.std.proofs.lemmas.Slice.{take-put_mid, drop-put_mid}
use borrow.Rule.Slice.PartMut.{put_mid}
use Rattle.dp_meaning.specs.declared.why.Fault.{Fault}
use Rattle.dp_meaning.specs.declared.why.Why.TheVariants.{RowSum}
use Rattle.dp_meaning.specs.Faults.{fault}
use Rattle.dp_meaning.specs.Rows.{Row, Repaired, is_near, repair_at, repair, repair_all}
use Rattle.dp_meaning.proofs.FaultSteps.{done, failed, ok_same}
use Rattle.dp_meaning.proofs.Repairs.{repair_ok, repair_all_ok}
use Rattle.dp_tables.specs.Repair.{RepairsRow, AreRows, fault_of_row, RepairsRows}

-- ---- one row

-- a row of 0s is too far from its scale
none_near : (scale total : ℕ) → total ≡ 0 → 0 < scale → is_near scale total ≡ true → ⊥
none_near scale total none some near =
    let h : ((scale - total) + (total - scale)) * 1000 ≤ scale = grind (arith, nat_tests, near) in omega arith

placed : (end : ℕ) (cells : List ℕ) (scale at : ℕ) (x : Repaired) → repair_at at scale cells ≡ done x
    → repair end (record { cells = cells; scale = scale; at = Some at }) ≡ done x
unfolding repair
placed end cells scale at x e = e

row_done : (end : ℕ) (cells : List ℕ) (scale : ℕ) (o : Option ℕ) (x : Repaired) → 0 < scale
    → (o ≡ None → sum cells ≡ 0)
    → ((at : ℕ) → repair_at at scale cells ≡ done x)
    → repair end (record { cells = cells; scale = scale; at = o }) ≡ done x
row_done end cells scale (Some at) x some missing h = placed end cells scale at x (h at)
row_done end cells scale None x some missing h =
    absurd (none_near scale (sum cells) (missing refl) some
    (repair_ok end _ x (placed end cells scale 0 x (h 0))).near)

row_failed : (end : ℕ) (cells : List ℕ) (scale : ℕ) (o : Option ℕ)
    → ((at : ℕ) → repair_at at scale cells ≡ fault RowSum at)
    → repair end (record { cells = cells; scale = scale; at = o }) ≡ failed (fault_of_row end o)
unfolding repair
row_failed end cells scale (Some at) h = h at
row_failed end cells scale None h = refl

-- ---- rows in order

abbrev joined : Repaired → Repaired → Repaired
joined x y = record { cells = x.cells ++ y.cells; repaired = x.repaired + y.repaired }

same_rows : (x y : Repaired) → x.cells ≡ y.cells → x.repaired ≡ y.repaired → x ≡ y
same_rows x y e f =
    let with_cells : List ℕ → Repaired = λ c. record { cells = c; repaired = x.repaired } in
    let with_count : ℕ → Repaired = λ n. record { cells = y.cells; repaired = n } in ap with_cells e ∙ ap with_count f

no_rows : (end : ℕ) → repair_all end [] ≡ done (record { cells = []; repaired = 0 })
unfolding repair_all
no_rows end = refl

cons_done : (end : ℕ) (row : Row) (rows : List Row) (x y : Repaired) → repair end row ≡ done x
    → repair_all end rows ≡ done y
    → repair_all end (row ∷ rows) ≡ done (joined x y)
unfolding repair_all
cons_done end row rows x y e f = rw e (rw f refl)

cons_failed : (end : ℕ) (row : Row) (rows : List Row) (f : Fault) → repair end row ≡ failed f
    → repair_all end (row ∷ rows) ≡ failed f
unfolding repair_all
cons_failed end row rows f e = rw e refl

later_failed : (end : ℕ) (row : Row) (rows : List Row) (x : Repaired) (f : Fault) → repair end row ≡ done x
    → repair_all end rows ≡ failed f → repair_all end (row ∷ rows) ≡ failed f
unfolding repair_all
later_failed end row rows x f e g = rw e (rw g refl)

joined_none : (x y : Repaired) → record { cells = []; repaired = 0 } ≡ x
    → joined y (record { cells = []; repaired = 0 }) ≡ joined x y
joined_none x y e = same_rows _ _ (append-nil y.cells ∙ ap (λ z. z.cells ++ y.cells) e) (let n =
    ap (λ z. z.repaired) e in omega arith)

one_more : (end : ℕ) (rows : List Row) (i : ℕ) (d : Row) (x y : Repaired) → i < length rows
    → repair_all end (take i rows) ≡ done x
    → repair end (get_or rows i d) ≡ done y → repair_all end (take (suc i) rows) ≡ done (joined x y)
one_more end [] i d x y h before here = absurd (omega arith)
one_more end (row ∷ rows) zero d x y h before here =
    cons_done end row [] y _ here (no_rows end) ∙ ap done (joined_none x y (ok_same _ x (sym (no_rows end) ∙ before)))
one_more end (row ∷ rows) (suc i) d x y h before here =
    let w = repair_all_ok end row (take i rows) x before in
    let rest = one_more end rows i d w.1 y (omega arith) w.3 here in
    cons_done end row (take (suc i) rows) w.0 _ w.2 rest
    ∙ ap done (same_rows _ _ (sym (append_assoc w.0.cells w.1.cells y.cells) ∙ ap (λ z. z.cells ++ y.cells) w.4)
    (let n = ap (λ z. z.repaired) w.4 in omega arith))

first_failed : (end : ℕ) (rows : List Row) (i : ℕ) (d : Row) (x : Repaired) (f : Fault) → i < length rows
    → repair_all end (take i rows) ≡ done x → repair end (get_or rows i d) ≡ failed f → repair_all end rows ≡ failed f
first_failed end [] i d x f h before here = absurd (omega arith)
first_failed end (row ∷ rows) zero d x f h before here = cons_failed end row rows f here
first_failed end (row ∷ rows) (suc i) d x f h before here =
    let w = repair_all_ok end row (take i rows) x before in
    later_failed end row rows w.0 f w.2 (first_failed end rows i d w.1 f (omega arith) w.3 here)

-- ---- the rows of cells, of which those below i are repaired

pub record RowsDone (scale count len : ℕ) (given : List ℕ) (i : ℕ) (cells : List ℕ) (repaired : ℕ) : Type 0 where
  pub few : repaired ≤ i
  pub rest : drop (i * len) cells ≡ drop (i * len) given
  pub front : (end : ℕ) (rows : List Row) → AreRows scale count len given rows
      → repair_all end (take i rows) ≡ done (record { cells = take (i * len) cells; repaired = repaired })

pub none_done : (scale count len : ℕ) (given : List ℕ) → RowsDone scale count len given 0 given 0
none_done scale count len given = record {
  few = omega arith;
  rest = refl;
  front = λ end rows are.
      no_rows end ∙ ap done (same_rows _ _ (let none : 0 ≡ 0 * len = omega arith in
      ap (λ n. take n given) none) refl);
}

row_at : (end scale count len : ℕ) (given : List ℕ) (rows : List Row) (i : ℕ) (d : Row) (x : Result Repaired Fault)
    → AreRows scale count len given rows
    → i < length rows
    → repair end (record { cells = take len (drop (i * len) given); scale = scale; at = (get_or rows i d).at }) ≡ x
    → repair end (get_or rows i d) ≡ x
row_at end scale count len given rows i d x are h e =
    ap (λ r. repair end r) (same (get_or rows i d) _ _ (are.each i d h) (are.over i d h)) ∙ e
  where
    same : (r : Row) (cells : List ℕ) (scale : ℕ) → r.cells ≡ cells → r.scale ≡ scale
        → r ≡ record { cells = cells; scale = scale; at = r.at }
    same r cells scale e f =
        let with_cells : List ℕ → Row = λ c. record { cells = c; scale = r.scale; at = r.at } in
        let with_scale : ℕ → Row = λ n. record { cells = cells; scale = n; at = r.at } in
        ap with_cells e ∙ ap with_scale f

-- what a step reads and what it leaves
part : (len i : ℕ) (given cells : List ℕ) → drop (i * len) cells ≡ drop (i * len) given
    → take (i * len + len - i * len) (drop (i * len) cells) ≡ take len (drop (i * len) given)
part len i given cells e =
    let n : i * len + len - i * len ≡ len = omega arith in
    ap (λ m. take m (drop (i * len) cells)) n ∙ ap (take len) e

-- a row stands within the rows together
pub row_within : (i len n : ℕ) → i < n → i * len + len ≤ n * len
row_within i len n h =
    let times : (i + 1) * len ≤ n * len = mul-le (i + 1) len n len (omega arith) (omega arith) in omega arith

pub one_done : (scale count len : ℕ) (given : List ℕ) (i : ℕ) (cells : List ℕ) (repaired : ℕ) (row : List ℕ) (n : ℕ)
    → RowsDone scale count len given i cells repaired → i < count → count * len ≡ length given → 0 < scale
    → length cells ≡ length given
    → length row ≡ length (take (i * len + len - i * len) (drop (i * len) cells)) → n ≤ 1
    → RepairsRow scale (take (i * len + len - i * len) (drop (i * len) cells)) row (Some n)
    → RowsDone scale count len given (i + 1) (put_mid (i * len) (i * len + len - i * len) cells row) (repaired + n)
one_done scale count len given i cells repaired row n before h size some same long few is = record {
  few = let most = before.few in omega arith;
  rest = drop-put_mid (i * len) (i * len + len - i * len) cells row ((i + 1) * len) (omega arith) within (row_length
      ∙ length_is)
      ∙ further;
  front = λ end rows are.
      let is_row = row_done end (take len (drop (i * len) given)) scale (get_or rows i some_row).at
      (record { cells = row; repaired = n }) some
      (λ o. ap sum (sym (are.each i some_row (here rows are))) ∙ are.missing i some_row (here rows are) o)
      (λ at. ap (repair_at at scale) (sym (part len i given cells before.rest)) ∙ is at) in
      ap (λ k. repair_all end (take k rows)) (add-one i)
      ∙ one_more end rows i some_row _ _ (here rows are) (before.front end rows are)
      (row_at end scale count len given rows i some_row _ are (here rows are) is_row)
      ∙ ap done (same_rows _ _ (sym (take-put_mid (i * len) (i * len + len - i * len) cells row ((i + 1) * len)
      (let h = row_length in omega arith) within)) refl);
}
  where
    some_row : Row
    some_row = record { cells = []; scale = 0; at = None }

    here : (rows : List Row) → AreRows scale count len given rows → i < length rows
    here rows are = subst (λ n. i < n) (sym are.size) h

    fits : i * len + len ≤ length cells
    fits = let within = row_within i len count h in omega arith

    within : i * len ≤ length cells
    within = let h = fits in omega arith

    length_is : len ≡ i * len + len - i * len
    length_is = omega arith

    row_length : length row ≡ len
    row_length =
        let h = fits in
        let rest : i * len + len - i * len ≤ length (drop (i * len) cells) =
        omega (arith, length-drop (i * len) cells) in
        long ∙ length-take-le (i * len + len - i * len) (drop (i * len) cells) rest ∙ sym length_is

    further : drop ((i + 1) * len) cells ≡ drop ((i + 1) * len) given
    further = let n : (i + 1) * len ≡ i * len + len = omega arith in
        ap (λ k. drop k cells) n ∙ sym (drop-drop len (i * len) cells) ∙ ap (drop len) before.rest
        ∙ drop-drop len (i * len) given ∙ ap (λ k. drop k given) (sym n)

pub one_failed : (scale count len : ℕ) (given : List ℕ) (i : ℕ) (cells : List ℕ) (repaired : ℕ)
    → RowsDone scale count len given i cells repaired → i < count
    → ((at : ℕ) → repair_at at scale (take (i * len + len - i * len) (drop (i * len) cells)) ≡ fault RowSum at)
    → RepairsRows scale count len given cells (Err i)
one_failed scale count len given i cells repaired before h is end rows d are =
    let here : i < length rows = subst (λ n. i < n) (sym are.size) h in
    first_failed end rows i d _ _ here (before.front end rows are)
    (row_at end scale count len given rows i d _ are here
    (row_failed end _ scale _ (λ at. ap (repair_at at scale) (sym (part len i given cells before.rest)) ∙ is at)))

pub all_done : (scale count len : ℕ) (given : List ℕ) (i : ℕ) (cells : List ℕ) (repaired : ℕ)
    → RowsDone scale count len given i cells repaired → i ≡ count → count * len ≡ length given
    → length cells ≡ length given
    → RepairsRows scale count len given cells (Ok repaired)
all_done scale count len given i cells repaired before end_is size same end rows are =
    ap (repair_all end) (sym (take_all i rows (let n = are.size in omega arith))) ∙ before.front end rows are
    ∙ ap done (same_rows _ _ (ap (λ n. take (n * len) cells) end_is
    ∙ take_all (count * len) cells (omega arith)) refl)
