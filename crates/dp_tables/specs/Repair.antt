-- What the repair of rows in place leaves.
use Rattle.std.specs.Prelude.{◌≡◌, ℕ, ◌*◌, ◌<◌, List, length, take, drop, get_or, sum, Option, Some, None, Result, Ok}
use Rattle.std.specs.Prelude.{Err}
use Rattle.dp_meaning.specs.declared.why.Fault.{Fault}
use Rattle.dp_meaning.specs.declared.why.Why.TheVariants.{RowSum, MissingRow}
use Rattle.dp_meaning.specs.Faults.{fault}
use Rattle.dp_meaning.specs.Rows.{Row, Repaired, repair_at, repair_all}

-- ---- one row

-- the row is repaired so many times, or its sum is too far from its scale, wherever that is answered
abbrev pub RepairsRow : ℕ → List ℕ → List ℕ → Option ℕ → Type 0
RepairsRow scale given cells (Some count) =
    (at : ℕ) → repair_at at scale given ≡ Ok (record { cells = cells; repaired = count })
RepairsRow scale given cells None = (at : ℕ) → repair_at at scale given ≡ fault RowSum at

-- ---- rows in order

-- these are the rows, so many of so many cells each, whose cells stand one after the other
pub record AreRows (scale count len : ℕ) (given : List ℕ) (rows : List Row) : Type 0 where
  pub size : length rows ≡ count
  pub each : (i : ℕ) (d : Row) → i < length rows → (get_or rows i d).cells ≡ take len (drop (i * len) given)
  pub over : (i : ℕ) (d : Row) → i < length rows → (get_or rows i d).scale ≡ scale
  pub missing : (i : ℕ) (d : Row) → i < length rows → (get_or rows i d).at ≡ None → sum (get_or rows i d).cells ≡ 0

-- what is wrong with a row whose sum is
abbrev pub fault_of_row : ℕ → Option ℕ → Fault
fault_of_row end (Some at) = record { at = at; why = RowSum }
fault_of_row end None = record { at = end; why = MissingRow }

-- the rows are repaired so many times, or row i is the first that cannot be
abbrev pub RepairsRows : ℕ → ℕ → ℕ → List ℕ → List ℕ → Result ℕ ℕ → Type 0
RepairsRows scale count len given cells (Ok repaired) =
    (end : ℕ) (rows : List Row) → AreRows scale count len given rows
    → repair_all end rows ≡ Ok (record { cells = cells; repaired = repaired })
RepairsRows scale count len given cells (Err i) =
    (end : ℕ) (rows : List Row) (d : Row) → AreRows scale count len given rows
    → repair_all end rows ≡ Err (fault_of_row end (get_or rows i d).at)

-- ---- rows whose faults are told

-- the cells are what is meant by the repair of their rows, of which so many were repaired, or the fault is
abbrev pub Repairs : Result Repaired Fault → List ℕ → Result ℕ Fault → Type 0
Repairs meant cells (Ok repaired) = meant ≡ Ok (record { cells = cells; repaired = repaired })
Repairs meant cells (Err fault) = meant ≡ Err fault
