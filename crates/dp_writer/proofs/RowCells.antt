-- The cells of rows.
use Rattle.std.proofs.Common.{◌≡◌, ℕ, ◌+◌, ◌*◌, ◌^◌, ◌<◌, ◌≤◌, unsigned_abs, Bool, true, false, List, [], ◌∷◌, ◌++◌}
use Rattle.std.proofs.Common.{length, get_or, take}
use Rattle.std.proofs.Common.{refl, ap, ◌∙◌, arith, zero-add}
use Rattle.std.specs.List.{list_all}
use Rattle.std.proofs.lemmas.List.{take_more}
use Rattle.std.proofs.lemmas.List.Folds.{list_all-append, list_all_at}
use Rattle.std.proofs.lemmas.List.FromFn.{get_or-map-range_with_len, length-map-range_with_len}
use Rattle.std.proofs.lemmas.List.FromFn.{map-range_with_len_more}
use Rattle.dp_base.proofs.NaturalSumLaws.{nat_sum_at}
use Rattle.dp_base.proofs.SignificandLaws.{tens_up}
use Rattle.dp_spec.specs.Model.{Model, IsModel, joint_observations, start_at, trans_at, obs_at}
use Rattle.dp_spec.specs.Model.{reward_at}
use Rattle.dp_spec.proofs.ModelLaws.{some_state, some_joint_observation}
use Rattle.dp_writer.specs.declared.rows.ChanceRow.{ChanceRow}
use Rattle.dp_writer.specs.declared.rows.ChanceRow.TheVariants.{Start, Of}
use Rattle.dp_writer.specs.declared.rows.ChanceTable.{ChanceTable}
use Rattle.dp_writer.specs.declared.rows.ChanceTable.TheVariants.{Next, Seen}
use Rattle.dp_writer.specs.ModelRows.{each_below, row_length, cell_at}
use Rattle.dp_writer.specs.ChanceRows.{IsRowOf, cells_of, scale_of_row}

-- ---- lists of what stands at each number below n

pub length_each : {A : Type 0} (f : ℕ → A) (n : ℕ) → length (each_below f n) ≡ n
length_each f n = length-map-range_with_len f 0 n

pub each_at : {A : Type 0} (f : ℕ → A) (n i : ℕ) (d : A) → i < n → get_or (each_below f n) i d ≡ f i
each_at f n i d lt = get_or-map-range_with_len f 0 n i i d lt (zero-add i)

pub each_more : {A : Type 0} (f : ℕ → A) (n : ℕ) → each_below f (n + 1) ≡ each_below f n ++ f n ∷ []
each_more f n = map-range_with_len_more f 0 n n (zero-add n)

-- all pass the test, with one more that does
pub all_more : {A : Type 0} (p : A → Bool) (f : ℕ → A) (n : ℕ) → list_all p (each_below f n) ≡ true → p (f n) ≡ true
    → list_all p (each_below f (n + 1)) ≡ true
all_more p f n all one = ap (list_all p) (each_more f n) ∙ list_all-append p (each_below f n) (f n ∷ [])
    ∙ rw (all, one) refl

-- one fails it
pub all_fails : {A : Type 0} (p : A → Bool) (f : ℕ → A) (n i : ℕ) → i < n → p (f i) ≡ false
    → list_all p (each_below f n) ≡ false
all_fails p f n i lt fails =
    list_all_at p (each_below f n) i (f i) (omega (arith, length_each f n, lt))
    (ap p (each_at f n i (f i) lt) ∙ fails)

-- the same of the first items of a list
pub first_more : (p : ℕ → Bool) (xs : List ℕ) (i : ℕ) → i < length xs → list_all p (take i xs) ≡ true
    → p (get_or xs i 0) ≡ true → list_all p (take (i + 1) xs) ≡ true
first_more p xs i lt all one = ap (list_all p) (take_more xs i 0 lt)
    ∙ list_all-append p (take i xs) (get_or xs i 0 ∷ []) ∙ rw (all, one) refl

-- ---- rows of chances

-- how many cells a row has
abbrev pub length_row : Model → ChanceRow → ℕ
length_row m Start = m.states
length_row m (Of table a s) = row_length m table

pub length_of : (m : Model) (row : ChanceRow) → length (cells_of m row) ≡ length_row m row
length_of m Start = length_each (start_at m) m.states
length_of m (Of table a s) = length_each (cell_at m table a s) (row_length m table)

-- a row of a table has some
pub some_in_table : (m : Model) (table : ChanceTable) → IsModel m → 0 < row_length m table
some_in_table m Next is = some_state m is
some_in_table m Seen is = some_joint_observation m is

-- it has some
pub some_cell : (m : Model) (row : ChanceRow) → IsModel m → 0 < length (cells_of m row)
some_cell m Start is = omega (arith, length_each (start_at m) m.states, some_state m is)
some_cell m (Of table a s) is =
    omega (arith, length_each (cell_at m table a s) (row_length m table), some_in_table m table is)

-- and a scale
pub some_scale : (m : Model) (row : ChanceRow) → IsModel m → 0 < scale_of_row m row
some_scale m Start is = is.scales.start
some_scale m (Of Next a s) is = is.scales.trans
some_scale m (Of Seen a s) is = is.scales.obs

-- no cell is past the scale
pub within_scale : (m : Model) (row : ChanceRow) (i : ℕ) → IsModel m → IsRowOf m row → i < length (cells_of m row)
    → get_or (cells_of m row) i 0 ≤ scale_of_row m row
within_scale m Start i is of lt =
    let below : i < m.states = omega (arith, length_each (start_at m) m.states, lt) in
    omega (arith, each_at (start_at m) m.states i 0 below, nat_sum_at m.states (start_at m) i below, is.rows.start)
within_scale m (Of Next a s) i is of lt =
    let below : i < m.states = omega (arith, length_each (trans_at m a s) m.states, lt) in
    omega (
      arith,
      each_at (trans_at m a s) m.states i 0 below,
      nat_sum_at m.states (trans_at m a s) i below,
      is.rows.trans a s of.0 of.1,
    )
within_scale m (Of Seen a s) i is of lt =
    let n = joint_observations m in
    let below : i < joint_observations m = omega (arith, length_each (obs_at m a s) n, lt) in
    omega (
      arith,
      each_at (obs_at m a s) n i 0 below,
      nat_sum_at n (obs_at m a s) i below,
      is.rows.obs a s of.0 of.1,
    )

-- no reward is past its greatest magnitude
pub reward_within : (m : Model) (a s t o : ℕ) → IsModel m
    → unsigned_abs (reward_at m a s t o) ≤ 10 ^ 8 * m.scales.reward
unfolding reward_at
reward_within m a s t o is = is.tables.reward_limit _

-- the scale of the rewards is at most 10 ^ 9
pub reward_scale : (m : Model) → IsModel m → m.scales.reward ≤ 10 ^ 9
reward_scale m is = let k = is.scales.reward_digits in omega (arith, k.2, tens_up k.0 9 k.1)
