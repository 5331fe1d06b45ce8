-- The row of the start.
use Rattle.std.proofs.Common.{◌≡◌, ℕ, zero, suc, ◌+◌, ◌*◌, ◌<◌, true, List, [], ◌∷◌, ◌++◌, length, get_or, map, take}
use Rattle.std.proofs.Common.{drop, refl, sym, ap, ◌∙◌, arith}
use Rattle.std.specs.Prelude.{sum, Option, Some, None, Result, Ok, Err}
use Rattle.std.specs.List.{range_with_len}
use Rattle.std.proofs.lemmas.List.{take_all}
use Rattle.std.proofs.lemmas.List.FromFn.{length-map-range_with_len, map-range_with_len_more}
use Rattle.dp_meaning.specs.declared.header.Start.{Start}
use Rattle.dp_meaning.specs.declared.header.Start.TheVariants.{AnyState, OneState, StartRow}
use Rattle.dp_meaning.specs.declared.text.Text.{Text}
use Rattle.dp_meaning.specs.declared.why.Fault.{Fault}
use Rattle.dp_meaning.specs.declared.why.Why.TheVariants.{RowSum}
use Rattle.dp_meaning.specs.Meaning.{IsSaid}
use Rattle.dp_meaning.specs.Numbers.{is_chance}
use Rattle.dp_meaning.specs.Rows.{Row, Repaired, start_chance, offset_of_start, start_row, repair_all}
use Rattle.dp_meaning.specs.Scales.{scales_of}
use Rattle.dp_meaning.specs.Text.{states_in}
use Rattle.dp_meaning.proofs.Each.{all_from_each}
use Rattle.dp_meaning.proofs.ModelLaws.{text_is}
use Rattle.dp_meaning.proofs.ReadHeader.{IsStart}
use Rattle.dp_tables.specs.Repair.{AreRows, fault_of_row, RepairsRows}
use Rattle.dp_tables.specs.Start.{IsChanceStart}

chance_start : (start : Start) → IsStart start → IsChanceStart start
chance_start AnyState is = tt
chance_start (OneState s) is = tt
chance_start (StartRow at ns) is = all_from_each (λ d. is_chance d ≡ true) ns is

pub start_by_chances : (text : Text) → IsSaid text → IsChanceStart text.header.start
start_by_chances text said = chance_start text.header.start (text_is said.0 text said.1).header.start

pub some_states : (text : Text) (n : ℕ) → IsSaid text → n ≡ states_in text → 0 < n
some_states text n said e = let some = (text_is said.0 text said.1).header.states.some in omega arith

-- the cells of the row of the start, one for each state
pub start_cells : (text : Text) (scale states : ℕ) → scale ≡ (scales_of text).start → states ≡ states_in text
    → map (start_chance scale states text.header.start) (range_with_len 0 states) ≡ (start_row text).cells
unfolding start_row
start_cells text scale states e f =
    ap (λ n. map (start_chance n states text.header.start) (range_with_len 0 states)) e
    ∙ ap (λ n. map (start_chance (scales_of text).start n text.header.start) (range_with_len 0 n)) f

pub start_size : (text : Text) (states : ℕ) (given : List ℕ) → states ≡ states_in text
    → given ≡ (start_row text).cells
    → 1 * states ≡ length given
unfolding start_row
start_size text states given f g =
    let len = ap length g ∙ length-map-range_with_len (start_chance (scales_of text).start
    (states_in text) text.header.start) 0 (states_in text) in
    omega arith

one_row : (scale len : ℕ) (given : List ℕ) (row : Row) → row.cells ≡ given → row.scale ≡ scale → length given ≡ len
    → (at : ℕ) → row.at ≡ Some at → AreRows scale 1 len given (row ∷ [])
one_row scale len given row c s l at e = record {
  size = refl;
  each = λ i d h. cells i d h;
  over = λ i d h. over i d h;
  missing = λ i d h f. never i d h f;
}
  where
    cells : (i : ℕ) (d : Row) → i < 1 → (get_or (row ∷ []) i d).cells ≡ take len (drop (i * len) given)
    cells zero d h =
        let none : 0 ≡ 0 * len = omega arith in
        c ∙ sym (take_all len given (omega arith)) ∙ ap (λ n. take len (drop n given)) none
    cells (suc i) d h = absurd (omega arith)

    over : (i : ℕ) (d : Row) → i < 1 → (get_or (row ∷ []) i d).scale ≡ scale
    over zero d h = s
    over (suc i) d h = absurd (omega arith)

    never : (i : ℕ) (d : Row) → i < 1 → (get_or (row ∷ []) i d).at ≡ None → sum (get_or (row ∷ []) i d).cells ≡ 0
    never zero d h f = absurd (no_place (sym e ∙ f))
      where
        no_place : Some at ≡ None → ⊥
        no_place k = cc
    never (suc i) d h f = absurd (omega arith)

start_is_row : (text : Text) (scale states : ℕ) (given : List ℕ) → scale ≡ (scales_of text).start
    → states ≡ states_in text
    → given ≡ (start_row text).cells → AreRows scale 1 states given (start_row text ∷ [])
unfolding start_row
start_is_row text scale states given e f g =
    one_row scale states given (start_row text) (sym g) (sym e)
    (let size = start_size text states given f g in omega arith) (offset_of_start text.header.start) refl

pub start_done : (text : Text) (scale states : ℕ) (given cells : List ℕ) (repaired : ℕ)
    → scale ≡ (scales_of text).start → states ≡ states_in text
    → given ≡ (start_row text).cells → RepairsRows scale 1 states given cells (Ok repaired) → (end : ℕ)
    → repair_all end (start_row text ∷ []) ≡ Ok (record { cells = cells; repaired = repaired })
start_done text scale states given cells repaired e f g is end =
    is end (start_row text ∷ []) (start_is_row text scale states given e f g)

start_place : (text : Text) → (start_row text).at ≡ Some (offset_of_start text.header.start)
unfolding start_row
start_place text = refl

pub start_failed : (text : Text) (scale states : ℕ) (given cells : List ℕ) (r : ℕ) → scale ≡ (scales_of text).start
    → states ≡ states_in text
    → given ≡ (start_row text).cells → r < 1 → RepairsRows scale 1 states given cells (Err r) → (end : ℕ)
    → repair_all end (start_row text ∷ []) ≡ Err (record { at = offset_of_start text.header.start; why = RowSum })
start_failed text scale states given cells zero e f g h is end =
    let fault : Option ℕ → Result Repaired Fault = λ o. Err (fault_of_row end o) in
    is end (start_row text ∷ []) (start_row text) (start_is_row text scale states given e f g)
    ∙ ap fault (start_place text)
start_failed text scale states given cells (suc r) e f g h is end = absurd (omega arith)

abbrev pub row_sum : ℕ → Result Repaired Fault
row_sum at = Err (record { at = at; why = RowSum })

pub start_fault : (at : ℕ) (start : Start) → at ≡ offset_of_start start → row_sum (offset_of_start start) ≡ row_sum at
start_fault at start e = ap row_sum (sym e)

pub one_more_chance : (f : ℕ → ℕ) (cells more : List ℕ) (n x : ℕ) → cells ≡ map f (range_with_len 0 n) → x ≡ f n
    → more ≡ cells ++ x ∷ []
    → more ≡ map f (range_with_len 0 (n + 1))
one_more_chance f cells more n x e h m =
    m ∙ ap (λ c. c ++ x ∷ []) e ∙ ap (λ y. map f (range_with_len 0 n) ++ y ∷ []) h
    ∙ sym (map-range_with_len_more f 0 n n (omega arith))
