-- The rows of the model that a text means.
use Rattle.std.proofs.Common.{◌≡◌, ℕ, List, [], ◌∷◌, ◌++◌, length, sym, subst, arith, cond}
use Rattle.std.specs.Prelude.{not, ◌==◌, sum, count_by}
use Rattle.std.proofs.lemmas.List.Sums.{sum_by-append}
use Rattle.dp_spec.specs.Model.{joint_actions, joint_observations, start_at, trans_at, obs_at, AreRows}
use Rattle.dp_meaning.specs.declared.statement.Table.TheVariants.{Trans, Obs}
use Rattle.dp_meaning.specs.declared.text.Text.{Text}
use Rattle.dp_meaning.specs.Text.{states_in, joint_observations_in}
use Rattle.dp_meaning.specs.Scales.{scales_of}
use Rattle.dp_meaning.specs.Rows.{start_row, trans_rows, obs_rows}
use Rattle.dp_meaning.specs.Meaning.{table_model, ReadModel, Means, meaning}
use Rattle.dp_meaning.specs.MeaningLaws.{IsMeant, given_rows}
use Rattle.dp_meaning.proofs.Repairs.{repaired_count}
use Rattle.dp_meaning.proofs.TableRows.{sum_of_table_row}
use Rattle.dp_meaning.proofs.Meant.{meant, meant_text}
use Rattle.dp_meaning.proofs.TextLimits.{IsSmall, small}
use Rattle.dp_meaning.proofs.BuiltModel.{IsBuilt, built_of, trans_table, obs_table, sum_of_start}

pub table_model_rows : (end : ℕ) (text : Text) (r : ReadModel) (w : IsBuilt end text r) → IsSmall text
    → AreRows (table_model text w.start.cells w.trans.cells w.obs.cells)
unfolding joint_actions joint_observations start_at trans_at obs_at
table_model_rows end text r w is = record {
  start = (sum_of_start end text w.start (let h = is.states in omega arith) w.start_is).1;
  trans = λ a s ha hs. sum_of_table_row text Trans (scales_of text).trans (states_in text) w.trans.cells
      (trans_table end text w.trans w.trans_is) (let h = is.states in omega arith) a s ha hs;
  obs = λ a t ha ht. sum_of_table_row text Obs (scales_of text).obs (joint_observations_in text) w.obs.cells
      (obs_table end text w.obs w.obs_is) (let h = is.observations in omega arith) a t ha ht;
}

pub rows_sum : (bytes : List ℕ) (r : ReadModel) → meaning bytes ≡ Means r → AreRows r.model.model
rows_sum bytes r e =
    let w = meant bytes r e in
    let parts = built_of (length bytes) w.0 r w.1.model in
    subst AreRows (sym parts.model) (table_model_rows (length bytes) w.0 r parts (small w.0 w.1.within))

pub repaired_rows : (bytes : List ℕ) (text : Text) (r : ReadModel) → IsMeant bytes text r
    → r.repaired ≡ count_by (λ row. not (sum row.cells == row.scale)) (given_rows text)
repaired_rows bytes text r h =
    let w = built_of (length bytes) text r (meant_text bytes text r h).model in
    let start = repaired_count (length bytes) (start_row text ∷ []) w.start w.start_is in
    let trans = repaired_count (length bytes) (trans_rows text) w.trans w.trans_is in
    let obs = repaired_count (length bytes) (obs_rows text) w.obs w.obs_is in
    let first = sum_by-append (λ row. cond (not (sum row.cells == row.scale)) 1 0) (start_row text ∷ [])
    (trans_rows text ++ obs_rows text) in
    let second = sum_by-append (λ row. cond (not (sum row.cells == row.scale)) 1 0) (trans_rows text)
    (obs_rows text) in
    let all = w.repaired in omega arith
