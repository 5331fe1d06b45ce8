-- The model of a text, table by table.
use Rattle.std.proofs.Common.{◌≡◌, ℕ, ◌+◌, ◌*◌, ◌<◌, [], ◌∷◌, ◌++◌, length, get_or, refl, sym, ap, subst, ◌∙◌, arith}
use Rattle.std.proofs.Common.{pos, cond}
use Rattle.std.specs.Prelude.{not, ◌==◌, sum}
use Rattle.std.proofs.lemmas.List.{append-nil}
use Rattle.std.proofs.lemmas.List.FromFn.{length-map-range_with_len, get_or-map-range_with_len}
use Rattle.dp_base.specs.Sums.{nat_sum}
use Rattle.dp_meaning.specs.declared.statement.Table.TheVariants.{Trans, Obs, Reward}
use Rattle.dp_meaning.specs.declared.text.Text.{Text}
use Rattle.dp_meaning.specs.Statements.{axes_of}
use Rattle.dp_meaning.specs.Cells.{statements_for, reward_of_cell}
use Rattle.dp_meaning.specs.Text.{states_in, joint_actions_in, joint_observations_in}
use Rattle.dp_meaning.specs.Scales.{scales_of}
use Rattle.dp_meaning.specs.Rows.{Repaired, start_chance, start_row, trans_rows, obs_rows, repair_all}
use Rattle.dp_meaning.specs.Meaning.{table_model, names_given, ReadModel, rewards_of, repaired_model}
use Rattle.dp_meaning.proofs.CellNumbers.{parts_of_cell, cell_below}
use Rattle.dp_meaning.proofs.FaultSteps.{done, ok_same, bind_ok}
use Rattle.dp_meaning.proofs.Repairs.{IsRepair, repair_ok, repair_all_ok}
use Rattle.dp_meaning.proofs.Lists.{sum_of_places}
use Rattle.dp_meaning.proofs.TableRows.{IsTable, table_is}

-- the tables that are read, and how many rows of each were repaired
pub record IsBuilt (end : ℕ) (text : Text) (r : ReadModel) : Type 0 where
  pub start : Repaired
  pub trans : Repaired
  pub obs : Repaired
  pub start_is : repair_all end (start_row text ∷ []) ≡ done start
  pub trans_is : repair_all end (trans_rows text) ≡ done trans
  pub obs_is : repair_all end (obs_rows text) ≡ done obs
  pub model : r.model.model ≡ table_model text start.cells trans.cells obs.cells
  pub names : r.model.names ≡ names_given text.header
  pub repaired : r.repaired ≡ start.repaired + trans.repaired + obs.repaired

pub built_of : (end : ℕ) (text : Text) (r : ReadModel) → repaired_model end text ≡ done r → IsBuilt end text r
unfolding repaired_model
built_of end text r e =
    let start = bind_ok (repair_all end (start_row text ∷ [])) _ r e in
    let trans = bind_ok (repair_all end (trans_rows text)) _ r start.2 in
    let obs = bind_ok (repair_all end (obs_rows text)) _ r trans.2 in
    let same = sym (ok_same _ r obs.2) in
    record {
      start = start.0;
      trans = trans.0;
      obs = obs.0;
      start_is = start.1;
      trans_is = trans.1;
      obs_is = obs.1;
      model = ap (λ x. x.model.model) same;
      names = ap (λ x. x.model.names) same;
      repaired = ap (λ x. x.repaired) same;
    }

pub trans_table : (end : ℕ) (text : Text) (x : Repaired) → repair_all end (trans_rows text) ≡ done x
    → IsTable text Trans (scales_of text).trans (states_in text) x.cells
unfolding trans_rows
trans_table end text x e = table_is end text Trans (scales_of text).trans (states_in text) x e

pub obs_table : (end : ℕ) (text : Text) (x : Repaired) → repair_all end (obs_rows text) ≡ done x
    → IsTable text Obs (scales_of text).obs (joint_observations_in text) x.cells
unfolding obs_rows
obs_table end text x e = table_is end text Obs (scales_of text).obs (joint_observations_in text) x e

length_of_start : (text : Text) → length (start_row text).cells ≡ states_in text
unfolding start_row
length_of_start text = length-map-range_with_len (start_chance (scales_of text).start
    (states_in text) text.header.start) 0 (states_in text)

scale_of_start : (text : Text) → (start_row text).scale ≡ (scales_of text).start
unfolding start_row
scale_of_start text = refl

no_rows : (end : ℕ) (y : Repaired) → repair_all end [] ≡ done y → record { cells = []; repaired = 0 } ≡ y
unfolding repair_all
no_rows end y f = ok_same _ y f

pub start_is_repair : (end : ℕ) (text : Text) (x : Repaired) → repair_all end (start_row text ∷ []) ≡ done x
    → IsRepair (scales_of text).start (start_row text).cells x
start_is_repair end text x e =
    let w = repair_all_ok end (start_row text) [] x e in
    let is = subst (λ n. IsRepair n (start_row text).cells w.0) (scale_of_start text)
    (repair_ok end (start_row text) w.0 w.2) in
    let none = no_rows end w.1 w.3 in
    let cells : w.0.cells ≡ x.cells = sym (append-nil w.0.cells) ∙ ap (λ y. w.0.cells ++ y.cells) none
    ∙ ap (λ y. y.cells) w.4 in
    let others = ap (λ y. y.repaired) none in
    let both = ap (λ y. y.repaired) w.4 in
    let here = is.count in
    let repaired : x.repaired ≡ cond (not (sum (start_row text).cells == (scales_of text).start)) 1 0 = omega arith in
    record {
      len = ap length (sym cells) ∙ is.len;
      count = repaired;
      sums = λ h. ap sum (sym cells) ∙ is.sums h;
      zeros = λ i h z. ap (λ c. get_or c i 0) (sym cells) ∙ is.zeros i h z;
      kept = λ h. sym cells ∙ is.kept h;
      near = is.near;
      others = λ i ne. ap (λ c. get_or c i 0) (sym cells) ∙ is.others i ne;
    }

-- the row of the start sums to its scale
pub sum_of_start : (end : ℕ) (text : Text) (x : Repaired) → states_in text < 1000
    → repair_all end (start_row text ∷ []) ≡ done x
    → (length x.cells ≡ states_in text) × (nat_sum (states_in text) (λ s. get_or x.cells s 0)
    ≡ (scales_of text).start)
sum_of_start end text x short e =
    let is = start_is_repair end text x e in
    let long = is.len ∙ length_of_start text in (
      long,
      sum_of_places x.cells (states_in text) long
          ∙ is.sums (subst (λ n. n < 1000) (sym (length_of_start text)) short),
    )

-- ---- rewards

pub length_of_rewards : (text : Text)
    → length (rewards_of text) ≡ joint_actions_in text * states_in text * states_in text * joint_observations_in text
unfolding rewards_of
length_of_rewards text = length-map-range_with_len _ 0 _

pub reward_of_place : (text : Text) (a s t o : ℕ) → a < joint_actions_in text → s < states_in text
    → t < states_in text
    → o < joint_observations_in text
    → get_or (rewards_of text) (((a * states_in text + s) * states_in text + t) * joint_observations_in text + o)
    (pos 0)
    ≡ reward_of_cell text.header.cost (scales_of text).reward (axes_of text.header Reward)
    (statements_for Reward text.statements)
    (a ∷ s ∷ t ∷ o ∷ [])
unfolding rewards_of
reward_of_place text a s t o ha hs ht ho =
    let at = ((a * states_in text + s) * states_in text + t) * joint_observations_in text + o in
    get_or-map-range_with_len _ 0 _ at at (pos 0) (cell_below (joint_actions_in text) (states_in text)
    (states_in text)
    (joint_observations_in text) a s t o ha hs ht ho) (omega arith)
    ∙ ap (reward_of_cell text.header.cost (scales_of text).reward (axes_of text.header Reward)
    (statements_for Reward text.statements))
    (parts_of_cell (joint_actions_in text) (states_in text) (states_in text)
    (joint_observations_in text) a s t o ha hs ht ho)
