-- The repaired rows of a text.
use Rattle.std.specs.Prelude.{◌≡◌, ℕ, ◌≤◌, ◌^◌, List, [], ◌∷◌, Result, Ok, Err}
use Rattle.dp_meaning.specs.declared.text.Text.{Text}
use Rattle.dp_meaning.specs.declared.why.Fault.{Fault}
use Rattle.dp_meaning.specs.Rows as rows
use Rattle.dp_meaning.specs.Meaning.{repaired_model, table_model}
use Rattle.dp_spec.specs.Model.{Model}
use Rattle.dp_tables.specs.Bounded.{FileText}
use Rattle.dp_reader.specs.declared.repaired.Repaired.{Repaired}
use Rattle.dp_reader.specs.declared.build.Rows.{Rows}
use Rattle.dp_reader.specs.declared.fault.ModelFault.{ModelFault}
use Rattle.dp_reader.specs.declared.fault.ModelFault.TheVariants.{Memory}
use Rattle.dp_reader.specs.Reading.{fault_at}

-- the answer is the fault that is meant, with its place, unless memory ran out
abbrev pub IsFaultOf : {A : Type 0} → List ℕ → Result A Fault → ModelFault → Type 0
IsFaultOf bytes meant Memory = Unit {0}
IsFaultOf bytes meant answer = (fault : Fault) × (meant ≡ Err fault) × (answer ≡ fault_at bytes fault)

-- the cells and the count are what is meant
pub record AreRepaired (meant : Result rows.Repaired Fault) (read : Repaired) : Type 0 where
  pub is : meant ≡ Ok (record { cells = read.cells.items; repaired = read.count })
  pub few : read.count ≤ 2 ^ 16

-- the rows are what is meant, or their fault is, unless memory ran out
abbrev pub ReadsRows : List ℕ → Result rows.Repaired Fault → Result Repaired ModelFault → Type 0
ReadsRows bytes meant (Ok read) = AreRepaired meant read
ReadsRows bytes meant (Err answer) = IsFaultOf bytes meant answer

-- the rows of the start, the transitions and the observations of a text
pub record AreAllRows (end : ℕ) (text : Text) (read : Rows) : Type 0 where
  pub first : AreRepaired (rows.repair_all end (rows.start_row text ∷ [])) read.start
  pub trans : AreRepaired (rows.repair_all end (rows.trans_rows text)) read.transitions
  pub obs : AreRepaired (rows.repair_all end (rows.obs_rows text)) read.observations

-- the model of the text with these rows
abbrev pub model_of_rows : Text → Rows → Model
model_of_rows text rows = table_model text rows.start.cells.items rows.transitions.cells.items
    rows.observations.cells.items

-- all rows are what is meant, or the text's fault is, unless memory ran out
abbrev pub ReadsAllRows : List ℕ → FileText → Result Rows ModelFault → Type 0
ReadsAllRows bytes text (Ok read) = AreAllRows text.end text.text read
ReadsAllRows bytes text (Err answer) = IsFaultOf bytes (repaired_model text.end text.text) answer
