-- The command `print`.
use Rattle.std.specs.Prelude.{◌≡◌, ℕ, List, [], ◌∷◌, length, Option, Some, None}
use Rattle.dp_model.specs.declared.limit.Limit.TheVariants.{TextBytes}
use Rattle.dp_model.specs.Limits.{passed_by}
use Rattle.dp_meaning.specs.Meaning.{Means, ReadModel, meaning}
use Rattle.dp_words.specs.declared.job.PrintJob.{PrintJob}
use Rattle.dp_writer.specs.TableText.{table_text}
use Rattle.dp_cli.specs.declared.refusal.JobFault.{JobFault}
use Rattle.dp_cli.specs.Command.{Command, model_file}
use Rattle.dp_cli.specs.ModelText.{read_fault}
use Rattle.dp_cli.specs.Planned.{large_fault}

-- ---- what may be wrong

-- the limit on the text of a model's tables
abbrev pub table_fault : ReadModel → Option JobFault
table_fault read = large_fault (passed_by TextBytes (length (table_text read.model read.repaired)))

abbrev pub fault_of_print : List (List ℕ) → Option JobFault
fault_of_print (file ∷ []) = read_fault table_fault (meaning file)
fault_of_print texts = None

-- ---- what is put

-- A file means a model, and the text tells its tables, and how many of its rows were repaired.
pub record IsPrintOfText (file text : List ℕ) : Type 0 where
  pub read : ReadModel
  pub meant : meaning file ≡ Means read
  pub tells : text ≡ table_text read.model read.repaired

abbrev pub IsTextOfPrint : List (List ℕ) → List ℕ → Type 0
IsTextOfPrint (file ∷ []) text = IsPrintOfText file text
IsTextOfPrint texts text = ⊥

-- what is put is what is claimed
abbrev pub print_command : PrintJob → Command
print_command job = record {
  files = model_file job.model ∷ [];
  fault = fault_of_print;
  text_limit = Some TextBytes;
  IsText = IsTextOfPrint;
  Claims = IsTextOfPrint;
}
