-- The command `make`.
use Rattle.std.specs.Prelude.{◌≡◌, ℕ, List, [], length, Option, Some, None}
use Rattle.dp_spec.specs.Model.{IsModel}
use Rattle.dp_model.specs.declared.limit.Limit.TheVariants.{ModelBytes}
use Rattle.dp_model.specs.Limits.{passed_by}
use Rattle.dp_model.specs.Tables.{NamedModel}
use Rattle.dp_words.specs.declared.job.MakeJob.{MakeJob}
use Rattle.dp_writer.specs.WrittenModel.{written_model}
use Rattle.dp_cli.specs.declared.refusal.JobFault.{JobFault}
use Rattle.dp_cli.specs.Command.{Command}
use Rattle.dp_cli.specs.MadeJobs.{made_for, made_or}
use Rattle.dp_cli.specs.Planned.{large_fault}

-- ---- what may be wrong

-- the limit on the text of a model
abbrev pub written_fault : NamedModel → Option JobFault
written_fault m = large_fault (passed_by ModelBytes (length (written_model m)))

abbrev pub fault_of_make : MakeJob → List (List ℕ) → Option JobFault
fault_of_make job [] = made_or written_fault job
fault_of_make job texts = None

-- ---- what is put

-- The text is that of a model.
pub record IsWrittenText (m : NamedModel) (text : List ℕ) : Type 0 where
  pub is_model : IsModel m.model
  pub tells : text ≡ written_model m

-- the text is that of the model which is made of the sizes by the words of the seed
abbrev pub IsTextOfMake : MakeJob → List (List ℕ) → List ℕ → Type 0
IsTextOfMake job [] text = IsWrittenText (made_for job) text
IsTextOfMake job texts text = ⊥

-- what is put is what is claimed
abbrev pub make_command : MakeJob → Command
make_command job = record {
  files = [];
  fault = fault_of_make job;
  text_limit = Some ModelBytes;
  IsText = IsTextOfMake job;
  Claims = IsTextOfMake job;
}
