-- The model of the bytes of a file, and what is wrong with bytes that mean none.
use Rattle.std.specs.Prelude.{ℕ, List, Option, Some, None}
use Rattle.dp_spec.specs.Model.{Model}
use Rattle.dp_meaning.specs.Meaning.{FaultAt, Meaning, Means, Passes, ReadModel, meaning}
use Rattle.dp_cli.specs.declared.refusal.JobFault.{JobFault}
use Rattle.dp_cli.specs.declared.refusal.JobFault.TheVariants as job_faults

-- the model of a meaning, where it is one
abbrev pub model_meant : Meaning → Option Model
model_meant (Means read) = Some read.model.model
model_meant (FaultAt place why) = None
model_meant (Passes passed) = None

-- the model that these bytes mean, where they mean one
abbrev pub model_of_text : List ℕ → Option Model
model_of_text bytes = model_meant (meaning bytes)

-- what is wrong with a file by what it means, or else with what was read
abbrev pub read_fault : (ReadModel → Option JobFault) → Meaning → Option JobFault
read_fault fault (FaultAt place why) = Some (job_faults.BadModel place.line place.column why)
read_fault fault (Passes passed) = Some (job_faults.TooLarge passed)
read_fault fault (Means read) = fault read

-- the same, where it is the model alone with which something may be wrong
abbrev pub model_fault : (Model → Option JobFault) → Meaning → Option JobFault
model_fault fault meant = read_fault (λ read. fault read.model.model) meant
