-- The refusals, with the status and the line of each.
use Rattle.std.specs.Prelude.{ℕ, List, ◌++◌, codes, decimal}
use Rattle.dp_io.specs.declared.shelf.FetchFault.{FetchFault}
use Rattle.dp_io.specs.declared.shelf.FetchFault.TheVariants as fetch_faults
use Rattle.dp_lines.specs.declared.why.FileWhy.{FileWhy}
use Rattle.dp_lines.specs.declared.why.FileWhy.TheVariants.{Shape, Number, Range}
use Rattle.dp_model.specs.declared.limit.Limit.{Limit}
use Rattle.dp_model.specs.declared.limit.Limit.TheVariants.{ModelBytes, FileBytes}
use Rattle.dp_model.specs.declared.limit.TooLarge.{TooLarge}
use Rattle.dp_model.specs.Limits.{greatest_allowed, limit_word}
use Rattle.dp_meaning.specs.declared.why.Why.{Why}
use Rattle.dp_meaning.specs.Faults.{why_word}
use Rattle.dp_cert.specs.declared.fault.CertFault.{CertFault}
use Rattle.dp_cert.specs.declared.fault.CertFault.TheVariants as certificate_faults
use Rattle.dp_policy.specs.declared.fault.PolicyFault.{PolicyFault}
use Rattle.dp_policy.specs.declared.fault.PolicyFault.TheVariants as policy_faults
use Rattle.dp_reader.specs.declared.fault.ModelFault.{ModelFault}
use Rattle.dp_reader.specs.declared.fault.ModelFault.TheVariants as model_faults
use Rattle.dp_words.specs.declared.job.WordFault.{WordFault}
use Rattle.dp_words.specs.declared.job.WordFault.TheVariants as word_faults
use Rattle.dp_writer.specs.declared.fault.MakeFault.{MakeFault}
use Rattle.dp_writer.specs.declared.fault.MakeFault.TheVariants as made_faults
use Rattle.dp_cli.specs.declared.refusal.FileRole.{FileRole}
use Rattle.dp_cli.specs.declared.refusal.FileRole.TheVariants.{Model, Second}
use Rattle.dp_cli.specs.declared.refusal.JobFault.{JobFault}
use Rattle.dp_cli.specs.declared.refusal.JobFault.TheVariants as job_faults
use Rattle.dp_cli.specs.declared.refusal.Refusal.{Refusal}
use Rattle.dp_cli.specs.declared.refusal.Refusal.TheVariants as refusals
use Rattle.dp_cli.specs.declared.status.Status.{Status}
use Rattle.dp_cli.specs.ReasonLines.{reason_line}
use Rattle.dp_cli.specs.declared.status.Status.TheVariants as statuses

-- the limit that a file of each role passes where it is longer than it may be
abbrev pub role_limit : FileRole → Limit
role_limit Model = ModelBytes
role_limit Second = FileBytes

-- the most bytes of a file of each role
abbrev pub most_bytes : FileRole → ℕ
most_bytes role = greatest_allowed (role_limit role)

-- a file that is longer than it may be, by its number of bytes
abbrev pub long_file : FileRole → ℕ → Refusal
long_file role count = refusals.Fault (job_faults.TooLarge (record { what = role_limit role; count = count }))

-- a file that was not given
abbrev pub fetch_refusal : FileRole → FetchFault → Refusal
fetch_refusal role fetch_faults.Failed = refusals.Read role
fetch_refusal role (fetch_faults.TooLong count) = long_file role count
fetch_refusal role fetch_faults.Memory = refusals.Memory

-- words that gave no job
abbrev pub word_refusal : WordFault → Refusal
word_refusal word_faults.Usage = refusals.Usage
word_refusal word_faults.Memory = refusals.Memory

-- bytes that mean no model
abbrev pub model_refusal : ModelFault → Refusal
model_refusal (model_faults.At line column why) = refusals.Fault (job_faults.BadModel line column why)
model_refusal (model_faults.TooLarge passed) = refusals.Fault (job_faults.TooLarge passed)
model_refusal model_faults.Memory = refusals.Memory

-- bytes that are no policy
abbrev pub policy_refusal : PolicyFault → Refusal
policy_refusal (policy_faults.At line why) = refusals.Fault (job_faults.BadFile line why)
policy_refusal (policy_faults.TooLarge passed) = refusals.Fault (job_faults.TooLarge passed)
policy_refusal policy_faults.Memory = refusals.Memory

-- bytes that are no certificate
abbrev pub certificate_refusal : CertFault → Refusal
certificate_refusal (certificate_faults.At line why) = refusals.Fault (job_faults.BadFile line why)
certificate_refusal (certificate_faults.TooLarge passed) = refusals.Fault (job_faults.TooLarge passed)
certificate_refusal certificate_faults.Memory = refusals.Memory

-- a model that was not made, or whose text was not written
abbrev pub made_refusal : MakeFault → Refusal
made_refusal (made_faults.TooLarge passed) = refusals.Fault (job_faults.TooLarge passed)
made_refusal made_faults.Memory = refusals.Memory

-- the exit status of what is wrong with the texts of a job
abbrev pub fault_status : JobFault → Status
fault_status (job_faults.BadModel line column why) = statuses.BadModel
fault_status (job_faults.BadFile line why) = statuses.BadFile
fault_status (job_faults.TooLarge passed) = statuses.TooLarge
fault_status (job_faults.Rejected reason) = statuses.Rejected

-- the exit status of each refusal
abbrev pub refusal_status : Refusal → Status
refusal_status refusals.Usage = statuses.Usage
refusal_status (refusals.Read role) = statuses.ReadFault
refusal_status (refusals.Fault fault) = fault_status fault
refusal_status refusals.Memory = statuses.NoMemory

-- the word of a limit that was passed, and the count that passed it
abbrev pub large_line : TooLarge → List ℕ
large_line passed = codes "refused large " ++ limit_word passed.what ++ codes " " ++ decimal passed.count
    ++ codes "\n"

-- what is wrong with a model, and where
abbrev pub model_line : ℕ → ℕ → Why → List ℕ
model_line line column why =
    codes "refused model line " ++ (decimal line ++ (codes " column " ++ (decimal column
    ++ (codes " " ++ (why_word why ++ codes "\n")))))

-- the word of why a line is not as required
abbrev pub line_word : FileWhy → List ℕ
line_word Shape = codes "shape"
line_word Number = codes "number"
line_word Range = codes "range"

-- the first line of a second file that is not as required
abbrev pub file_line : ℕ → FileWhy → List ℕ
file_line line why = codes "refused file line " ++ (decimal line
    ++ (codes " " ++ (line_word why ++ codes "\n")))

-- the number of the fetch that failed
abbrev pub read_line : FileRole → List ℕ
read_line Model = codes "refused read 1\n"
read_line Second = codes "refused read 2\n"

-- the line that tells what is wrong with the texts of a job
abbrev pub fault_line : JobFault → List ℕ
fault_line (job_faults.BadModel line column why) = model_line line column why
fault_line (job_faults.BadFile line why) = file_line line why
fault_line (job_faults.TooLarge passed) = large_line passed
fault_line (job_faults.Rejected reason) = reason_line reason

-- the line that a refusal prints
abbrev pub refusal_line : Refusal → List ℕ
refusal_line refusals.Usage = codes "refused usage\n"
refusal_line (refusals.Read role) = read_line role
refusal_line (refusals.Fault fault) = fault_line fault
refusal_line refusals.Memory = codes "refused memory\n"
