-- The statuses of refusals and of answers.
use Rattle.std.proofs.Common.{◌≡◌, ◌≢◌, ℕ, List, Option, Some, None, refl, ap}
use Rattle.dp_model.specs.declared.limit.TooLarge.{TooLarge}
use Rattle.dp_cli.specs.declared.refusal.JobFault.{JobFault}
use Rattle.dp_cli.specs.declared.refusal.JobFault.TheVariants as job_faults
use Rattle.dp_cli.specs.declared.refusal.Refusal.{Refusal}
use Rattle.dp_cli.specs.declared.status.Status.TheVariants as statuses
use Rattle.dp_cli.specs.Answer.{Answer, IsAnswerOf}
use Rattle.dp_cli.specs.Causes.{status_by}
use Rattle.dp_cli.specs.Refusal.{fault_status}

pub status_of : {answer other : Answer} → answer ≡ other → answer.status ≡ other.status
status_of e = ap (λ (a : Answer). a.status) e

-- the status of something that is wrong with the texts is none of these, and is that of a limit for one alone
pub record IsOfFault (fault : JobFault) : Type 0 where
  pub done : fault_status fault ≢ statuses.Done
  pub usage : fault_status fault ≢ statuses.Usage
  pub read : fault_status fault ≢ statuses.ReadFault
  pub limit : fault_status fault ≡ statuses.TooLarge → (passed : TooLarge)
      × (fault ≡ job_faults.TooLarge passed)

-- each fault has one line here
pub fault_apart : (fault : JobFault) → IsOfFault fault
fault_apart (job_faults.BadModel line column why) = record {
  done = λ e. cc;
  usage = λ e. cc;
  read = λ e. cc;
  limit = λ e. cc;
}
fault_apart (job_faults.BadFile line why) = record {
  done = λ e. cc;
  usage = λ e. cc;
  read = λ e. cc;
  limit = λ e. cc;
}
fault_apart (job_faults.TooLarge passed) = record {
  done = λ e. cc;
  usage = λ e. cc;
  read = λ e. cc;
  limit = λ e. (passed, refl);
}
fault_apart (job_faults.Rejected reason) = record {
  done = λ e. cc;
  usage = λ e. cc;
  read = λ e. cc;
  limit = λ e. cc;
}

-- the status of an answer
pub answer_status : (refusal : Option Refusal) (IsText : List ℕ → Type 0) (answer : Answer)
    → IsAnswerOf refusal IsText answer
    → answer.status ≡ status_by refusal
answer_status (Some refusal) IsText answer h = status_of h
answer_status None IsText answer h = h.0

-- an answer says so of every kind of text that follows
pub answer_as : (refusal : Option Refusal) (Old New : List ℕ → Type 0) (answer : Answer)
    → ((text : List ℕ) → Old text → New text)
    → IsAnswerOf refusal Old answer → IsAnswerOf refusal New answer
answer_as (Some refusal) Old New answer to h = h
answer_as None Old New answer to h = (h.0, to answer.text h.1)
