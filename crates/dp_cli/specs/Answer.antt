-- What a call answers.
use Rattle.std.specs.Prelude.{◌≡◌, ℕ, List, Option, Some, None, Result, Ok, Err, Vec}
use Rattle.std.specs.declared.alloc.Global.{Global}
use Rattle.dp_cli.specs.declared.refusal.JobFault.{JobFault}
use Rattle.dp_cli.specs.declared.refusal.Refusal.{Refusal}
use Rattle.dp_cli.specs.declared.refusal.Refusal.TheVariants as refusals
use Rattle.dp_cli.specs.declared.status.Status.{Status}
use Rattle.dp_cli.specs.declared.status.Status.TheVariants as statuses
use Rattle.dp_cli.specs.Refusal.{refusal_status, refusal_line}

-- its status, and the text that it puts
pub record Answer : Type 0 where
  pub status : Status
  pub text : List ℕ

-- the answer of a command that has done its work
abbrev pub done : List ℕ → Answer
done text = record { status = statuses.Done; text = text }

-- the answer of a command that is refused
abbrev pub refused : Refusal → Answer
refused refusal = record { status = refusal_status refusal; text = refusal_line refusal }

-- What a command answers that is refused so, or that does its work where it is not refused: then
-- the text that it puts is of this kind.
abbrev pub IsAnswerOf : Option Refusal → (List ℕ → Type 0) → Answer → Type 0
IsAnswerOf (Some refusal) IsText answer = answer ≡ refused refusal
IsAnswerOf None IsText answer = (answer.status ≡ statuses.Done) × IsText answer.text

-- code that works on a job's texts stops for what is wrong with them, or for want of memory
abbrev pub Stops : Option JobFault → Refusal → Type 0
Stops fault refusals.Usage = ⊥
Stops fault (refusals.Read role) = ⊥
Stops fault (refusals.Fault other) = fault ≡ Some other
Stops fault refusals.Memory = Unit {0}

-- What code gives of a job's texts: what is wrong with them, or else a value of this kind, or memory
-- ran out.
abbrev pub Gives : {T : Type 0} → Option JobFault → (T → Type 0) → Result T Refusal → Type 0
Gives fault IsGood (Ok value) = (fault ≡ None) × IsGood value
Gives fault IsGood (Err refusal) = Stops fault refusal

-- the same of the text that a job puts
abbrev pub GivesText : Option JobFault → (List ℕ → Type 0) → Result (Vec ℕ Global) Refusal → Type 0
GivesText fault IsText result = Gives fault (λ (text : Vec ℕ Global). IsText text.items) result
