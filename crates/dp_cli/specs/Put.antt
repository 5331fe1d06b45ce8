-- The one put of a call.
use Rattle.std.specs.Prelude.{◌≡◌, ◌⊎◌, Result, Ok, Err}
use Rattle.dp_io.specs.declared.sink.SinkFailed.{SinkFailed}
use Rattle.dp_io.specs.Sink.{SinkView, Puts}
use Rattle.dp_cli.specs.declared.status.Status.{Status}
use Rattle.dp_cli.specs.declared.status.Status.TheVariants as statuses
use Rattle.dp_cli.specs.declared.refusal.Refusal.{Refusal}
use Rattle.dp_cli.specs.declared.refusal.Refusal.TheVariants as refusals
use Rattle.dp_cli.specs.Answer.{Answer, refused}

-- the status of a call after its put: a put that fails replaces it
abbrev pub status_after : Result (Unit {0}) SinkFailed → Status → Status
status_after (Ok done) status = status
status_after (Err fault) status = statuses.WriteFault

-- One put, of the answer's text. The call ends with the answer's status, unless the put fails.
pub record PutsAnswer (old new : SinkView) (answer : Answer) (result : Status) : Type 0 where
  pub reply : Result (Unit {0}) SinkFailed
  pub put : Puts old new answer.text reply
  pub ended : result ≡ status_after reply answer.status

-- one put, of a refusal's line, or of the line that tells that memory ran out
abbrev pub PutsOrMemory : SinkView → SinkView → Refusal → Status → Type 0
PutsOrMemory old new refusal result = PutsAnswer old new (refused refusal) result ⊎ PutsAnswer old new
    (refused refusals.Memory) result
