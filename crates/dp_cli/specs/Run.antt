-- What a whole call does: the fetches that a command makes, one after the other, and the put of its answer.
use Rattle.std.specs.Prelude.{◌≡◌, ℕ, ◌⊎◌, List, [], ◌∷◌, ◌++◌, Option, Some, None, IfSome, Ok, Err, Vec}
use Rattle.std.specs.declared.alloc.Global.{Global}
use Rattle.dp_io.specs.declared.shelf.FetchFault.{FetchFault}
use Rattle.dp_io.specs.declared.shelf.FetchFault.TheVariants as fetch_faults
use Rattle.dp_io.specs.Shelf.{Contents, ShelfView, Fetches}
use Rattle.dp_io.specs.Sink.{SinkView}
use Rattle.dp_words.specs.declared.job.Job.{Job}
use Rattle.dp_cli.specs.declared.refusal.FileRole.{FileRole}
use Rattle.dp_cli.specs.declared.refusal.JobFault.{JobFault}
use Rattle.dp_cli.specs.declared.refusal.Refusal.{Refusal}
use Rattle.dp_cli.specs.declared.refusal.Refusal.TheVariants as refusals
use Rattle.dp_cli.specs.declared.status.Status.{Status}
use Rattle.dp_cli.specs.Refusal.{most_bytes, long_file}
use Rattle.dp_cli.specs.Answer.{Answer, done, refused, IsAnswerOf}
use Rattle.dp_cli.specs.Causes.{first_refusal, IsCause, IsWorkOver, status_by}
use Rattle.dp_cli.specs.Command.{Command, File}
use Rattle.dp_cli.specs.Commands.{command_of}
use Rattle.dp_cli.specs.Put.{PutsAnswer}

-- What is answered to a file that the shelf did not give. The line of a file that is too long has a
-- number in it, so memory may run out over it; that of a fetch that failed takes no memory.
abbrev pub IsAnswerToFault : FileRole → FetchFault → Answer → Type 0
IsAnswerToFault role fetch_faults.Failed answer = answer ≡ refused (refusals.Read role)
IsAnswerToFault role (fetch_faults.TooLong count) answer =
    (answer ≡ refused (long_file role count)) ⊎ (answer ≡ refused refusals.Memory)
IsAnswerToFault role fetch_faults.Memory answer = answer ≡ refused refusals.Memory

-- How a command that asks for these files next, and has been given these texts, goes on over a shelf,
-- and what it answers in the end.
pub data Answers (command : Command) : List File → List (List ℕ) → ShelfView → ShelfView → Answer → Type 0 where
  -- It has been given all, and nothing is wrong: it does its work.
  works : {texts : List (List ℕ)} {shelf : ShelfView} {text : List ℕ} → command.fault texts ≡ None
      → command.IsText texts text
      → Answers command [] texts shelf shelf (done text)
  -- Something is wrong with what it has been given: it asks for nothing more.
  faults : {files : List File} {texts : List (List ℕ)} {shelf : ShelfView} (fault : JobFault)
      → command.fault texts ≡ Some fault
      → Answers command files texts shelf shelf (refused (refusals.Fault fault))
  -- Its next file is not given.
  lacks : {files : List File} {texts : List (List ℕ)} {shelf shelf' : ShelfView} {answer : Answer} (file : File)
      (fault : FetchFault) → command.fault texts ≡ None
      → Fetches shelf shelf' file.name (most_bytes file.role) (Err fault)
      → IsAnswerToFault file.role fault answer
      → Answers command (file ∷ files) texts shelf shelf' answer
  -- Its next file is given, and it goes on.
  goes_on : {files : List File} {texts : List (List ℕ)} {shelf between shelf' : ShelfView} {answer : Answer}
      (file : File) (text : Vec ℕ Global) → command.fault texts ≡ None
      → Fetches shelf between file.name (most_bytes file.role) (Ok text)
      → Answers command files (texts ++ text.items ∷ []) between shelf' answer
      → Answers command (file ∷ files) texts shelf shelf' answer
  -- Memory runs out.
  wants_memory : {files : List File} {texts : List (List ℕ)} {shelf : ShelfView}
      → Answers command files texts shelf shelf (refused refusals.Memory)

-- a command from its first file on
abbrev pub Does : Command → ShelfView → ShelfView → Answer → Type 0
Does command shelf shelf' answer = Answers command command.files [] shelf shelf' answer

-- what a job does; words that give none are refused before the first fetch
abbrev pub Replies : Option Job → ShelfView → ShelfView → Answer → Type 0
Replies (Some job) shelf shelf' answer = Does (command_of job) shelf shelf' answer
Replies None shelf shelf' answer = (shelf' ≡ shelf) × ((answer ≡ refused refusals.Usage) ⊎
    (answer ≡ refused refusals.Memory))

-- what a call does over a shelf and a sink
pub record Runs (job : Option Job) (shelf shelf' : ShelfView) (sink sink' : SinkView)
    (result : Status) : Type 0 where
  pub answer : Answer
  pub replies : Replies job shelf shelf' answer
  pub puts : PutsAnswer sink sink' answer result

-- What a call answers by the contents of the shelf, where its first fetch has this number: what they
-- determine, or want of memory.
pub record RunsAsTold (contents : Contents) (number : ℕ) (job : Option Job) (sink sink' : SinkView)
    (result : Status) : Type 0 where
  pub answer : Answer
  pub determined : IsAnswerOf (first_refusal contents number job)
      (λ text. IsWorkOver contents number job text) answer
      ⊎ (answer ≡ refused refusals.Memory)
  pub puts : PutsAnswer sink sink' answer result

-- What a command found, over every shelf: the status is that of the cause, whose line was put.
pub record Finds (command : Command) (shelf shelf' : ShelfView) (sink sink' : SinkView)
    (result : Status) : Type 0 where
  pub refusal : Option Refusal
  pub cause : IsCause command command.files [] shelf shelf' refusal
  pub status : result ≡ status_by refusal
  pub line : IfSome refusal (λ r. PutsAnswer sink sink' (refused r) result)

-- the same of a job; words that give none are told as that
abbrev pub IsFound : Option Job → ShelfView → ShelfView → SinkView → SinkView → Status → Type 0
IsFound None shelf shelf' sink sink' result = PutsAnswer sink sink' (refused refusals.Usage) result
IsFound (Some job) shelf shelf' sink sink' result = Finds (command_of job) shelf shelf' sink sink' result
