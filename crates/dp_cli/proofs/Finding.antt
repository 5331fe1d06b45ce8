-- The cause of every refusal, over every shelf.
use Rattle.std.proofs.Common.{◌≡◌, ◌≢◌, ℕ, List, [], ◌∷◌, ◌++◌, Option, Some, None, Ok, Err, Vec, IfSome, ⊎_elim}
use Rattle.std.proofs.Common.{refl, ap, ◌∙◌, subst, append_assoc, append-nil}
use Rattle.std.specs.declared.alloc.Global.{Global}
use Rattle.dp_io.specs.declared.shelf.FetchFault.{FetchFault}
use Rattle.dp_io.specs.declared.shelf.FetchFault.TheVariants as faults
use Rattle.dp_io.specs.Shelf.{ShelfView, Fetches}
use Rattle.dp_io.specs.Sink.{SinkView}
use Rattle.dp_words.specs.declared.job.Job.{Job}
use Rattle.dp_cli.specs.declared.refusal.Refusal.{Refusal}
use Rattle.dp_cli.specs.declared.refusal.Refusal.TheVariants as refusals
use Rattle.dp_cli.specs.declared.status.Status.{Status}
use Rattle.dp_cli.specs.declared.status.Status.TheVariants as statuses
use Rattle.dp_cli.specs.Answer.{Answer, IsAnswerOf, refused}
use Rattle.dp_cli.specs.Causes.{IsCause}
use Rattle.dp_cli.specs.Command.{Command, File}
use Rattle.dp_cli.specs.Put.{PutsAnswer}
use Rattle.dp_cli.specs.Refusal.{long_file, most_bytes}
use Rattle.dp_cli.specs.Run.{IsAnswerToFault, Answers, IsFound, Runs}
use Rattle.dp_cli.proofs.Causes.{after_entry, kept_status}
use Rattle.dp_cli.proofs.Certifying.{more_given, none_given}
use Rattle.dp_cli.proofs.Statuses.{answer_status, status_of}

-- the cause, and the answer to it
pub record IsCaused (command : Command) (files : List File) (texts : List (List ℕ)) (old new : ShelfView)
    (answer : Answer) : Type 0 where
  pub refusal : Option Refusal
  pub cause : IsCause command files texts old new refusal
  pub answers : IsAnswerOf refusal (λ text. Unit {0}) answer

-- the same cause, with one file more before it
cause_later : {command : Command} {files : List File} {texts : List (List ℕ)} {old between new : ShelfView}
    {refusal : Option Refusal} (file : File) (text : Vec ℕ Global) → command.fault texts ≡ None
    → Fetches old between file.name (most_bytes file.role) (Ok text)
    → IsCause command files (texts ++ text.items ∷ []) between new refusal
    → IsCause command (file ∷ files) texts old new refusal
cause_later file text fine fetched (IsCause.failed last front rest next logged) =
    IsCause.failed last (file ∷ front) rest (ap (λ (fs : List File). file ∷ fs) next)
    (after_entry _ _ _ _ _ logged fetched.logged)
cause_later file text fine fetched (IsCause.long last count front rest next logged over) =
    IsCause.long last count (file ∷ front) rest (ap (λ (fs : List File). file ∷ fs) next)
    (after_entry _ _ _ _ _ logged fetched.logged) over
cause_later {command} {files} {texts} file text fine fetched
    (IsCause.wrong fault more front rest next given before e) =
    IsCause.wrong fault (text.items ∷ more) (file ∷ front) rest (ap (λ (fs : List File). file ∷ fs) next)
    (more_given file text fetched given)
    (fine, before)
    (subst (λ (ts : List (List ℕ)). command.fault ts ≡ Some fault)
    (append_assoc texts (text.items ∷ []) more) e)
cause_later {command} {files} {texts} file text fine fetched (IsCause.nothing more given before e) =
    IsCause.nothing (text.items ∷ more) (more_given file text fetched given) (fine, before)
    (subst (λ (ts : List (List ℕ)). command.fault ts ≡ None) (append_assoc texts (text.items ∷ []) more) e)

caused_fault : {command : Command} {files : List File} {texts : List (List ℕ)} {old new : ShelfView}
    (answer : Answer)
    (file : File) (fault : FetchFault) → Fetches old new file.name (most_bytes file.role) (Err fault)
    → IsAnswerToFault file.role fault answer → answer.status ≢ statuses.NoMemory
    → IsCaused command (file ∷ files) texts old new answer
caused_fault {files = files} answer file faults.Failed fetched why found =
    record {
      refusal = Some (refusals.Read file.role);
      cause = IsCause.failed file [] files refl fetched.logged;
      answers = why;
    }
caused_fault {files = files} answer file (faults.TooLong count) fetched why found =
    ⊎_elim
    (λ is. record {
      refusal = Some (long_file file.role count);
      cause = IsCause.long file count [] files refl fetched.logged fetched.within;
      answers = is;
    })
    (λ is. absurd (found (status_of is)))
    why
caused_fault answer file faults.Memory fetched why found = absurd (found (status_of why))

pub caused : {command : Command} {files : List File} {texts : List (List ℕ)} {old new : ShelfView}
    {answer : Answer}
    → Answers command files texts old new answer
    → answer.status ≢ statuses.NoMemory → IsCaused command files texts old new answer
caused {command} {files} {texts} {old} (Answers.works fine is) found = record {
  refusal = None;
  cause = IsCause.nothing [] (none_given old) tt (ap command.fault (append-nil texts) ∙ fine);
  answers = (refl, tt);
}
caused {command} {files} {texts} {old} (Answers.faults fault wrong) found = record {
  refusal = Some (refusals.Fault fault);
  cause = IsCause.wrong fault [] [] files refl (none_given old) tt
      (ap command.fault (append-nil texts) ∙ wrong);
  answers = refl;
}
caused (Answers.lacks file fault fine fetched why) found = caused_fault _ file fault fetched why found
caused (Answers.goes_on file text fine fetched rest) found =
    let h = caused rest found in
    record { refusal = h.refusal; cause = cause_later file text fine fetched h.cause; answers = h.answers }
caused Answers.wants_memory found = absurd (found refl)

-- the line of an answer that is refused so
line_put : (refusal : Option Refusal) (answer : Answer) (old new : SinkView) (result : Status)
    → PutsAnswer old new answer result
    → IsAnswerOf refusal (λ text. Unit {0}) answer → IfSome refusal (λ r. PutsAnswer old new (refused r) result)
line_put None answer old new result puts h = tt
line_put (Some refusal) answer old new result puts h = subst (λ (a : Answer). PutsAnswer old new a result)
    h puts

pub found : (job : Option Job) (shelf shelf' : ShelfView) (sink sink' : SinkView) (result : Status)
    → Runs job shelf shelf' sink sink' result
    → result ≢ statuses.WriteFault → result ≢ statuses.NoMemory → IsFound job shelf shelf' sink sink' result
found None shelf shelf' sink sink' result h no_fault memory =
    let kept = kept_status h.puts.reply _ _ h.puts.ended no_fault in
    ⊎_elim
    (λ is. subst (λ (a : Answer). PutsAnswer sink sink' a result) is h.puts)
    (λ is. absurd (memory (kept ∙ status_of is)))
    h.replies.1
found (Some job) shelf shelf' sink sink' result h no_fault memory =
    let kept = kept_status h.puts.reply _ _ h.puts.ended no_fault in
    let why = caused h.replies (λ e. memory (kept ∙ e)) in
    record {
      refusal = why.refusal;
      cause = why.cause;
      status = kept ∙ answer_status why.refusal _ h.answer why.answers;
      line = line_put why.refusal h.answer sink sink' result h.puts why.answers;
    }
