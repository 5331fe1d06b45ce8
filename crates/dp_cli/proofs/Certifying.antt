-- A call that is done was given all its files, and what its command claims is so.
use Rattle.std.proofs.Common.{◌≡◌, ◌≢◌, ℕ, ◌+◌, List, [], ◌∷◌, ◌++◌, length, map, Option, Some, None, Ok, Vec, IfSome}
use Rattle.std.proofs.Common.{⊎_elim, refl, sym, ap, ◌∙◌, subst, length-append, append_assoc, append-nil}
use Rattle.std.specs.declared.alloc.Global.{Global}
use Rattle.dp_io.specs.declared.shelf.FetchFault.{FetchFault}
use Rattle.dp_io.specs.declared.shelf.FetchFault.TheVariants as faults
use Rattle.dp_io.specs.Shelf.{Contents, ShelfView, Fetches}
use Rattle.dp_io.specs.Sink.{SinkView}
use Rattle.dp_io.proofs.FetchLemmas.{told_fetch}
use Rattle.dp_words.specs.declared.job.Job.{Job}
use Rattle.dp_cli.specs.declared.refusal.FileRole.{FileRole}
use Rattle.dp_cli.specs.declared.status.Status.{Status}
use Rattle.dp_cli.specs.declared.status.Status.TheVariants as statuses
use Rattle.dp_cli.specs.Answer.{Answer}
use Rattle.dp_cli.specs.Causes.{AreGiven, given_entry, Hold, IsCertified}
use Rattle.dp_cli.specs.Command.{Command, File}
use Rattle.dp_cli.specs.Refusal.{most_bytes}
use Rattle.dp_cli.specs.Run.{IsAnswerToFault, Answers, Runs}
use Rattle.dp_cli.proofs.Causes.{after_entry, kept_put, kept_status}
use Rattle.dp_cli.proofs.Commands.{command_is_sound}
use Rattle.dp_cli.proofs.Statuses.{fault_apart}

-- no file is held, wherever the contents are told
hold_none : (told : Option Contents) (number : ℕ) → IfSome told (λ contents. Hold contents number [] [])
hold_none None number = tt
hold_none (Some contents) number = tt

pub none_given : (shelf : ShelfView) → AreGiven [] [] shelf shelf
none_given shelf = record {
  logged = sym (append-nil shelf.log);
  given = sym (append-nil shelf.given);
  held = hold_none shelf.told (length shelf.log);
}

-- one more file is held
hold_more : {old between : ShelfView} (files : List File) (texts : List (List ℕ)) (told : Option Contents)
    (file : File)
    (text : Vec ℕ Global) → old.told ≡ told
    → Fetches old between file.name (most_bytes file.role) (Ok text)
    → IfSome told (λ contents. Hold contents (length old.log + 1) files texts)
    → IfSome told (λ contents. Hold contents (length old.log) (file ∷ files) (text.items ∷ texts))
hold_more files texts None file text e fetched h = tt
hold_more {old} {between} files texts (Some contents) file text e fetched h =
    ⊎_elim
    (λ memory. cc)
    (λ told. (sym told, h))
    (told_fetch old between contents file.name (most_bytes file.role) (Ok text) e fetched)

pub more_given : {old between new : ShelfView} {files : List File} {texts : List (List ℕ)} (file : File)
    (text : Vec ℕ Global) → Fetches old between file.name (most_bytes file.role) (Ok text)
    → AreGiven files texts between new → AreGiven (file ∷ files) (text.items ∷ texts) old new
more_given {old} {between} {new} {files} {texts} file text fetched h =
    let next : length between.log ≡ length old.log + 1 = ap length fetched.logged ∙ simp length-append refl in
    let later = subst (λ (n : ℕ). IfSome between.told (λ contents. Hold contents n files texts)) next h.held in
    let here = subst (λ (told : Option Contents). IfSome told
    (λ contents. Hold contents (length old.log + 1) files texts)) fetched.unchanged later in
    record {
      logged = after_entry old.log between.log new.log (map given_entry files) (given_entry file)
          h.logged fetched.logged;
      given = h.given ∙ ap (λ (given : List (List ℕ)). given ++ texts) fetched.given
          ∙ append_assoc old.given (text.items ∷ []) texts;
      held = hold_more files texts old.told file text refl fetched here;
    }

-- What a command that is done was given, after these texts, and the text that it puts.
record IsWorked (command : Command) (files : List File) (texts : List (List ℕ)) (old new : ShelfView)
    (answer : Answer) : Type 0 where
  more : List (List ℕ)
  given : AreGiven files more old new
  fine : command.fault (texts ++ more) ≡ None
  is_text : command.IsText (texts ++ more) answer.text

fault_not_done : (role : FileRole) (fault : FetchFault) (answer : Answer) → IsAnswerToFault role fault answer
    → answer.status ≢ statuses.Done
fault_not_done role faults.Failed answer why = λ e. cc
fault_not_done role (faults.TooLong count) answer why = λ e. ⊎_elim (λ is. cc) (λ is. cc) why
fault_not_done role faults.Memory answer why = λ e. cc

worked : {command : Command} {files : List File} {texts : List (List ℕ)} {old new : ShelfView} {answer : Answer}
    → Answers command files texts old new answer
    → answer.status ≡ statuses.Done → IsWorked command files texts old new answer
worked {command} {files} {texts} {old} (Answers.works {text = text} fine is) e = record {
  more = [];
  given = none_given old;
  fine = ap command.fault (append-nil texts) ∙ fine;
  is_text = subst (λ (ts : List (List ℕ)). command.IsText ts text) (sym (append-nil texts)) is;
}
worked (Answers.faults fault found) e = absurd ((fault_apart fault).done e)
worked (Answers.lacks file fault fine fetched why) e = absurd (fault_not_done file.role fault _ why e)
worked {command} {files} {texts} {old} {new} {answer} (Answers.goes_on file text fine fetched rest) e =
    let h = worked rest e in
    record {
      more = text.items ∷ h.more;
      given = more_given file text fetched h.given;
      fine = subst (λ (ts : List (List ℕ)). command.fault ts ≡ None)
          (append_assoc texts (text.items ∷ []) h.more)
          h.fine;
      is_text = subst (λ (ts : List (List ℕ)). command.IsText ts answer.text)
          (append_assoc texts (text.items ∷ []) h.more) h.is_text;
    }
worked Answers.wants_memory e = cc

-- A job that is done was given its files, and what its command claims is so.
pub certified : (job : Option Job) (shelf shelf' : ShelfView) (sink sink' : SinkView) (result : Status)
    → Runs job shelf shelf' sink sink' result → result ≡ statuses.Done
    → IsCertified job shelf shelf' sink sink'
certified None shelf shelf' sink sink' result h done =
    let status = sym (kept_status h.puts.reply _ _ h.puts.ended (λ fault. cc)) ∙ done in
    ⊎_elim (λ is. absurd cc) (λ is. absurd cc) h.replies.1
certified (Some job) shelf shelf' sink sink' result h done =
    let status = sym (kept_status h.puts.reply _ _ h.puts.ended (λ fault. cc)) ∙ done in
    let work = worked h.replies status in
    record {
      texts = work.more;
      given = work.given;
      text = h.answer.text;
      put = kept_put h.puts.reply _ _ h.puts.put h.puts.ended (λ fault. cc);
      claims = (command_is_sound job).claims work.more h.answer.text work.fine work.is_text;
    }
