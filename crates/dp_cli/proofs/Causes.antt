-- Plain facts that follow from how a command goes on.
use Rattle.std.proofs.Common.{◌≡◌, ◌≢◌, ◌<◌, ◌↔◌, ℕ, ◌+◌, List, [], ◌∷◌, ◌++◌, map, cond, Option, Some, None, Result}
use Rattle.std.proofs.Common.{Ok, Err, ⊎_elim, refl, sym, ap, ◌∙◌, arith, append_assoc, append-nil}
use Rattle.std.proofs.lemmas.List.Sums.{sum_by-append}
use Rattle.dp_io.specs.declared.shelf.Ending.TheVariants.{Failed}
use Rattle.dp_io.specs.declared.shelf.FetchFault.{FetchFault}
use Rattle.dp_io.specs.declared.shelf.FetchFault.TheVariants as faults
use Rattle.dp_io.specs.Shelf.{Entry, ShelfView, Fetches, is_failed, fault_count}
use Rattle.dp_io.specs.declared.sink.SinkFailed.{SinkFailed}
use Rattle.dp_io.specs.Sink.{SinkView, Puts}
use Rattle.dp_words.specs.declared.job.Job.{Job}
use Rattle.dp_cli.specs.declared.refusal.FileRole.{FileRole}
use Rattle.dp_cli.specs.declared.status.Status.{Status}
use Rattle.dp_cli.specs.declared.status.Status.TheVariants.{ReadFault}
use Rattle.dp_cli.specs.declared.status.Status.TheVariants as statuses
use Rattle.dp_cli.specs.Answer.{Answer}
use Rattle.dp_cli.specs.Causes.{files_of, LogsFirstOf, LastFailed}
use Rattle.dp_cli.specs.Command.{Command, File}
use Rattle.dp_cli.specs.Put.{status_after}
use Rattle.dp_cli.specs.Run.{IsAnswerToFault, Answers, Replies, Runs}
use Rattle.dp_cli.proofs.Statuses.{fault_apart, status_of}

-- a command leaves what the shelf holds, and which fetches fail
unchanged : {command : Command} {files : List File} {texts : List (List ℕ)} {old new : ShelfView}
    {answer : Answer}
    → Answers command files texts old new answer
    → new.told ≡ old.told
unchanged (Answers.works fine is) = refl
unchanged (Answers.faults fault found) = refl
unchanged (Answers.lacks file fault fine fetched why) = fetched.unchanged
unchanged (Answers.goes_on file text fine fetched rest) = unchanged rest ∙ fetched.unchanged
unchanged Answers.wants_memory = refl

pub contents_unchanged : (job : Option Job) (old new : ShelfView) (answer : Answer) → Replies job old new answer
    → new.told ≡ old.told
contents_unchanged None old new answer h = ap (λ (s : ShelfView). s.told) h.0
contents_unchanged (Some job) old new answer h = unchanged h

-- The fetches that are appended, by the files that are asked for

one_fetched : {old new : List Entry} {left : List (List ℕ)} (entry : Entry) → new ≡ old ++ entry ∷ []
    → LogsFirstOf (entry.name ∷ left) old new
one_fetched {old} {new} {left} entry logged = record {
  fetched = entry ∷ [];
  appended = logged;
  rest = left;
  names = refl;
}

none_fetched : {old new : List Entry} {files : List (List ℕ)} → new ≡ old ++ [] → LogsFirstOf files old new
none_fetched {old} {new} {files} logged = record { fetched = []; appended = logged; rest = files; names = refl }

fault_fetched : {old new : ShelfView} {left : List (List ℕ)} {name : List ℕ} {most : ℕ} (fault : FetchFault)
    → Fetches old new name most (Err fault) → LogsFirstOf (name ∷ left) old.log new.log
fault_fetched faults.Failed fetched = one_fetched _ fetched.logged
fault_fetched (faults.TooLong count) fetched = one_fetched _ fetched.logged
fault_fetched faults.Memory fetched = none_fetched fetched.logged

-- an entry, and what is appended after it
pub after_entry : (old between new more : List Entry) (entry : Entry) → new ≡ between ++ more
    → between ≡ old ++ entry ∷ [] → new ≡ old ++ entry ∷ more
after_entry old between new more entry grown logged = grown ∙ ap (λ (log : List Entry). log ++ more) logged
    ∙ append_assoc old (entry ∷ []) more

more_fetched : {old between new : List Entry} {left : List (List ℕ)} (entry : Entry)
    → between ≡ old ++ entry ∷ []
    → LogsFirstOf left between new → LogsFirstOf (entry.name ∷ left) old new
more_fetched {old} {between} {new} {left} entry logged h =
    record {
      fetched = entry ∷ h.fetched;
      appended = after_entry _ _ _ _ entry h.appended logged;
      rest = h.rest;
      names = ap (λ (names : List (List ℕ)). entry.name ∷ names) h.names;
    }

logs : {command : Command} {files : List File} {texts : List (List ℕ)} {old new : ShelfView} {answer : Answer}
    → Answers command files texts old new answer
    → LogsFirstOf (map (λ (file : File). file.name) files) old.log new.log
logs (Answers.works fine is) = none_fetched (sym (append-nil _))
logs (Answers.faults fault found) = none_fetched (sym (append-nil _))
logs (Answers.lacks file fault fine fetched why) = fault_fetched fault fetched
logs (Answers.goes_on file text fine fetched rest) = more_fetched _ fetched.logged (logs rest)
logs Answers.wants_memory = none_fetched (sym (append-nil _))

pub logs_files : (job : Option Job) (old new : ShelfView) (answer : Answer) → Replies job old new answer
    → LogsFirstOf (files_of job) old.log new.log
logs_files None old new answer h = none_fetched (ap (λ (s : ShelfView). s.log) h.0 ∙ sym (append-nil _))
logs_files (Some job) old new answer h = logs h

-- A read fault is answered where the last of them failed

later_failed : {old between new : List Entry} (entry : Entry) → between ≡ old ++ entry ∷ []
    → LastFailed between new
    → LastFailed old new
later_failed entry logged h = record {
  before = entry ∷ h.before;
  name = h.name;
  appended = after_entry _ _ _ _ entry h.appended logged;
}

fault_failed : {old new : ShelfView} {name : List ℕ} {most : ℕ} (answer : Answer) (role : FileRole)
    (fault : FetchFault) → Fetches old new name most (Err fault)
    → IsAnswerToFault role fault answer → answer.status ≡ ReadFault → LastFailed old.log new.log
fault_failed {name = name} answer role faults.Failed fetched why e =
    record { before = []; name = name; appended = fetched.logged }
fault_failed answer role (faults.TooLong count) fetched why e = ⊎_elim (λ is. cc) (λ is. cc) why
fault_failed answer role faults.Memory fetched why e = cc

read_fault_failed : {command : Command} {files : List File} {texts : List (List ℕ)} {old new : ShelfView}
    {answer : Answer}
    → Answers command files texts old new answer
    → answer.status ≡ ReadFault → LastFailed old.log new.log
read_fault_failed (Answers.works fine is) e = cc
read_fault_failed (Answers.faults fault found) e = absurd ((fault_apart fault).read e)
read_fault_failed (Answers.lacks file fault fine fetched why) e = fault_failed _ file.role fault fetched why e
read_fault_failed (Answers.goes_on file text fine fetched rest) e = later_failed _ fetched.logged
    (read_fault_failed rest e)
read_fault_failed Answers.wants_memory e = cc

-- how a list of entries adds to the count of faults
count_more : (old more : List Entry) → fault_count (old ++ more) ≡ fault_count old + fault_count more
count_more old more = sum_by-append (λ entry. cond (is_failed entry) 1 0) old more

last_counts : {old new : List Entry} → LastFailed old new → fault_count old < fault_count new
last_counts {old} {new} h =
    let last : List Entry = record { name = h.name; ending = Failed } ∷ [] in
    let grown : fault_count new ≡ fault_count old + (fault_count h.before + 1) =
    ap fault_count h.appended ∙ count_more old (h.before ++ last)
    ∙ ap (λ (n : ℕ). fault_count old + n) (count_more h.before last) in
    omega arith

fault_counts : {old new : ShelfView} {name : List ℕ} {most : ℕ} (answer : Answer) (role : FileRole)
    (fault : FetchFault) → Fetches old new name most (Err fault)
    → IsAnswerToFault role fault answer → fault_count old.log < fault_count new.log → answer.status ≡ ReadFault
fault_counts answer role faults.Failed fetched why h = ap (λ (a : Answer). a.status) why
fault_counts {old} answer role (faults.TooLong count) fetched why h =
    let same = ap fault_count fetched.logged ∙ count_more old.log _ in
    absurd (omega arith)
fault_counts {old} answer role faults.Memory fetched why h =
    let same = ap fault_count fetched.logged ∙ count_more old.log _ in
    absurd (omega arith)

count_read_fault : {command : Command} {files : List File} {texts : List (List ℕ)} {old new : ShelfView}
    {answer : Answer}
    → Answers command files texts old new answer
    → fault_count old.log < fault_count new.log → answer.status ≡ ReadFault
count_read_fault (Answers.works fine is) h = absurd (omega arith)
count_read_fault (Answers.faults fault found) h = absurd (omega arith)
count_read_fault (Answers.lacks file fault fine fetched why) h = fault_counts _ file.role fault fetched why h
count_read_fault {old = old} (Answers.goes_on file text fine fetched rest) h =
    let same = ap fault_count fetched.logged ∙ count_more old.log _ in
    count_read_fault rest (omega arith)
count_read_fault Answers.wants_memory h = absurd (omega arith)

job_failed : (job : Option Job) (old new : ShelfView) (answer : Answer) → Replies job old new answer
    → answer.status ≡ ReadFault → LastFailed old.log new.log
job_failed None old new answer h e = ⊎_elim (λ is. cc) (λ is. cc) h.1
job_failed (Some job) old new answer h e = read_fault_failed h e

failed_job : (job : Option Job) (old new : ShelfView) (answer : Answer) → Replies job old new answer
    → LastFailed old.log new.log → answer.status ≡ ReadFault
failed_job None old new answer h last =
    let rises = last_counts last in
    let same = ap (λ (s : ShelfView). fault_count s.log) h.0 in
    absurd (omega arith)
failed_job (Some job) old new answer h last = count_read_fault h (last_counts last)

-- the status of a call whose put did not fail
pub kept_status : (reply : Result (Unit {0}) SinkFailed) (status result : Status)
    → result ≡ status_after reply status
    → result ≢ statuses.WriteFault → result ≡ status
kept_status (Ok done) status result ended h = ended
kept_status (Err fault) status result ended h = absurd (h ended)

-- it put the text of its answer
pub kept_put : (reply : Result (Unit {0}) SinkFailed) {old new : SinkView} {text : List ℕ}
    (status result : Status)
    → Puts old new text reply → result ≡ status_after reply status → result ≢ statuses.WriteFault
    → Puts {T = Unit {0}} {E = SinkFailed} old new text (Ok tt)
kept_put (Ok done) status result put ended h = put
kept_put (Err fault) status result put ended h = absurd (h ended)

pub read_fault_runs : (job : Option Job) {shelf shelf' : ShelfView} {sink sink' : SinkView} {result : Status}
    → Runs job shelf shelf' sink sink' result
    → result ≢ statuses.WriteFault → (result ≡ ReadFault) ↔ LastFailed shelf.log shelf'.log
read_fault_runs job h no_fault =
    let kept = kept_status h.puts.reply _ _ h.puts.ended no_fault in
    (λ e. job_failed job _ _ _ h.replies (sym kept ∙ e), λ failed. kept ∙ failed_job job _ _ _ h.replies failed)

-- A fault of usage is answered exactly where the words give no job

fault_no_usage : (role : FileRole) (fault : FetchFault) (answer : Answer) → IsAnswerToFault role fault answer
    → answer.status ≢ statuses.Usage
fault_no_usage role faults.Failed answer why = λ e. cc
fault_no_usage role (faults.TooLong count) answer why = λ e. ⊎_elim (λ is. cc) (λ is. cc) why
fault_no_usage role faults.Memory answer why = λ e. cc

no_usage : {command : Command} {files : List File} {texts : List (List ℕ)} {old new : ShelfView}
    {answer : Answer}
    → Answers command files texts old new answer
    → answer.status ≢ statuses.Usage
no_usage (Answers.works fine is) = λ e. cc
no_usage (Answers.faults fault found) = (fault_apart fault).usage
no_usage (Answers.lacks file fault fine fetched why) = fault_no_usage file.role fault _ why
no_usage (Answers.goes_on file text fine fetched rest) = no_usage rest
no_usage Answers.wants_memory = λ e. cc

usage_no_job : (job : Option Job) (old new : ShelfView) (answer : Answer) → Replies job old new answer
    → answer.status ≡ statuses.Usage → job ≡ None
usage_no_job None old new answer h e = refl
usage_no_job (Some job) old new answer h e = absurd (no_usage h e)

no_job_usage : (job : Option Job) (old new : ShelfView) (answer : Answer) → Replies job old new answer
    → job ≡ None → answer.status ≢ statuses.NoMemory → answer.status ≡ statuses.Usage
no_job_usage None old new answer h none found = ⊎_elim (λ is. status_of is)
    (λ is. absurd (found (status_of is))) h.1
no_job_usage (Some job) old new answer h none found = cc

pub usage_runs : (job : Option Job) {shelf shelf' : ShelfView} {sink sink' : SinkView} {result : Status}
    → Runs job shelf shelf' sink sink' result
    → result ≢ statuses.WriteFault → result ≢ statuses.NoMemory → (result ≡ statuses.Usage) ↔ (job ≡ None)
usage_runs job h no_fault found =
    let kept = kept_status h.puts.reply _ _ h.puts.ended no_fault in (
      λ e. usage_no_job job _ _ _ h.replies (sym kept ∙ e),
      λ none. kept ∙ no_job_usage job _ _ _ h.replies none (λ e. found (kept ∙ e)),
    )
