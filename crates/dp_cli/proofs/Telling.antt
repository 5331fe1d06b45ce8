-- What the contents of a shelf that tells them determine.
use Rattle.std.proofs.Common.{◌≡◌, ◌≢◌, ◌⊎◌, ℕ, ◌+◌, List, [], ◌∷◌, ◌++◌, length, Option, Some, None, Result, Ok, Err}
use Rattle.std.proofs.Common.{IfSome, inl, inr, ⊎_elim, refl, sym, ap, ◌∙◌, subst, length-append, append_assoc}
use Rattle.std.proofs.Common.{append-nil}
use Rattle.std.proofs.lemmas.Option.{IfSome_then}
use Rattle.dp_io.specs.declared.shelf.FetchFault.{FetchFault}
use Rattle.dp_io.specs.declared.shelf.FetchFault.TheVariants.{Failed, TooLong, Memory}
use Rattle.dp_io.specs.FetchLaws.{fetch_answer}
use Rattle.dp_io.specs.Shelf.{Contents, ShelfView}
use Rattle.dp_io.specs.Sink.{SinkView}
use Rattle.dp_io.proofs.FetchLemmas.{told_fetch}
use Rattle.dp_words.specs.declared.job.Job.{Job}
use Rattle.dp_cli.specs.declared.refusal.FileRole.{FileRole}
use Rattle.dp_cli.specs.declared.refusal.JobFault.{JobFault}
use Rattle.dp_cli.specs.declared.refusal.Refusal.{Refusal}
use Rattle.dp_cli.specs.declared.refusal.Refusal.TheVariants as refusals
use Rattle.dp_cli.specs.declared.status.Status.{Status}
use Rattle.dp_cli.specs.declared.status.Status.TheVariants as statuses
use Rattle.dp_cli.specs.Answer.{Answer, IsAnswerOf, done, refused}
use Rattle.dp_cli.specs.Causes.{first_refusal, IsWorkAfter, IsWorkOver, refusal_after, refusal_of_file, refused_by}
use Rattle.dp_cli.specs.Causes.{status_by}
use Rattle.dp_cli.specs.Command.{Command, File}
use Rattle.dp_cli.specs.Put.{PutsAnswer, PutsOrMemory}
use Rattle.dp_cli.specs.Refusal.{most_bytes, fetch_refusal}
use Rattle.dp_cli.specs.Run.{IsAnswerToFault, Answers, Replies, Runs, RunsAsTold}
use Rattle.dp_cli.proofs.Causes.{kept_status}
use Rattle.dp_cli.proofs.Statuses.{answer_as, answer_status, status_of}

module _ (command : Command) (contents : Contents) where
  -- what is determined where these files are asked for next
  abbrev IsTold : ℕ → List File → List (List ℕ) → Answer → Type 0
  IsTold number files texts answer =
      IsAnswerOf (refusal_after command contents number files texts)
      (λ text. IsWorkAfter command contents number files texts text) answer

  -- what the answer of a fetch leads to
  abbrev after_fetch : ℕ → File → List File → List (List ℕ) → Result (List ℕ) FetchFault → Option Refusal
  after_fetch number file files texts fetched =
      refusal_of_file file.role fetched (λ text. refusal_after command contents (number + 1) files
      (texts ++ text ∷ []))

  determined_as : (number : ℕ) (files : List File) (texts : List (List ℕ)) (answer : Answer)
      (refusal : Option Refusal)
      → refusal_after command contents number files texts ≡ refusal
      → IsAnswerOf refusal (λ text. IsWorkAfter command contents number files texts text) answer
      → IsTold number files texts answer
  determined_as number files texts answer refusal e h =
      subst (λ (r : Option Refusal). IsAnswerOf r (λ text. IsWorkAfter command contents number files texts text)
      answer) (sym e) h

  -- what is wrong with the texts comes before any further file
  fault_first : (number : ℕ) (files : List File) (texts : List (List ℕ)) (fault : JobFault)
      → command.fault texts ≡ Some fault
      → refusal_after command contents number files texts ≡ Some (refusals.Fault fault)
  fault_first number [] texts fault e = ap (λ (f : Option JobFault). refused_by f None) e
  fault_first number (file ∷ files) texts fault e =
      ap (λ (f : Option JobFault). refused_by f (after_fetch number file files texts
      (fetch_answer contents number file.name (most_bytes file.role)))) e

  -- where nothing is wrong, the next fetch decides
  fetch_next : (number : ℕ) (file : File) (files : List File) (texts : List (List ℕ))
      (fetched : Result (List ℕ) FetchFault)
      → command.fault texts ≡ None → fetched ≡ fetch_answer contents number file.name (most_bytes file.role)
      → refusal_after command contents number (file ∷ files) texts ≡ after_fetch number file files texts fetched
  fetch_next number file files texts fetched fine told =
      ap (λ (f : Option JobFault). refused_by f (after_fetch number file files texts
      (fetch_answer contents number file.name (most_bytes file.role)))) fine
      ∙ ap (λ (r : Result (List ℕ) FetchFault). after_fetch number file files texts r) (sym told)

  told_works : (number : ℕ) (texts : List (List ℕ)) (text : List ℕ) → command.fault texts ≡ None
      → command.IsText texts text
      → IsTold number [] texts (done text)
  told_works number texts text fine is =
      determined_as number [] texts (done text) None (ap (λ (f : Option JobFault). refused_by f None) fine) (
        refl,
        record {
          more = [];
          held = tt;
          is_text = subst (λ (ts : List (List ℕ)). command.IsText ts text)
              (sym (append-nil texts)) is;
        },
      )

  -- the work after one more text
  work_more : (number : ℕ) (file : File) (files : List File) (texts : List (List ℕ)) (given text : List ℕ)
      → Ok given ≡ fetch_answer contents number file.name (most_bytes file.role)
      → IsWorkAfter command contents (number + 1) files (texts ++ given ∷ []) text
      → IsWorkAfter command contents number (file ∷ files) texts text
  work_more number file files texts given text told h = record {
    more = given ∷ h.more;
    held = (sym told, h.held);
    is_text = subst (λ (ts : List (List ℕ)). command.IsText ts text) (append_assoc texts (given ∷ []) h.more)
        h.is_text;
  }

  told_more : (number : ℕ) (file : File) (files : List File) (texts : List (List ℕ)) (given : List ℕ)
      (answer : Answer)
      → command.fault texts ≡ None → Ok given ≡ fetch_answer contents number file.name (most_bytes file.role)
      → IsTold (number + 1) files (texts ++ given ∷ []) answer → IsTold number (file ∷ files) texts answer
  told_more number file files texts given answer fine told h =
      let next = refusal_after command contents (number + 1) files (texts ++ given ∷ []) in
      determined_as number (file ∷ files) texts answer next (fetch_next number file files texts (Ok given)
      fine told)
      (answer_as next _ _ answer (λ text work. work_more number file files texts given text told work) h)

-- a fault is answered by its refusal, or by want of memory
fault_answer : (role : FileRole) (fault : FetchFault) (answer : Answer) → IsAnswerToFault role fault answer
    → (answer ≡ refused (fetch_refusal role fault)) ⊎ (answer ≡ refused refusals.Memory)
fault_answer role Failed answer h = inl h
fault_answer role (TooLong count) answer h = h
fault_answer role Memory answer h = inl h

-- want of memory in a fetch
memory_fault : (role : FileRole) (fault : FetchFault) (answer : Answer) → fault ≡ Memory
    → IsAnswerToFault role fault answer → answer ≡ refused refusals.Memory
memory_fault role Failed answer is why = cc
memory_fault role (TooLong count) answer is why = cc
memory_fault role Memory answer is why = why

-- a command answers what the contents determine
told_answer : {command : Command} {contents : Contents} {files : List File} {texts : List (List ℕ)}
    {old new : ShelfView}
    {answer : Answer} → Answers command files texts old new answer
    → old.told ≡ Some contents
    → IsTold command contents (length old.log) files texts answer ⊎ (answer ≡ refused refusals.Memory)
told_answer {command} {contents} {files} {texts} {old} (Answers.works {text = text} fine is) e =
    inl (told_works command contents (length old.log) texts text fine is)
told_answer {command} {contents} {files} {texts} {old} (Answers.faults fault found) e =
    inl (determined_as command contents (length old.log) files texts (refused (refusals.Fault fault)) _
    (fault_first command contents (length old.log) files texts fault found) refl)
told_answer {command} {contents} {files} {texts} {old} {new} {answer}
    (Answers.lacks {files = rest} file fault fine fetched why) e =
    ⊎_elim
    (λ memory. inr (memory_fault file.role fault answer (cc) why))
    (λ told. ⊎_elim
    (λ is. inl (determined_as command contents (length old.log) (file ∷ rest) texts answer _
    (fetch_next command contents (length old.log) file rest texts (Err fault) fine told) is))
    (λ is. inr is)
    (fault_answer file.role fault answer why))
    (told_fetch old new contents file.name (most_bytes file.role) (Err fault) e fetched)
told_answer {command} {contents} {files} {texts} {old} {new} {answer}
    (Answers.goes_on {files = more} {between = between} file text fine fetched rest) e =
    let next : length between.log ≡ length old.log + 1 = ap length fetched.logged ∙ simp length-append refl in
    ⊎_elim
    (λ memory. cc)
    (λ told. ⊎_elim
    (λ h. inl (told_more command contents (length old.log) file more texts text.items answer fine told
    (subst (λ (n : ℕ). IsTold command contents n more (texts ++ text.items ∷ []) answer) next h)))
    (λ memory. inr memory)
    (told_answer rest (fetched.unchanged ∙ e)))
    (told_fetch old between contents file.name (most_bytes file.role) (Ok text) e fetched)
told_answer Answers.wants_memory e = inr refl

-- so does a job
told_reply : (contents : Contents) (job : Option Job) (old new : ShelfView) (answer : Answer)
    → Replies job old new answer
    → old.told ≡ Some contents
    → IsAnswerOf (first_refusal contents (length old.log) job)
    (λ text. IsWorkOver contents (length old.log) job text) answer
    ⊎ (answer ≡ refused refusals.Memory)
told_reply contents None old new answer h e = h.1
told_reply contents (Some job) old new answer h e = told_answer h e

by_told : (told : Option Contents) (job : Option Job) (shelf shelf' : ShelfView) (sink sink' : SinkView)
    (result : Status) → shelf.told ≡ told
    → Runs job shelf shelf' sink sink' result
    → IfSome told (λ contents. RunsAsTold contents (length shelf.log) job sink sink' result)
by_told None job shelf shelf' sink sink' result e h = tt
by_told (Some contents) job shelf shelf' sink sink' result e h =
    record {
      answer = h.answer;
      determined = told_reply contents job shelf shelf' h.answer h.replies e;
      puts = h.puts;
    }

-- What a call does over any shelf says what it answers over one that tells its contents.
pub runs_as_told : (job : Option Job) (shelf shelf' : ShelfView) (sink sink' : SinkView) (result : Status)
    → Runs job shelf shelf' sink sink' result
    → IfSome shelf.told (λ contents. RunsAsTold contents (length shelf.log) job sink sink' result)
runs_as_told job shelf shelf' sink sink' result h = by_told shelf.told job shelf shelf' sink sink' result refl h

-- The status, and the line

cause : (contents : Contents) (number : ℕ) (job : Option Job) (old new : SinkView) (result : Status)
    → RunsAsTold contents number job old new result
    → result ≢ statuses.WriteFault → result ≢ statuses.NoMemory
    → result ≡ status_by (first_refusal contents number job)
cause contents number job old new result h no_fault found =
    let kept = kept_status h.puts.reply _ _ h.puts.ended no_fault in
    ⊎_elim
    (λ told. kept ∙ answer_status (first_refusal contents number job) _ h.answer told)
    (λ memory. absurd (found (kept ∙ status_of memory)))
    h.determined

-- the line of an answer that is refused so
puts_refusal : (refusal : Option Refusal) (IsText : List ℕ → Type 0) (answer : Answer) (old new : SinkView)
    (result : Status)
    → PutsAnswer old new answer result
    → IsAnswerOf refusal IsText answer ⊎ (answer ≡ refused refusals.Memory)
    → IfSome refusal (λ r. PutsOrMemory old new r result)
puts_refusal None IsText answer old new result puts h = tt
puts_refusal (Some refusal) IsText answer old new result puts h =
    ⊎_elim
    (λ told. inl (subst (λ (a : Answer). PutsAnswer old new a result) told puts))
    (λ memory. inr (subst (λ (a : Answer). PutsAnswer old new a result) memory puts))
    h

-- the same over a shelf that may tell its contents
pub cause_as_told : (told : Option Contents) (number : ℕ) (job : Option Job) (old new : SinkView)
    (result : Status)
    → IfSome told (λ contents. RunsAsTold contents number job old new result) → result ≢ statuses.WriteFault
    → result ≢ statuses.NoMemory
    → IfSome told (λ contents. result ≡ status_by (first_refusal contents number job))
cause_as_told told number job old new result h no_fault found =
    IfSome_then told h (λ contents runs. cause contents number job old new result runs no_fault found)

pub refused_as_told : (told : Option Contents) (number : ℕ) (job : Option Job) (old new : SinkView)
    (result : Status)
    → IfSome told (λ contents. RunsAsTold contents number job old new result)
    → IfSome told (λ contents. IfSome (first_refusal contents number job)
    (λ refusal. PutsOrMemory old new refusal result))
refused_as_told told number job old new result h =
    IfSome_then told h (λ contents runs. puts_refusal (first_refusal contents number job)
    _ runs.answer old new result runs.puts runs.determined)
