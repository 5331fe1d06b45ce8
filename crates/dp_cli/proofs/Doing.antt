-- How a command goes on, by what the steps of the code do. A command's own proof cites `lacks_file`,
-- `stops_by`, `works_by` and `works_on`, and for its model `lacks_model` and `has_model`.
use Rattle.std.proofs.Common.{◌≡◌, ◌≢◌, ℕ, List, [], ◌∷◌, ◌++◌, Option, Some, None, Result, Ok, Err, Vec, String}
use Rattle.std.proofs.Common.{IfOk, IfErr, ◌⊎◌, string_bytes, inl, inr, ⊎_elim, refl, sym, ap, ◌∙◌, subst}
use Rattle.std.specs.declared.alloc.Global.{Global}
use Rattle.dp_io.specs.declared.shelf.FetchFault.{FetchFault}
use Rattle.dp_io.specs.declared.shelf.FetchFault.TheVariants.{Failed, TooLong, Memory}
use Rattle.dp_io.specs.Shelf.{ShelfView, Fetches}
use Rattle.dp_io.specs.Sink.{SinkView}
use Rattle.dp_meaning.specs.Meaning as meant
use Rattle.dp_meaning.specs.Meaning.{FaultAt, Meaning, Means, Passes, meaning}
use Rattle.dp_spec.specs.Model.{Model}
use Rattle.dp_reader.specs.declared.build.ReadModel.{ReadModel}
use Rattle.dp_reader.specs.declared.fault.ModelFault.{ModelFault}
use Rattle.dp_reader.specs.declared.fault.ModelFault.TheVariants as model_faults
use Rattle.dp_reader.specs.Reading.{IsMeaning, meant_model}
use Rattle.dp_cli.specs.declared.refusal.JobFault.{JobFault}
use Rattle.dp_base.specs.declared.memory.Memory.{Memory as MemoryFault}
use Rattle.dp_words.specs.declared.job.Job.{Job}
use Rattle.dp_words.specs.declared.job.WordFault.{WordFault}
use Rattle.dp_words.specs.declared.job.WordFault.TheVariants as word_faults
use Rattle.dp_words.specs.Words.{IsReadAs}
use Rattle.dp_cli.specs.declared.refusal.FileRole.{FileRole}
use Rattle.dp_cli.specs.declared.refusal.Refusal.{Refusal}
use Rattle.dp_cli.specs.declared.refusal.Refusal.TheVariants as refusals
use Rattle.dp_cli.specs.declared.status.Status.{Status}
use Rattle.dp_cli.specs.declared.status.Status.TheVariants as statuses
use Rattle.dp_cli.specs.Answer.{Answer, refused, done, GivesText, Stops}
use Rattle.dp_cli.specs.Command.{Command, File, model_file}
use Rattle.dp_cli.specs.ModelText.{model_fault, read_fault}
use Rattle.dp_cli.specs.Put.{PutsAnswer}
use Rattle.dp_cli.specs.Refusal.{fetch_refusal, model_refusal, most_bytes, word_refusal}
use Rattle.dp_cli.specs.Run.{IsAnswerToFault, Answers, Does, Replies, Runs}
use Rattle.dp_cli.specs.Steps.{answer_of, FetchesFile, FetchesModel, PutsOutcome}
use Rattle.dp_cli.proofs.Statuses.{fault_apart}

-- a fault of a fetch is answered by its refusal
answer_to_fault : (role : FileRole) (fault : FetchFault)
    → IsAnswerToFault role fault (refused (fetch_refusal role fault))
answer_to_fault role Failed = refl
answer_to_fault role (TooLong count) = inl refl
answer_to_fault role Memory = refl

-- a command whose next file was not given answers why
pub lacks_file : {command : Command} {files : List File} {texts : List (List ℕ)} {old new : ShelfView}
    (file : File)
    (refusal : Refusal) → command.fault texts ≡ None
    → FetchesFile old new file (Err refusal) → Answers command (file ∷ files) texts old new (refused refusal)
lacks_file {command} {files} {texts} {old} {new} file refusal fine fetched =
    subst (λ (r : Refusal). Answers command (file ∷ files) texts old new (refused r)) (sym fetched.2)
    (Answers.lacks file fetched.0 fine fetched.1 (answer_to_fault file.role fetched.0))

-- a command whose code stops answers why
pub stops_by : {command : Command} {files : List File} {texts : List (List ℕ)} {shelf : ShelfView}
    (refusal : Refusal)
    → Stops (command.fault texts) refusal
    → Answers command files texts shelf shelf (refused refusal)
stops_by refusals.Usage h = absurd h
stops_by (refusals.Read role) h = absurd h
stops_by (refusals.Fault fault) h = Answers.faults fault h
stops_by refusals.Memory h = Answers.wants_memory

-- a command that has been given all its texts answers what its code gives
pub works_by : {command : Command} {texts : List (List ℕ)} {shelf : ShelfView}
    (result : Result (Vec ℕ Global) Refusal)
    → GivesText (command.fault texts) (λ text. command.IsText texts text) result
    → Answers command [] texts shelf shelf (answer_of result)
works_by (Ok text) h = Answers.works h.0 h.1
works_by (Err refusal) h = stops_by refusal h

-- a command that asks for no file answers what its code gives, and fetches nothing
pub works_alone : {command : Command} (shelf : ShelfView) (result : Result (Vec ℕ Global) Refusal)
    → command.files ≡ [] → GivesText (command.fault []) (λ text. command.IsText [] text) result
    → Does command shelf shelf (answer_of result)
works_alone {command} shelf result none h =
    subst (λ (files : List File). Answers command files [] shelf shelf (answer_of result)) (sym none)
    (works_by {command = command} {texts = []} {shelf = shelf} result h)

-- a command that has been given its last file answers what its code gives of the bytes
pub works_on : {command : Command} {texts : List (List ℕ)} {old new : ShelfView} {bytes : List ℕ} (file : File)
    (text : Vec ℕ Global) (result : Result (Vec ℕ Global) Refusal) → command.fault texts ≡ None
    → Fetches old new file.name (most_bytes file.role) (Ok text)
    → bytes ≡ text.items
    → GivesText (command.fault (texts ++ bytes ∷ [])) (λ t. command.IsText (texts ++ bytes ∷ []) t) result
    → Answers command (file ∷ []) texts old new (answer_of result)
works_on {command} {texts} file text result fine fetched is h =
    Answers.goes_on file text fine fetched
    (works_by result
    (subst (λ (bs : List ℕ). GivesText (command.fault (texts ++ bs ∷ []))
    (λ t. command.IsText (texts ++ bs ∷ []) t) result) is h))

-- A command whose first file is a model

-- what is wrong with a file that means no model is so whatever may be wrong with a model
stops_as : (after : meant.ReadModel → Option JobFault) (meant : Meaning) (refusal : Refusal)
    → Stops (model_fault (λ m. None) meant) refusal
    → Stops (read_fault after meant) refusal
stops_as after (FaultAt place why) refusal h = h
stops_as after (Passes passed) refusal h = h
stops_as after (Means read) refusals.Usage h = h
stops_as after (Means read) (refusals.Read role) h = h
stops_as after (Means read) (refusals.Fault fault) h = cc
stops_as after (Means read) refusals.Memory h = h

-- a text that is not read is refused by what is wrong with it
pub stops_reading : (bytes : List ℕ) (fault : ModelFault) → IsMeaning (meaning bytes) (Err fault)
    → Stops (model_fault (λ m. None) (meaning bytes)) (model_refusal fault)
stops_reading bytes (model_faults.At line column why) h = ap (λ (m : Meaning). model_fault (λ m. None) m) h
stops_reading bytes (model_faults.TooLarge passed) h = ap (λ (m : Meaning). model_fault (λ m. None) m) h
stops_reading bytes model_faults.Memory h = tt

-- it answers why, where the file was not given or means no model
pub lacks_model : {command : Command} {files : List File} {old new : ShelfView} (name : List ℕ)
    (refusal : Refusal)
    (after : meant.ReadModel → Option JobFault) → command.fault [] ≡ None
    → ((text : List ℕ) → command.fault (text ∷ []) ≡ read_fault after (meaning text))
    → FetchesModel old new name (Err refusal)
    → Answers command (model_file name ∷ files) [] old new (refused refusal)
lacks_model name refusal after fine faults (inl fetched) = lacks_file (model_file name) refusal fine fetched
lacks_model name refusal after fine faults (inr read) =
    let stops = stops_as after (meaning read.0.items) refusal read.2 in
    Answers.goes_on (model_file name) read.0 fine read.1
    (stops_by refusal (subst (λ (fault : Option JobFault). Stops fault refusal) (sym (faults read.0.items))
    stops))

-- and it goes on with what the file means
pub has_model : {command : Command} {files : List File} {old between new : ShelfView} {answer : Answer}
    (name : List ℕ)
    (read : ReadModel) → command.fault [] ≡ None
    → FetchesModel old between name (Ok read)
    → ((text : List ℕ) → meaning text ≡ Means (meant_model read)
    → Answers command files (text ∷ []) between new answer)
    → Answers command (model_file name ∷ files) [] old new answer
has_model name read fine fetched rest =
    Answers.goes_on (model_file name) fetched.0 fine fetched.1 (rest fetched.0.items fetched.2)

-- What code gives of what is read of a text is what it gives of the text.
pub gives_of_read : {read : meant.ReadModel} {Old New : List ℕ → Type 0} (text : List ℕ)
    (fault : meant.ReadModel → Option JobFault)
    (result : Result (Vec ℕ Global) Refusal) → meaning text ≡ Means read
    → ((t : List ℕ) → Old t → New t)
    → GivesText (fault read) Old result → GivesText (read_fault fault (meaning text)) New result
gives_of_read text fault (Ok t) means to h = (
  ap (λ (m : Meaning). read_fault fault m) means
      ∙ h.0,
  to t.items h.1,
)
gives_of_read text fault (Err refusal) means to h =
    subst (λ (f : Option JobFault). Stops f refusal) (sym (ap (λ (m : Meaning). read_fault fault m) means)) h

-- so is what it gives of the model
pub gives_of_model : {read : meant.ReadModel} {Old New : List ℕ → Type 0} (text : List ℕ)
    (fault : Model → Option JobFault)
    (result : Result (Vec ℕ Global) Refusal) → meaning text ≡ Means read
    → ((t : List ℕ) → Old t → New t)
    → GivesText (fault read.model.model) Old result → GivesText (model_fault fault (meaning text)) New result
gives_of_model {read} {Old} {New} text fault result means to h =
    gives_of_read {read = read} {Old = Old} {New = New} text (λ r. fault r.model.model) result means to h

-- Memory may run out over each answer but that of a fetch that failed.
or_memory : {command : Command} {files : List File} {texts : List (List ℕ)} {old new : ShelfView}
    {answer : Answer}
    → Answers command files texts old new answer
    → answer.status ≢ statuses.ReadFault → Answers command files texts old new (refused refusals.Memory)
or_memory (Answers.works fine is) h = Answers.wants_memory
or_memory (Answers.faults fault found) h = Answers.wants_memory
or_memory (Answers.lacks file Failed fine fetched why) h = absurd (h (ap (λ (a : Answer). a.status) why))
or_memory (Answers.lacks file (TooLong count) fine fetched why) h = Answers.lacks file (TooLong count)
    fine fetched
    (inr refl)
or_memory (Answers.lacks file Memory fine fetched why) h = Answers.lacks file Memory fine fetched refl
or_memory (Answers.goes_on file text fine fetched rest) h = Answers.goes_on file text fine fetched
    (or_memory rest h)
or_memory Answers.wants_memory h = Answers.wants_memory

replies_memory : (job : Option Job) (old new : ShelfView) (answer : Answer) → Replies job old new answer
    → answer.status ≢ statuses.ReadFault → Replies job old new (refused refusals.Memory)
replies_memory None old new answer replies h = (replies.0, inr refl)
replies_memory (Some job) old new answer replies h = or_memory replies h

no_words : (job : Option Job) (shelf : ShelfView) → Replies job shelf shelf (refused refusals.Memory)
no_words None shelf = (refl, inr refl)
no_words (Some job) shelf = Answers.wants_memory

-- Words that gave no job are answered by their refusal.
pub refuses_words : (job : Option Job) (shelf : ShelfView) (fault : WordFault) → IsReadAs job (Err fault)
    → Replies job shelf shelf (refused (word_refusal fault))
refuses_words job shelf word_faults.Usage none =
    subst (λ (j : Option Job). Replies j shelf shelf (refused refusals.Usage)) (sym none) (refl, inl refl)
refuses_words job shelf word_faults.Memory none = no_words job shelf

-- a line that took memory is put, or the line that tells that there was none
pub puts_line : {old new : SinkView} {status result : Status} (wanted : Status) (text : List ℕ)
    (line : Result (String Global) MemoryFault) → status ≡ wanted
    → IfOk line (λ l. string_bytes l ≡ text)
    → IfOk line (λ l. PutsAnswer old new (record { status = status; text = string_bytes l }) result)
    → IfErr line (λ _. PutsAnswer old new (refused refusals.Memory) result)
    → PutsAnswer old new (record { status = wanted; text = text }) result
    ⊎ PutsAnswer old new (refused refusals.Memory) result
puts_line {old} {new} {status} {result} wanted text (Ok line) e is puts none =
    inl (subst (λ (s : Status). PutsAnswer old new (record { status = s; text = text }) result) e
    (subst (λ (t : List ℕ). PutsAnswer old new (record { status = status; text = t }) result) is puts))
puts_line wanted text (Err memory) e is puts none = inr none

-- An outcome that is put is what the job answers.
pub runs_by : (job : Option Job) {shelf shelf' : ShelfView} {sink sink' : SinkView} {result : Status}
    (outcome : Result (Vec ℕ Global) Refusal)
    → Replies job shelf shelf' (answer_of outcome) → PutsOutcome sink sink' outcome result
    → Runs job shelf shelf' sink sink' result
runs_by job (Ok text) replies puts = record { answer = done text.items; replies = replies; puts = puts }
runs_by job (Err refusals.Usage) replies puts = record {
  answer = refused refusals.Usage;
  replies = replies;
  puts = puts;
}
runs_by job (Err (refusals.Read role)) replies puts = record
    { answer = refused (refusals.Read role); replies = replies; puts = puts }
runs_by job (Err (refusals.Fault fault)) replies puts =
    ⊎_elim
    (λ h. record { answer = refused (refusals.Fault fault); replies = replies; puts = h })
    (λ h. record {
      answer = refused refusals.Memory;
      replies = replies_memory job _ _ _ replies
          (fault_apart fault).read;
      puts = h;
    })
    puts
runs_by job (Err refusals.Memory) replies puts = record {
  answer = refused refusals.Memory;
  replies = replies;
  puts = puts;
}
