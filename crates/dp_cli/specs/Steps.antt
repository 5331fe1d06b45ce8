-- The steps of a call, one function of the code each.
use Rattle.std.specs.Prelude.{◌≡◌, ◌⊎◌, ℕ, List, None, Result, Ok, Err, Vec}
use Rattle.std.specs.declared.alloc.Global.{Global}
use Rattle.dp_io.specs.declared.shelf.FetchFault.{FetchFault}
use Rattle.dp_io.specs.Shelf.{ShelfView, Fetches}
use Rattle.dp_io.specs.Sink.{SinkView}
use Rattle.dp_meaning.specs.Meaning.{Means, meaning}
use Rattle.dp_reader.specs.declared.build.ReadModel.{ReadModel}
use Rattle.dp_reader.specs.Reading.{meant_model}
use Rattle.dp_cli.specs.declared.refusal.FileRole.TheVariants.{Model}
use Rattle.dp_cli.specs.declared.refusal.Refusal.{Refusal}
use Rattle.dp_cli.specs.declared.refusal.Refusal.TheVariants as refusals
use Rattle.dp_cli.specs.declared.status.Status.{Status}
use Rattle.dp_cli.specs.Refusal.{most_bytes, fetch_refusal}
use Rattle.dp_cli.specs.Answer.{Answer, refused, done, Stops}
use Rattle.dp_cli.specs.Command.{File, model_file}
use Rattle.dp_cli.specs.ModelText.{model_fault}
use Rattle.dp_cli.specs.Put.{PutsAnswer, PutsOrMemory}

-- the answer that a text stands for, or why there is none
abbrev pub answer_of : Result (Vec ℕ Global) Refusal → Answer
answer_of (Ok text) = done text.items
answer_of (Err refusal) = refused refusal

-- the fetch of a file that a job asks for: its text, or the refusal of the fetch's fault
abbrev pub FetchesFile : ShelfView → ShelfView → File → Result (Vec ℕ Global) Refusal → Type 0
FetchesFile old new file (Ok text) = Fetches old new file.name (most_bytes file.role) (Ok text)
FetchesFile old new file (Err refusal) =
    (fault : FetchFault) × (Fetches old new file.name (most_bytes file.role) (Err fault))
    × (refusal ≡ fetch_refusal file.role fault)

-- the fetch of the file of a model and the reading of its text: the model that it means, or the refusal of the
-- fetch's fault, or of what is wrong with the text
abbrev pub FetchesModel : ShelfView → ShelfView → List ℕ → Result ReadModel Refusal → Type 0
FetchesModel old new name (Ok read) =
    (text : Vec ℕ Global) × (Fetches old new name (most_bytes Model) (Ok text))
    × (meaning text.items ≡ Means (meant_model read))
FetchesModel old new name (Err refusal) =
    FetchesFile old new (model_file name) (Err refusal)
    ⊎ ((text : Vec ℕ Global) × (Fetches old new name (most_bytes Model) (Ok text))
    × Stops (model_fault (λ m. None) (meaning text.items)) refusal)

-- The put of a refusal's line. What is wrong with the texts is told by a line that takes memory.
abbrev pub PutsRefusal : SinkView → SinkView → Refusal → Status → Type 0
PutsRefusal old new (refusals.Fault fault) result = PutsOrMemory old new (refusals.Fault fault) result
PutsRefusal old new refusal result = PutsAnswer old new (refused refusal) result

-- the put of a text, or of the line that tells why there is none
abbrev pub PutsOutcome : SinkView → SinkView → Result (Vec ℕ Global) Refusal → Status → Type 0
PutsOutcome old new (Ok text) result = PutsAnswer old new (done text.items) result
PutsOutcome old new (Err refusal) result = PutsRefusal old new refusal result
