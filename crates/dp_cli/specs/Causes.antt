-- The causes of what a call answers, by the log of its shelf, by what was given, and by what the shelf tells.
use Rattle.std.specs.Prelude.{◌≡◌, ◌≢◌, ◌<◌, ℕ, ◌+◌, List, [], ◌∷◌, ◌++◌, map, length, Option, Some, None, Result, Ok}
use Rattle.std.specs.Prelude.{Err, IfSome}
use Rattle.dp_io.specs.FetchLaws.{fetch_answer}
use Rattle.dp_io.specs.declared.shelf.Ending.TheVariants.{Given, Failed, Long}
use Rattle.dp_io.specs.Shelf.{Contents, Entry, ShelfView}
use Rattle.dp_io.specs.declared.shelf.FetchFault.{FetchFault}
use Rattle.dp_io.specs.declared.sink.SinkFailed.{SinkFailed}
use Rattle.dp_io.specs.Sink.{SinkView, Puts}
use Rattle.dp_model.specs.declared.limit.TooLarge.{TooLarge}
use Rattle.dp_words.specs.declared.job.Job.{Job}
use Rattle.dp_cli.specs.declared.refusal.FileRole.{FileRole}
use Rattle.dp_cli.specs.declared.refusal.JobFault.{JobFault}
use Rattle.dp_cli.specs.declared.refusal.Refusal.{Refusal}
use Rattle.dp_cli.specs.declared.refusal.Refusal.TheVariants as refusals
use Rattle.dp_cli.specs.declared.status.Status.{Status}
use Rattle.dp_cli.specs.declared.status.Status.TheVariants as statuses
use Rattle.dp_cli.specs.Command.{Command, File}
use Rattle.dp_cli.specs.Commands.{command_of}
use Rattle.dp_cli.specs.Refusal.{fetch_refusal, large_line, long_file, most_bytes, refusal_status, role_limit}

-- the names of the files that a job may ask for, in their order
abbrev pub files_of : Option Job → List (List ℕ)
files_of None = []
files_of (Some job) = map (λ file. file.name) (command_of job).files

-- The fetches that were appended to the log are of the first of these files, in their order.
pub record LogsFirstOf (files : List (List ℕ)) (old new : List Entry) : Type 0 where
  pub fetched : List Entry
  pub appended : new ≡ old ++ fetched
  -- the files that were not fetched
  pub rest : List (List ℕ)
  pub names : files ≡ map (λ entry. entry.name) fetched ++ rest

-- The last of the fetches that were appended to the log failed.
pub record LastFailed (old new : List Entry) : Type 0 where
  pub before : List Entry
  pub name : List ℕ
  pub appended : new ≡ old ++ (before ++ record { name = name; ending = Failed } ∷ [])

-- The order of refusals, where the contents of a shelf are told

-- what is wrong with the texts, or else what follows
abbrev pub refused_by : Option JobFault → Option Refusal → Option Refusal
refused_by (Some fault) next = Some (refusals.Fault fault)
refused_by None next = next

-- a file that was not given, or what its text leads to
abbrev pub refusal_of_file : FileRole → Result (List ℕ) FetchFault → (List ℕ → Option Refusal) → Option Refusal
refusal_of_file role (Ok text) after = after text
refusal_of_file role (Err fault) after = Some (fetch_refusal role fault)

-- Why a command that asks for these files next, whose fetches have this number and those after it, and
-- that has been given these texts, is refused.
abbrev pub refusal_after : Command → Contents → ℕ → List File → List (List ℕ) → Option Refusal
refusal_after command contents number [] texts = refused_by (command.fault texts) None
refusal_after command contents number (file ∷ files) texts =
    refused_by (command.fault texts)
    (refusal_of_file file.role (fetch_answer contents number file.name (most_bytes file.role))
    (λ text. refusal_after command contents (number + 1) files (texts ++ text ∷ [])))

-- The order of refusals: the first reason why the contents of a shelf let a job, whose first fetch
-- has this number, give no text.
abbrev pub first_refusal : Contents → ℕ → Option Job → Option Refusal
first_refusal contents number None = Some refusals.Usage
first_refusal contents number (Some job) = refusal_after (command_of job) contents number
    (command_of job).files []

-- The contents give these files, whose fetches have this number and those after it, and they are these texts.
abbrev pub Hold : Contents → ℕ → List File → List (List ℕ) → Type 0
Hold contents number [] [] = Unit {0}
Hold contents number [] (text ∷ texts) = ⊥
Hold contents number (file ∷ files) [] = ⊥
Hold contents number (file ∷ files) (text ∷ texts) =
    (fetch_answer contents number file.name (most_bytes file.role) ≡ Ok text)
    × Hold contents (number + 1) files texts

-- The text is the work of a command that asks for these files next, and has been given these texts.
pub record IsWorkAfter (command : Command) (contents : Contents) (number : ℕ) (files : List File)
    (texts : List (List ℕ)) (text : List ℕ) : Type 0 where
  pub more : List (List ℕ)
  pub held : Hold contents number files more
  pub is_text : command.IsText (texts ++ more) text

-- the text is the work of a job
abbrev pub IsWorkOver : Contents → ℕ → Option Job → List ℕ → Type 0
IsWorkOver contents number None text = ⊥
IsWorkOver contents number (Some job) text =
    IsWorkAfter (command_of job) contents number (command_of job).files [] text

-- the status of a call that is refused so, or that is done
abbrev pub status_by : Option Refusal → Status
status_by (Some refusal) = refusal_status refusal
status_by None = statuses.Done

-- Over every shelf

-- the entry of a file that was given
abbrev pub given_entry : File → Entry
given_entry file = record { name = file.name; ending = Given }

-- what is known of the contents, where they are told
abbrev pub HoldWhereTold : ShelfView → List File → List (List ℕ) → Type 0
HoldWhereTold shelf files texts = IfSome shelf.told (λ contents. Hold contents (length shelf.log) files texts)

-- All these files were given, one after the other, and they are these texts.
pub record AreGiven (files : List File) (texts : List (List ℕ)) (old new : ShelfView) : Type 0 where
  pub logged : new.log ≡ old.log ++ map given_entry files
  pub given : new.given ≡ old.given ++ texts
  pub held : HoldWhereTold old files texts

-- The command was given all its files, one put that did not fail was of its text, and what it claims is so.
pub record IsDone (command : Command) (shelf shelf' : ShelfView) (sink sink' : SinkView) : Type 0 where
  pub texts : List (List ℕ)
  pub given : AreGiven command.files texts shelf shelf'
  pub text : List ℕ
  pub put : Puts {T = Unit {0}} {E = SinkFailed} sink sink' text (Ok tt)
  pub claims : command.Claims texts text

-- what is known of a job that is done; words that give no job are never done
abbrev pub IsCertified : Option Job → ShelfView → ShelfView → SinkView → SinkView → Type 0
IsCertified None shelf shelf' sink sink' = ⊥
IsCertified (Some job) shelf shelf' sink sink' = IsDone (command_of job) shelf shelf' sink sink'

-- Nothing was wrong with these texts, nor with these and the first of the next ones, and so on: the last of
-- the next ones was asked for.
abbrev pub AreFineBefore : Command → List (List ℕ) → List (List ℕ) → Type 0
AreFineBefore command texts [] = Unit {0}
AreFineBefore command texts (text ∷ more) = (command.fault texts ≡ None)
    × AreFineBefore command (texts ++ text ∷ []) more

-- The cause of a refusal, or of none, of a command that asks for these files next and has been given
-- these texts, by what was appended to the log and what was given: a file failed, or was too long, or
-- something is wrong with the texts that were given and was not before the last of them, or nothing is.
pub data IsCause (command : Command) (files : List File) (texts : List (List ℕ))
    (old new : ShelfView) : Option Refusal → Type 0 where
  failed : (file : File) (front rest : List File) → files ≡ front ++ file ∷ rest
      → new.log ≡ old.log ++ (map given_entry front ++ record { name = file.name; ending = Failed } ∷ [])
      → IsCause command files texts old new (Some (refusals.Read file.role))
  long : (file : File) (count : ℕ) (front rest : List File) → files ≡ front ++ file ∷ rest
      → new.log ≡ old.log ++ (map given_entry front ++ record { name = file.name; ending = Long count } ∷ [])
      → most_bytes file.role < count
      → IsCause command files texts old new (Some (long_file file.role count))
  wrong : (fault : JobFault) (more : List (List ℕ)) (front rest : List File) → files ≡ front ++ rest
      → AreGiven front more old new → AreFineBefore command texts more
      → command.fault (texts ++ more) ≡ Some fault
      → IsCause command files texts old new (Some (refusals.Fault fault))
  nothing : (more : List (List ℕ)) → AreGiven files more old new → AreFineBefore command texts more
      → command.fault (texts ++ more) ≡ None
      → IsCause command files texts old new None

-- The last of the fetches that were appended to the log is of the file of this role, which has so many
-- bytes, more than it may have; those before it were given.
pub record LastLong (files : List File) (role : FileRole) (count : ℕ) (old new : List Entry) : Type 0 where
  pub file : File
  pub is_of : file.role ≡ role
  pub front : List File
  pub rest : List File
  pub asked : files ≡ front ++ file ∷ rest
  pub appended : new ≡ old ++ (map given_entry front ++ record { name = file.name; ending = Long count } ∷ [])
  pub over : most_bytes role < count

-- A passed limit was told. Where it is that on the bytes of a file, and not that on the text of the command, the
-- last fetch found this file too long, and the line has its number of bytes.
pub record TellsLimit (command : Command) (shelf shelf' : ShelfView) (sink sink' : SinkView) : Type 0 where
  pub passed : TooLarge
  pub put : Puts {T = Unit {0}} {E = SinkFailed} sink sink' (large_line passed) (Ok tt)
  pub long : (role : FileRole) → passed.what ≡ role_limit role → command.text_limit ≢ Some passed.what →
      LastLong command.files role passed.count shelf.log shelf'.log

-- the same of a job; words that give none pass no limit
abbrev pub TellsLimitOf : Option Job → ShelfView → ShelfView → SinkView → SinkView → Type 0
TellsLimitOf None shelf shelf' sink sink' = ⊥
TellsLimitOf (Some job) shelf shelf' sink sink' = TellsLimit (command_of job) shelf shelf' sink sink'
