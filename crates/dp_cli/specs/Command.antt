-- A command as data: the files that it asks for, what may be wrong with their texts, the text that it
-- puts, and what is so of that text.
use Rattle.std.specs.Prelude.{ℕ, List, Option}
use Rattle.dp_model.specs.declared.limit.Limit.{Limit}
use Rattle.dp_cli.specs.declared.refusal.FileRole.{FileRole}
use Rattle.dp_cli.specs.declared.refusal.FileRole.TheVariants as roles
use Rattle.dp_cli.specs.declared.refusal.JobFault.{JobFault}

-- a file that a command asks for
pub record File : Type 0 where
  pub name : List ℕ
  pub role : FileRole

-- the file of a model
abbrev pub model_file : List ℕ → File
model_file name = record { name = name; role = roles.Model }

-- A command asks for its files one after the other, and for the next one only where nothing is wrong
-- with the texts that it was given so far.
pub record Command : Type 1 where
  -- the files that it asks for, the model first
  pub files : List File
  -- the first thing that is wrong with the texts that it was given, in the order of the files
  pub fault : List (List ℕ) → Option JobFault
  -- the limit on the bytes of the text that it puts, where there is one
  pub text_limit : Option Limit
  -- the text that it puts where it was given all and nothing is wrong: a relation, since some
  -- commands leave a choice
  pub IsText : List (List ℕ) → List ℕ → Type 0
  -- what is so of the texts that it was given and of the text that it puts, in the words of its subject
  pub Claims : List (List ℕ) → List ℕ → Type 0
