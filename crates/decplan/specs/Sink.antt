-- What the sink of the system means, and what it writes where it is known what the writer holds.
use Rattle.std.specs.Prelude.{◌≡◌, ℕ, List, ◌++◌, Option, None}
use Rattle.std.specs.Io.KnownBytes.{Appends}
use Rattle.dp_io.specs.Sink.{SinkView}

-- a sink of so many puts, offered bytes and faults, and of these texts, which does not tell its output
abbrev pub untold : ℕ → ℕ → ℕ → List (List ℕ) → SinkView
untold puts offered faults texts = record {
  puts = puts;
  offered = offered;
  faults = faults;
  texts = texts;
  told = None;
}

-- all the bytes but the rest were written
pub record WritesAllBut (old new : Option (List ℕ)) (bytes rest : List ℕ) : Type 0 where
  pub front : List ℕ
  pub parts : bytes ≡ front ++ rest
  pub written : Appends old new front
