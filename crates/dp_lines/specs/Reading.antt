-- What functions that read parts of a text answer.
use Rattle.std.specs.Prelude.{◌≡◌, ℕ, List, ◌++◌, Option, Some, None, Result, Ok, Err}
use Rattle.dp_lines.specs.Grammar.{Fault}
use Rattle.dp_lines.specs.Scanning.{Rest}

-- what is read has this fault, or an error that is none of a text
abbrev pub HasFault : {L V : Type 0} → Option (Fault L) → Result V (Fault L) → Type 0
HasFault (Some fault) read = read ≡ Err fault
HasFault None read = Unit {0}

-- What was read, seen by view, is what a front of the bytes says, or the error tells their fault, or it is none of
-- a text.
abbrev pub GivesOr : {E L X V : Type 0} → (E → Option (Fault L)) → (X → V) → Result X E → Result V (Fault L)
    → Type 0
GivesOr told view (Ok x) read = read ≡ Ok (view x)
GivesOr told view (Err e) read = HasFault (told e) read

-- what is read up to a line, and from there on
abbrev pub rest_at : {V : Type 0} → V → ℕ → List ℕ → Rest V
rest_at value line bytes = record { value = value; line = line; bytes = bytes }

-- those before the ones that are read
abbrev pub onto : {A F : Type 0} → List A → Result (Rest (List A)) F → Result (Rest (List A)) F
onto front (Ok rest) = Ok (record rest { value = front ++ rest.value })
onto front (Err fault) = Err fault
