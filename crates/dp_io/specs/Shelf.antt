-- What a shelf means, and what a fetch does.
use Rattle.std.specs.Prelude.{◌≡◌, ℕ, ◌<◌, ◌≤◌, Bool, true, false, List, [], ◌∷◌, ◌++◌, length, Option, Some, Result}
use Rattle.std.specs.Prelude.{Ok, Err, IfSome, Vec, count_by}
use Rattle.std.specs.declared.alloc.Global.{Global}
use Rattle.dp_io.specs.declared.shelf.Ending.{Ending}
use Rattle.dp_io.specs.declared.shelf.Ending.TheVariants.{Given, Failed, Long}
use Rattle.dp_io.specs.declared.shelf.FetchFault.{FetchFault}
use Rattle.dp_io.specs.declared.shelf.FetchFault.TheVariants as faults

-- one fetch: the name that was asked for, and how it ended
pub record Entry : Type 0 where
  pub name : List ℕ
  pub ending : Ending

-- what a shelf has that tells it
pub record Contents : Type 0 where
  -- the bytes of each name, and None where it holds nothing
  pub held : List ℕ → Option (List ℕ)
  -- whether the fetch of this number, counted from 0, fails at this name
  pub fails : ℕ → List ℕ → Bool

-- a shelf as contracts see it
pub record ShelfView : Type 0 where
  -- the fetches so far, the first of them first
  pub log : List Entry
  -- the bytes of each fetch that was given, the first of them first
  pub given : List (List ℕ)
  -- the contents, and None where the shelf does not tell them
  pub told : Option Contents

-- a fetch that failed
abbrev pub is_failed : Entry → Bool
is_failed entry = elim entry.ending [ Failed ↦ true | _ ↦ false ]

-- the count of faults: how many fetches failed
abbrev pub fault_count : List Entry → ℕ
fault_count log = count_by is_failed log

-- the entries that a fetch appends: its own, or none where memory ran out
abbrev pub entries_of : List ℕ → Result (Vec ℕ Global) FetchFault → List Entry
entries_of name (Ok bytes) = record { name = name; ending = Given } ∷ []
entries_of name (Err faults.Failed) = record { name = name; ending = Failed } ∷ []
entries_of name (Err (faults.TooLong k)) = record { name = name; ending = Long k } ∷ []
entries_of name (Err faults.Memory) = []

-- the texts that a fetch gives: its bytes, or none
abbrev pub texts_of : Result (Vec ℕ Global) FetchFault → List (List ℕ)
texts_of (Ok bytes) = bytes.items ∷ []
texts_of (Err fault) = []

-- No more bytes are given than were asked for, and only what has more is too long.
abbrev pub IsAtMost : ℕ → Result (Vec ℕ Global) FetchFault → Type 0
IsAtMost most (Ok bytes) = length bytes.items ≤ most
IsAtMost most (Err faults.Failed) = Unit {0}
IsAtMost most (Err (faults.TooLong k)) = most < k
IsAtMost most (Err faults.Memory) = Unit {0}

-- The contents agree with what the fetch of this number and name answered: it failed where it was
-- to fail, gave all that the name holds, or counted it.
abbrev pub IsAsTold : Contents → ℕ → List ℕ → Result (Vec ℕ Global) FetchFault → Type 0
IsAsTold contents number name (Ok bytes) = (contents.fails number name ≡ false)
    × (contents.held name ≡ Some bytes.items)
IsAsTold contents number name (Err faults.Failed) = contents.fails number name ≡ true
IsAsTold contents number name (Err (faults.TooLong k)) =
    (contents.fails number name ≡ false) × ((bytes : List ℕ) × (contents.held name ≡ Some bytes) × (length bytes ≡ k))
IsAsTold contents number name (Err faults.Memory) = Unit {0}

-- what a fetch does
pub record Fetches (old new : ShelfView) (name : List ℕ) (most : ℕ) (result : Result (Vec ℕ Global) FetchFault) :
    Type 0 where
  -- it appends its entry to the log
  pub logged : new.log ≡ old.log ++ entries_of name result
  -- what it gives is kept, for every shelf
  pub given : new.given ≡ old.given ++ texts_of result
  -- it gives at most so many bytes
  pub within : IsAtMost most result
  -- where the contents are told, it answers by them; its number is the length of the log
  pub told : IfSome old.told (λ contents. IsAsTold contents (length old.log) name result)
  -- it changes neither what is held nor which fetches fail
  pub unchanged : new.told ≡ old.told
