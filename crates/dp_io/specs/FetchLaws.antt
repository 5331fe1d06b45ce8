-- What follows of every fetch.
use Rattle.std.specs.Prelude.{◌≡◌, ℕ, ◌<◌, ◌≤◌, ◌⊎◌, nat_lt, if◌then◌else◌, List, length, Option, Some, None, Result}
use Rattle.std.specs.Prelude.{Ok, Err, Vec}
use Rattle.std.specs.declared.alloc.Global.{Global}
use Rattle.dp_io.specs.declared.shelf.FetchFault.{FetchFault}
use Rattle.dp_io.specs.declared.shelf.FetchFault.TheVariants as faults
use Rattle.dp_io.specs.Shelf.{Contents, ShelfView, Fetches, fault_count}

-- The count of faults goes from old to new: it rises exactly where the fetch failed, and never falls.
pub record RisesWith (old new : ℕ) (result : Result (Vec ℕ Global) FetchFault) : Type 0 where
  pub failed : result ≡ Err faults.Failed → old < new
  pub risen : old < new → result ≡ Err faults.Failed
  pub never_falls : old ≤ new

-- A fetch fails exactly where the count of faults rises.
abbrev pub FaultsRiseWithFailed : Type 0
FaultsRiseWithFailed = (old new : ShelfView) (name : List ℕ) (most : ℕ) (result : Result (Vec ℕ Global) FetchFault)
    → Fetches old new name most result → RisesWith (fault_count old.log) (fault_count new.log) result

-- what a fetch answered, with the bytes that were given as a list
abbrev pub fetched : Result (Vec ℕ Global) FetchFault → Result (List ℕ) FetchFault
fetched (Ok bytes) = Ok bytes.items
fetched (Err fault) = Err fault

-- the answer of a fetch that does not fail: what the name holds, or its length where that is too much
abbrev pub fetch_of_held : Option (List ℕ) → ℕ → Result (List ℕ) FetchFault
fetch_of_held None most = Err faults.Memory
fetch_of_held (Some bytes) most = if nat_lt most (length bytes) then Err (faults.TooLong (length bytes)) else Ok bytes

-- The answer that the contents determine for the fetch of this number and name. A name that holds
-- nothing and is not to fail leaves only want of memory.
abbrev pub fetch_answer : Contents → ℕ → List ℕ → ℕ → Result (List ℕ) FetchFault
fetch_answer contents number name most =
    if contents.fails number name then Err faults.Failed else fetch_of_held (contents.held name) most

-- Where the contents are told, they determine what a fetch answers, want of memory aside.
abbrev pub ToldFetchIsDetermined : Type 0
ToldFetchIsDetermined = (old new : ShelfView) (contents : Contents) (name : List ℕ) (most : ℕ)
    (result : Result (Vec ℕ Global) FetchFault)
    → old.told ≡ Some contents → Fetches old new name most result
    → (result ≡ Err faults.Memory) ⊎ (fetched result ≡ fetch_answer contents (length old.log) name most)
