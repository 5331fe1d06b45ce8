-- What a sink means, and what a put does.
use Rattle.std.specs.Prelude.{◌≡◌, ℕ, ◌+◌, ◌<◌, ◌≤◌, Bool, true, false, List, [], ◌∷◌, ◌++◌, length, take, Option}
use Rattle.std.specs.Prelude.{Some, None, Result, Ok, Err, MatchResult}

-- what a sink has that tells it
pub record Output : Type 0 where
  -- the bytes that were appended so far
  pub bytes : List ℕ
  -- whether the next put fails if it is of so many bytes
  pub fails : ℕ → Bool

-- a sink as contracts see it
pub record SinkView : Type 0 where
  -- how many puts there were
  pub puts : ℕ
  -- how many bytes they were of, all together
  pub offered : ℕ
  -- the count of faults: how many of them failed
  pub faults : ℕ
  -- their texts, the first of them first, whether or not they were taken
  pub texts : List (List ℕ)
  -- the output, and None where the sink does not tell it
  pub told : Option Output

-- Some of the first bytes were appended: none, all, or any number between.
abbrev pub AppendsPrefix : List ℕ → List ℕ → List ℕ → Type 0
AppendsPrefix old new bytes = (count : ℕ) × (new ≡ old ++ take count bytes)

-- A put fails exactly where it was to fail. Else it appends all the bytes, and if it fails a prefix of them.
abbrev pub IsAsTold : {T E : Type 0} → Output → Output → List ℕ → Result T E → Type 0
IsAsTold old new bytes (Ok done) = (old.fails (length bytes) ≡ false) × (new.bytes ≡ old.bytes ++ bytes)
IsAsTold old new bytes (Err fault) = (old.fails (length bytes) ≡ true) × AppendsPrefix old.bytes new.bytes bytes

-- the same where a sink tells its output, which it goes on to do
abbrev pub IsAsTheyTell : {T E : Type 0} → Option Output → Option Output → List ℕ → Result T E → Type 0
IsAsTheyTell (Some old) (Some new) bytes result = IsAsTold old new bytes result
IsAsTheyTell (Some old) None bytes result = ⊥
IsAsTheyTell None (Some new) bytes result = ⊥
IsAsTheyTell None None bytes result = Unit {0}

-- what a put does
pub record Puts {T E : Type 0} (old new : SinkView) (bytes : List ℕ) (result : Result T E) : Type 0 where
  -- it is one more put
  pub puts : new.puts ≡ old.puts + 1
  -- its bytes are counted, whether or not they were taken
  pub offered : new.offered ≡ old.offered + length bytes
  -- its text is kept, for every sink
  pub texts : new.texts ≡ old.texts ++ bytes ∷ []
  -- the count of faults rises exactly where the put failed, and never falls
  pub cause : MatchResult result (λ _. new.faults ≡ old.faults) (λ _. old.faults < new.faults)
  -- there are never more faults than puts
  pub within_puts : new.faults ≤ new.puts
  -- where the output is told, it grew as it should
  pub told : IsAsTheyTell old.told new.told bytes result
