-- What is read piece by piece.
use Rattle.std.proofs.Common.{ℕ, ◌≤◌, List, Option, length}
use Rattle.std.specs.Io.KnownBytes.{Consumes}

-- after so many pieces, none of them empty, these are the bytes that were read
pub record HasRead (old new : Option (List ℕ)) (bytes : List ℕ) (pieces limit : ℕ) : Type 0 where
  pub most : length bytes ≤ limit
  pub grown : pieces ≤ length bytes
  pub read : Consumes old new bytes
