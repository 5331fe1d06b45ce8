-- What a shelf holds, found by the name.
use Rattle.std.proofs.Common.{◌≡◌, ℕ, List, [], ◌∷◌, Bool, true, false, Option, Some, map, find, string_bytes, refl}
use Rattle.std.proofs.Common.{sym, cond}
use Rattle.std.proofs.lemmas.Slice.Eq.{bytes_eq-Decides}
use Rattle.std.specs.Option.{option_map}
use Rattle.std.specs.Str.{bytes_eq}
use Rattle.dp_io.specs.declared.mem_shelf.Held.{Held}
use Rattle.dp_io.specs.Held.{pair_of}
use Rattle.dp_io.specs.MemShelf.{held_by, EachHoldsItsLatest}

-- the bytes of a file that was found
abbrev bytes_of : Option Held → Option (List ℕ)
bytes_of found = option_map (λ (h : Held). h.bytes.items) found

-- the bytes of a pair that was found
abbrev second_of : Option (List ℕ × List ℕ) → Option (List ℕ)
second_of found = option_map (λ (pair : List ℕ × List ℕ). pair.1) found

-- one step of the search, among files and among pairs
chosen : (b : Bool) (h : Held) (pairs : Option (List ℕ × List ℕ)) (rest : Option Held)
    → second_of pairs ≡ bytes_of rest → second_of (cond b (Some (pair_of h)) pairs) ≡ bytes_of (cond b (Some h) rest)
chosen true h pairs rest e = refl
chosen false h pairs rest e = e

-- what is found among the pairs is of the one that is found
pub held_by_last : (held : List Held) (name : List ℕ)
    → held_by (map pair_of held) name
    ≡ option_map (λ h. h.bytes.items) (find (λ h. bytes_eq (string_bytes h.name) name) held)
held_by_last [] name = refl
held_by_last (h ∷ held) name =
    chosen (bytes_eq (string_bytes h.name) name) h (find (λ pair. bytes_eq pair.0 name) (map pair_of held))
    (find (λ h. bytes_eq (string_bytes h.name) name) held) (held_by_last held name)

-- the latest pair is what its own name holds
first_found : (name bytes : List ℕ) (held : List (List ℕ × List ℕ)) (b : Bool) → b ≡ true
    → second_of (cond b (Some (name, bytes)) (find (λ pair. bytes_eq pair.0 name) held)) ≡ Some bytes
first_found name bytes held true e = refl
first_found name bytes held false e = cc

-- it is passed over by every other name
passed_over : (name bytes other : List ℕ) (held : List (List ℕ × List ℕ)) (b : Bool) → ¬ (b ≡ true)
    → second_of (cond b (Some (name, bytes)) (find (λ pair. bytes_eq pair.0 other) held)) ≡ held_by held other
passed_over name bytes other held true differs = absurd (differs refl)
passed_over name bytes other held false differs = refl

-- a name holds what it was made to hold last, and every other name what it held before
pub holds_latest : EachHoldsItsLatest
holds_latest held name bytes = record {
  given = first_found name bytes held (bytes_eq name name) ((bytes_eq-Decides name name).1 refl);
  others = λ other differs. passed_over name bytes other held (bytes_eq name other)
      (λ same. differs (sym ((bytes_eq-Decides name other).0 same)));
}
