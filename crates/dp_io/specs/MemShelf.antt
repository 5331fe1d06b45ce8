-- What a shelf in memory means.
use Rattle.std.specs.Prelude.{◌≡◌, ◌≢◌, ℕ, ◌==◌, ◌||◌, List, ◌∷◌, Option, Some, is_none, find}
use Rattle.std.specs.List.{list_any}
use Rattle.std.specs.Option.{option_map}
use Rattle.std.specs.Str.{bytes_eq}
use Rattle.dp_io.specs.Shelf.{Entry, Contents, ShelfView}

-- a shelf in memory as contracts see it
pub record MemShelfView : Type 0 where
  -- the fetches so far, the first of them first
  pub log : List Entry
  -- the bytes of each fetch that was given, the first of them first
  pub given : List (List ℕ)
  -- each name that was made to hold something, with its bytes, the latest first
  pub held : List (List ℕ × List ℕ)
  -- the numbers of the fetches that are to fail
  pub failing : List ℕ

-- what the name was made to hold last
abbrev pub held_by : List (List ℕ × List ℕ) → List ℕ → Option (List ℕ)
held_by held name = option_map (λ pair. pair.1) (find (λ pair. bytes_eq pair.0 name) held)

-- A fetch fails exactly where its number is listed or its name holds nothing.
abbrev pub contents_of : MemShelfView → Contents
contents_of shelf = record {
  held = held_by shelf.held;
  fails = λ number name. list_any (λ listed. listed == number) shelf.failing || is_none (held_by shelf.held name);
}

-- A shelf in memory tells its contents.
abbrev pub shelf_view : MemShelfView → ShelfView
shelf_view shelf = record { log = shelf.log; given = shelf.given; told = Some (contents_of shelf) }

-- what is held once this name was made to hold these bytes, be they none
pub record HoldsLatest (held : List (List ℕ × List ℕ)) (name bytes : List ℕ) : Type 0 where
  pub given : held_by ((name, bytes) ∷ held) name ≡ Some bytes
  pub others : (other : List ℕ) → other ≢ name → held_by ((name, bytes) ∷ held) other ≡ held_by held other

-- A name holds what it was made to hold last, and every other name what it held before.
abbrev pub EachHoldsItsLatest : Type 0
EachHoldsItsLatest = (held : List (List ℕ × List ℕ)) (name bytes : List ℕ) → HoldsLatest held name bytes
