-- Branching rules: what may be asked of one, and what it may answer. (Own.)
use Rattle.std.specs.Prelude.{ℕ, ◌<◌, ◌≤◌, ◌≡◌, ◌^◌, Bool, true, false, List, length, map, pos}
use Rattle.std.specs.Fn.{FnReturnsAt, Shared}
use denote.Ref.{Bor}
use Rattle.dp_spec.specs.Qualities as qualities
use Rattle.dp_search.specs.declared.place.Place.{Place}

-- the place of the definitions
abbrev pub place_of : Place → qualities.Place
place_of p = record { agent = p.agent; class = p.class; weight = p.weight; spread = pos p.spread }

-- a rule, and whether it is told the spreads of places
pub record KeptChooser (F : Type 0) : Type 0 where
  pub rule : F
  pub spreads : Bool

-- what is told of a place without its spread
abbrev pub without_spread : qualities.Place → qualities.Place
without_spread p = record { agent = p.agent; class = p.class; weight = p.weight; spread = pos 0 }

-- what is told of a place, and of places: all of each, or all but the spread
abbrev pub told_place : Bool → qualities.Place → qualities.Place
told_place true p = p
told_place false p = without_spread p

abbrev pub told_places : Bool → List qualities.Place → List qualities.Place
told_places true places = places
told_places false places = map without_spread places

-- A rule that may be called on every list of 1 to 2^26 places, and answers a number below its length.
pub record IsBranchingRule {F : Type 0} (g : Shared F (Bor (List Place) × Unit {0}) ℕ) (rule : F) : Type 0 where
  pub callable : (places : Bor (List Place)) → 0 < length places.now → length places.now ≤ 2 ^ 26
      → g.pre rule (places, tt)
  pub below : (places : List Place) (x : ℕ) → 0 < length places → length places ≤ 2 ^ 26
      → FnReturnsAt g rule places x → x < length places

-- what the rule may answer for places of the definitions, of which it is told as much as it is to be
abbrev pub MayAnswer : {F : Type 0} → Shared F (Bor (List Place) × Unit {0}) ℕ → KeptChooser F
    → List qualities.Place → ℕ → Type 0
MayAnswer g chooser places x =
    (told : List Place) × (map place_of told ≡ told_places chooser.spreads places)
    × FnReturnsAt g chooser.rule told x
