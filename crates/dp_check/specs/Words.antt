-- The words of a verdict, by what is counted. (Own.)
use Rattle.std.specs.Prelude.{ℤ, ◌≤ℤ◌, Option, Some, None}

-- a number, if there is one, is at most x
abbrev pub AtMost : Option ℤ → ℤ → Type 0
AtMost None x = Unit {0}
AtMost (Some y) x = y ≤ℤ x

-- a number, if there is one, is at least x
abbrev pub AtLeast : Option ℤ → ℤ → Type 0
AtLeast None x = Unit {0}
AtLeast (Some y) x = x ≤ℤ y

-- the first of two numbers, if there are both, is at most the second
abbrev pub AreInOrder : Option ℤ → Option ℤ → Type 0
AreInOrder None o = Unit {0}
AreInOrder (Some x) o = AtLeast o x
