-- The greatest bound so far, child after child. (Own.)
use Rattle.std.specs.Prelude.{Bool, ℤ, cond}
use Rattle.std.specs.Int.{int_max}

-- the greater of two bounds, or the second where there is no first
abbrev pub greatest_after : Bool → ℤ → ℤ → ℤ
greatest_after some first second = cond some (int_max first second) second
