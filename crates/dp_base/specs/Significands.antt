-- The digits seen so far, kept as a number that does not end in 0 and the zeros behind it.
use Rattle.std.specs.Prelude.{◌≡◌, ◌≢◌, ℕ, ◌*◌, ◌%◌, ◌^◌, ◌<◌, ◌≤◌, List}
use Rattle.std.specs.Str.Parse.{digits_value}
use Rattle.dp_base.specs.declared.significand.Significand.{Significand}

-- n has so many digits, and its last digit is not 0
pub record HasLength (n len : ℕ) : Type 0 where
  pub high : n < 10 ^ len
  pub low : 10 ^ len ≤ n * 10
  pub ends : n % 10 ≢ 0

-- These digits write n with zeros behind it. A number of more than 36 digits is not kept.
pub record IsSeenAs (ds : List ℕ) (s : Significand) (n : ℕ) : Type 0 where
  pub value : digits_value 10 ds ≡ n * 10 ^ s.zeros
  pub none : s.len ≡ 0 → n ≡ 0
  pub some : 0 < s.len → HasLength n s.len
  pub kept : s.len ≤ 36 → s.number ≡ n

-- these digits are kept as the significand s
abbrev pub IsSeen : List ℕ → Significand → Type 0
IsSeen ds s = (n : ℕ) × IsSeenAs ds s n
