-- Inverses of odd numbers, modulo a power of 2.
use Rattle.std.specs.Prelude.{ℕ, ◌≡◌, ◌*◌, ◌/◌, ◌%◌, ◌^◌, ◌<◌}

-- the number, halved so often, is whole, and the inverse times it is 1 modulo 2^128
pub record IsInverted (number halvings inverse : ℕ) : Type 0 where
  pub some : 0 < number
  pub few : halvings < 128
  pub whole : number / 2 ^ halvings * 2 ^ halvings ≡ number
  pub undoes : number / 2 ^ halvings * inverse % 2 ^ 128 ≡ 1
