-- The table of what rewards are multiplied by.
use Rattle.std.specs.Prelude.{ℕ, ◌≡◌, ◌^◌, ◌<◌, ◌%◌, List, slice_index}
use Rattle.dp_spec.specs.declared.scales.Scales.{Scales}
use Rattle.dp_spec.specs.Arithmetic.{reward_factor}

-- Place i holds what a reward is multiplied by where i steps are left, modulo 2^128.
abbrev pub HoldsFactors : Scales → ℕ → List ℕ → Type 0
HoldsFactors c n factors = (i : ℕ) → i < n → slice_index factors i ≡ reward_factor c i % 2 ^ 128
