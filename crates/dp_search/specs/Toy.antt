-- A small space for tests: a binary tree of numbers.
use Rattle.std.specs.Prelude.{ℕ, ◌+◌, ◌-◌, ◌*◌, not, nat_lt, pos, [], ◌∷◌}
use Rattle.dp_spec.specs.Front.{Front}
use Rattle.dp_spec.specs.Space.{Space}

-- number n as a front
abbrev pub toy_front : ℕ → Front
toy_front n = record { stage = n; agents = [] }

abbrev pub toy_space : Space
toy_space = record {
  root = toy_front 1;
  next = λ F s. toy_front (2 * F.stage) ∷ toy_front (2 * F.stage + 1) ∷ [];
  May = λ F s. Unit {0};
  bound = λ F. pos (100 - F.stage);
  is_full = λ F. not (nat_lt F.stage 8);
  is_wide = λ d F. not (nat_lt d 2048);
  worth = λ F. pos (70 + F.stage);
}
