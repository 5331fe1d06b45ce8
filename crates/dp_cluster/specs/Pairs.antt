-- The joint class and the joint observation that lead to a joint class of the next stage.
use Rattle.std.specs.Prelude.{ℕ, ◌+◌, ◌*◌, ◌/◌, ◌%◌, List, [], ◌∷◌}
use Rattle.dp_spec.specs.JointNumbers.{product}
use Rattle.dp_spec.specs.ClassSteps.{pair_counts}

-- the joint class, for agents with cs classes and ns observations
abbrev pub pair_class : List ℕ → List ℕ → ℕ → ℕ
pair_class [] ns x = 0
pair_class (c ∷ cs) [] x = 0
pair_class (c ∷ cs) (n ∷ ns) x =
    x / product (pair_counts cs ns) / n * product cs + pair_class cs ns (x % product (pair_counts cs ns))

-- the joint observation
abbrev pub pair_seen : List ℕ → List ℕ → ℕ → ℕ
pair_seen [] ns x = 0
pair_seen (c ∷ cs) [] x = 0
pair_seen (c ∷ cs) (n ∷ ns) x =
    x / product (pair_counts cs ns) % n * product ns + pair_seen cs ns (x % product (pair_counts cs ns))
