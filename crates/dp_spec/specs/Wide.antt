-- Wide nodes: those of a bound tree below which nothing is refined. (Own.)
use Rattle.std.specs.Prelude.{ℕ, suc, ◌+◌, ◌*◌, ◌^◌, Bool, ◌&&◌, ◌||◌, not, ◌==◌, nat_lt, nat_le, List, [], ◌∷◌}
use Rattle.std.specs.Prelude.{length, Option, Some, None}
use Rattle.dp_spec.specs.JointNumbers.{product}
use Rattle.dp_spec.specs.Model.{Model, joint_actions}
use Rattle.dp_spec.specs.Front.{AgentFront, Front, class_counts}

-- how many classes of an agent have no action
abbrev pub none_count : List (Option ℕ) → ℕ
none_count [] = 0
none_count (None ∷ os) = suc (none_count os)
none_count (Some a ∷ os) = none_count os

-- how many classes of all agents have no action
abbrev pub unassigned_count : List AgentFront → ℕ
unassigned_count [] = 0
unassigned_count (d ∷ ds) = none_count d.chosen + unassigned_count ds

-- so many joint classes are within the limits on states and on joint actions
unfoldable pub is_room : Model → ℕ → Bool
is_room m classes = nat_le (m.states * classes) (2 ^ 22) && nat_le (joint_actions m * classes) (2 ^ 24)

-- the front is full, or its joint classes are within the limits
unfoldable pub has_room : Model → ℕ → Front → Bool
has_room m h F = F.stage == h || is_room m (product (class_counts F.agents))

-- for each agent how many classes it has after an advance
abbrev pub next_class_counts : List ℕ → List AgentFront → List ℕ
next_class_counts [] ds = []
next_class_counts (n ∷ ns) [] = []
next_class_counts (n ∷ ns) (d ∷ ds) = length d.chosen * n ∷ next_class_counts ns ds

-- a step is left after the next one, and the front would have no room after an advance
unfoldable pub widens : Model → ℕ → Front → Bool
widens m h F = nat_lt (suc F.stage) h && not (is_room m (product (next_class_counts m.observations F.agents)))

-- a node with so many branches and merges above it is wide: a step is left, and there are 2048 above it, or its last
-- choice would lead to a front without room
unfoldable pub is_wide : Model → ℕ → ℕ → Front → Bool
is_wide m h above F = nat_lt F.stage h && (nat_le 2048 above || unassigned_count F.agents == 1 && widens m h F)
