use Rattle.std.proofs.Common.{◌≡◌, ◌<◌, ◌/◌, ◌%◌, ℕ, pos, length, get_or}
use Rattle.dp_cluster.specs.Joins.{own_count}
use Rattle.dp_search.specs.FrontPlaces.{kept_upper_weight}
use Rattle.dp_search.proofs.front_places.class_weights_of.Given as goal

abbrev pub invariant-loop-joint : goal.invariant-loop-joint
invariant-loop-joint l =
    (length l.weights.items ≡ own_count l.front l.agent)
    × ((c : ℕ) → c < own_count l.front l.agent
    → get_or l.weights.items c (pos 0) ≡ kept_upper_weight l.front l.agent c l.joint)
    × (l.place.class ≡ l.joint / l.width % l.count) × (l.place.inside ≡ l.joint % l.width)
