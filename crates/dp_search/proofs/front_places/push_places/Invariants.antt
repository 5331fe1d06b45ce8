use Rattle.std.proofs.Common.{◌≡◌, ◌≤◌, ◌+◌, ◌++◌, map, length}
use Rattle.dp_spec.specs.Arithmetic.{arithmetic}
use Rattle.dp_search.specs.FrontPlaces.{places_below}
use Rattle.dp_search.specs.Rules.{place_of, told_places}
use Rattle.dp_search.proofs.front_places.push_places.Given as goal

abbrev pub invariant-loop-class : goal.invariant-loop-class
invariant-loop-class l =
    (l.game ≡ l.fn.game)
    × (map place_of l.places.items ≡ map place_of l.fn.places.items
    ++ told_places l.spreads (places_below (arithmetic l.front.is_exact l.model.model.scales) l.model.model
    l.front.horizon l.look l.front.front l.agent l.class))
    × (length l.places.items ≤ length l.fn.places.items + l.class)
