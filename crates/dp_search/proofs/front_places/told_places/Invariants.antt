use Rattle.std.proofs.Common.{◌≡◌, ◌≤◌, ◌*◌, ◌^◌, map, length}
use Rattle.std.specs.List.{flat_map, range_with_len}
use Rattle.dp_spec.specs.Arithmetic.{arithmetic}
use Rattle.dp_search.specs.FrontPlaces.{agent_places_of}
use Rattle.dp_search.specs.Rules.{place_of, told_places}
use Rattle.dp_search.proofs.front_places.told_places.Given as goal

abbrev pub invariant-loop-agent : goal.invariant-loop-agent
invariant-loop-agent l =
    (l.game ≡ l.fn.game)
    × (map place_of l.places.items ≡ told_places l.spreads (flat_map (agent_places_of
    (arithmetic l.front.is_exact l.model.model.scales)
    l.model.model l.front.horizon l.look l.front.front) (range_with_len 0 l.agent)))
    × (length l.places.items ≤ l.agent * 2 ^ 22)
