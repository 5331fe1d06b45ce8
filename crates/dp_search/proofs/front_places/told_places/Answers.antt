use Rattle.std.proofs.Common.{◌<◌, ◌++◌, length, add-one, refl, sym, ap, ◌∙◌, arith}
use Rattle.std.specs.List.{flat_map, range_with_len}
use Rattle.dp_spec.specs.Arithmetic.{arithmetic}
use Rattle.dp_search.specs.FrontPlaces.{agent_places_of}
use Rattle.dp_search.specs.Rules.{told_places}
use Rattle.dp_search.proofs.PlaceLists.{agent_more, count_small, told_append, told_none}
use Rattle.dp_search.proofs.front_places.told_places.Goals as goal

pub loop-agent-init : goal.loop-agent-init
loop-agent-init c = rw c.new-places.ensures.items (refl, sym (told_none c.args.spreads), omega arith)

pub loop-agent-preserved : goal.loop-agent-preserved
loop-agent-preserved c =
    let k = c.args.front.now in
    let m = c.args.model.now.model in
    let A = arithmetic k.is_exact m.scales in
    let i = c.loop-agent.agent in
    let s = c.args.spreads in
    let all = agent_places_of A m k.horizon c.args.look k.front in
    let lt : i < length k.front.agents = omega (arith, c.agents-agent-end.ensures, c.loop-agent-test.true) in
    let few = count_small m k c.requires.of_model c.invariant.ensures c.requires.stage i lt in (
      c.in_ok-push_places.ensures.game ∙ c.loop-agent.invariant.0,
      c.in_ok-push_places.ensures.places
          ∙ ap (λ l. l ++ told_places s (all i)) c.loop-agent.invariant.1
          ∙ sym (told_append s (flat_map all (range_with_len 0 i)) (all i))
          ∙ ap (told_places s) (sym (agent_more A m k.horizon c.args.look k.front i))
          ∙ ap (λ n. told_places s (flat_map all (range_with_len 0 n))) (sym (add-one i)),
      omega (arith, few, c.in_ok-push_places.ensures.few, c.loop-agent.invariant.2),
    )
