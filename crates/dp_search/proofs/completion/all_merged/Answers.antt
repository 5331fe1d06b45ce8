use Rattle.std.proofs.Common.{ap, ◌∙◌}
use Rattle.dp_spec.specs.Front.{Front}
use Rattle.dp_search.proofs.Expansions.{of_some}
use Rattle.dp_search.proofs.UnderwayFronts.{merge_leaves_fewer, merge_of_search}
use Rattle.dp_search.proofs.completion.all_merged.Goals as goal

pub loop-reached-init : goal.loop-reached-init
loop-reached-init c =
    let k = c.args.front.now in
    let pair = c.in-Some.pair in
    let next = c.in_ok-reached-in-Some in (
      λ m h is. merge_of_search k pair.agent pair.first pair.second next.reached next.ensures.front
          next.ensures.horizon m h is
          (of_some _ _ pair c.in-Some.is c.in_ok-pair.ensures.pair m is.of_planner.of_model)
          (next.ensures.of_model m is.of_planner.of_model),
      ap (λ (F : Front). F.stage) next.ensures.front,
      next.ensures.horizon,
    )

pub pair_to_merge-requires-in-loop-reached-clause-of_model :
    goal.pair_to_merge-requires-in-loop-reached-clause-of_model
pair_to_merge-requires-in-loop-reached-clause-of_model c =
    let given = c.requires.of_search in
    (given.0, (c.loop-reached.invariant.0 given.0 given.1 given.2).of_planner.of_model)

pub joined-requires-in-Some-2-clause-pair : goal.joined-requires-in-Some-2-clause-pair
joined-requires-in-Some-2-clause-pair c =
    let given = c.requires.of_search in
    let m = given.0 in
    let of_model = (c.loop-reached.invariant.0 m given.1 given.2).of_planner.of_model in
    (m, (of_model, of_some _ _ c.in-Some-2.pair c.in-Some-2.is c.in_ok-pair-2.ensures.pair m of_model))

pub loop-reached-smaller : goal.loop-reached-smaller
loop-reached-smaller c =
    let given = c.requires.of_search in
    let m = given.0 in
    let of_model = (c.loop-reached.invariant.0 m given.1 given.2).of_planner.of_model in
    let pair = c.in-Some-2.pair in
    let next = c.in_ok-reached in
    merge_leaves_fewer c.loop-reached.reached pair.agent pair.first pair.second next.reached next.ensures.front
    next.ensures.horizon
    (of_some _ _ pair c.in-Some-2.is c.in_ok-pair-2.ensures.pair m of_model).second

pub loop-reached-preserved : goal.loop-reached-preserved
loop-reached-preserved c =
    let k = c.loop-reached.reached in
    let pair = c.in-Some-2.pair in
    let next = c.in_ok-reached in (
      λ m h given.
          let is = c.loop-reached.invariant.0 m h given in
          merge_of_search k pair.agent pair.first pair.second next.reached next.ensures.front
          next.ensures.horizon m h is
          (of_some _ _ pair c.in-Some-2.is c.in_ok-pair-2.ensures.pair m is.of_planner.of_model)
          (next.ensures.of_model m is.of_planner.of_model),
      ap (λ (F : Front). F.stage) next.ensures.front ∙ c.loop-reached.invariant.1,
      next.ensures.horizon ∙ c.loop-reached.invariant.2,
    )
