use Rattle.std.proofs.Common.{◌*◌, ◌%◌, ◌-◌, ◌<◌, arith}
use Rattle.std.proofs.Math.Nat.{mod-lt}
use Rattle.dp_spec.proofs.ModelLaws.{some_joint_observation}
use Rattle.dp_pomdp.proofs.KeyRows.{early_row, next_at, parent_of, some_pairs}
use Rattle.dp_pomdp.proofs.key_rows.row_at.Goals as goal

pub nonzero_rem-pair : goal.nonzero_rem-pair
nonzero_rem-pair c =
    rw (c.joint_actions.ensures.is, c.joint_observations-seen.ensures.is)
    (some_pairs c.args.model.now.model c.invariant.ensures.model)

pub nonzero_div-row : goal.nonzero_div-row
nonzero_div-row c =
    rw (c.joint_actions.ensures.is, c.joint_observations-seen.ensures.is)
    (some_pairs c.args.model.now.model c.invariant.ensures.model)

pub nonzero_div-pair : goal.nonzero_div-pair
nonzero_div-pair c =
    rw c.joint_observations-seen.ensures.is (some_joint_observation c.args.model.now.model c.invariant.ensures.model)

pub nonzero_rem-pair-2 : goal.nonzero_rem-pair-2
nonzero_rem-pair-2 c =
    rw c.joint_observations-seen.ensures.is (some_joint_observation c.args.model.now.model c.invariant.ensures.model)

pub overflow_cast-pair-2 : goal.overflow_cast-pair-2
overflow_cast-pair-2 c =
    let some : 0 < c.joint_observations-seen.result =
    rw c.joint_observations-seen.ensures.is
    (some_joint_observation c.args.model.now.model c.invariant.ensures.model) in
    let less =
    mod-lt ((c.args.place - 1) % (c.joint_actions.result * c.joint_observations-seen.result)) some in
    omega (arith, less, c.joint_observations-seen.ensures.limit)

pub next_row-requires-clause-time : goal.next_row-requires-clause-time
next_row-requires-clause-time c =
    let m = c.args.model.now.model in
    let fit = c.args.fit in
    let some : 0 < c.args.place = omega arith in
    early_row fit.exact m c.invariant.ensures.model fit.horizon fit.unit c.requires.fit c.args.place c.requires.place
    some (some_pairs m c.invariant.ensures.model) c.index-rows-place.result
    (parent_of fit.exact m c.invariant.ensures.model c.args.rows.now c.args.place _ _ c.index-rows-place.result
    c.joint_actions.ensures.is c.joint_observations-seen.ensures.is some c.requires.rows c.requires.count
    c.index-rows-place.is)

pub next_row-requires-clause-one_each : goal.next_row-requires-clause-one_each
next_row-requires-clause-one_each c =
    let m = c.args.model.now.model in
    let some : 0 < c.args.place = omega arith in
    let are =
    parent_of c.args.fit.exact m c.invariant.ensures.model c.args.rows.now c.args.place _ _ c.index-rows-place.result
    c.joint_actions.ensures.is c.joint_observations-seen.ensures.is some c.requires.rows c.requires.count
    c.index-rows-place.is in
    are.one_each

pub next_row-requires-clause-weights : goal.next_row-requires-clause-weights
next_row-requires-clause-weights c =
    let m = c.args.model.now.model in
    let some : 0 < c.args.place = omega arith in
    let are =
    parent_of c.args.fit.exact m c.invariant.ensures.model c.args.rows.now c.args.place _ _ c.index-rows-place.result
    c.joint_actions.ensures.is c.joint_observations-seen.ensures.is some c.requires.rows c.requires.count
    c.index-rows-place.is in
    are.weights

pub next_row-requires-clause-seen : goal.next_row-requires-clause-seen
next_row-requires-clause-seen c =
    let some : 0 < c.joint_observations-seen.result =
    rw c.joint_observations-seen.ensures.is
    (some_joint_observation c.args.model.now.model c.invariant.ensures.model) in
    let less =
    mod-lt ((c.args.place - 1) % (c.joint_actions.result * c.joint_observations-seen.result)) some in
    omega (arith, less, c.joint_observations-seen.ensures.is)

pub returns : goal.returns
returns c =
    let m = c.args.model.now.model in
    let fit = c.args.fit in
    let some : 0 < c.args.place = omega arith in
    let are =
    parent_of fit.exact m c.invariant.ensures.model c.args.rows.now c.args.place _ _ c.index-rows-place.result
    c.joint_actions.ensures.is c.joint_observations-seen.ensures.is some c.requires.rows c.requires.count
    c.index-rows-place.is in
    next_at fit.exact m c.invariant.ensures.model fit.horizon fit.unit c.requires.fit c.args.place _ _
    c.joint_actions.ensures.is c.joint_observations-seen.ensures.is some c.requires.place c.index-rows-place.result
    c.in_ok-next.next are c.in_ok-next.ensures.time c.in_ok-next.ensures.one_each c.in_ok-next.ensures.pushed
