use Rattle.std.proofs.Common.{◌<◌, length, ◌∙◌, arith, rules}
use Rattle.std.specs.Int.{w128}
use Rattle.std.proofs.lemmas.Int.{to_z-of_z}
use mir.Val.{SFits}
use Rattle.dp_pomdp.proofs.KeyTables.{look_of_row, more_looks, read_row, row_early}
use Rattle.dp_pomdp.proofs.keys.look_aheads.Goals as goal

pub look_at-requires-clause-time : goal.look_at-requires-clause-time
look_at-requires-clause-time c =
    let m = c.args.model.now.model in
    let fit = c.args.fit in
    let inside : c.loop-place.place < length c.args.rows.now = omega arith in
    let row = read_row fit.exact m c.args.rows.now c.requires.rows c.loop-place.place c.index-rows-place.result inside
    c.index-rows-place.is in
    let count = c.requires.count in
    let early = row_early fit.exact m c.invariant.ensures.model fit.horizon c.loop-place.place
    c.index-rows-place.result row (omega (arith, inside, count)) in
    omega (arith, early)

pub look_at-requires-clause-one_each : goal.look_at-requires-clause-one_each
look_at-requires-clause-one_each c =
    let inside : c.loop-place.place < length c.args.rows.now = omega arith in
    let row =
    read_row c.args.fit.exact c.args.model.now.model c.args.rows.now c.requires.rows c.loop-place.place
    c.index-rows-place.result inside c.index-rows-place.is in
    row.one_each

pub look_at-requires-clause-weights : goal.look_at-requires-clause-weights
look_at-requires-clause-weights c =
    let inside : c.loop-place.place < length c.args.rows.now = omega arith in
    let row =
    read_row c.args.fit.exact c.args.model.now.model c.args.rows.now c.requires.rows c.loop-place.place
    c.index-rows-place.result inside c.index-rows-place.is in
    row.weights

pub loop-place-preserved : goal.loop-place-preserved
loop-place-preserved c =
    let inside : c.loop-place.place < length c.args.rows.now = omega arith in
    let fits : SFits w128 c.look_at.result = search rules in
    record {
      filled = search rules;
      values = more_looks (look_of_row c.args.fit.exact c.args.model.now.model c.args.fit.horizon) c.args.rows.now
          c.loop-place.values.items c.push.new.self.items c.loop-place.place _ c.index-rows-place.result inside
          c.index-rows-place.is (to_z-of_z w128 _ fits ∙ c.look_at.ensures.is) c.loop-place.invariant.filled
          c.in_ok-push.ensures.items c.loop-place.invariant.values;
      room = c.look_at.ensures.room;
    }
