use Rattle.std.proofs.Common.{◌<◌, ◌-◌, ◌+◌, ◌∙◌, ap, length, map, arith}
use Rattle.std.proofs.lemmas.List.{length-map, map_push}
use Rattle.dp_cluster.proofs.StageRows.{rows_next, stage_at, stage_room}
use Rattle.dp_cluster.proofs.part.rows_of.Goals as goal

pub rows-requires-clause-room : goal.rows-requires-clause-room
rows-requires-clause-room c =
    let past = c.args.past.now in
    let ss = map (λ s. s.value) past in
    let after = length past - 1 - c.loop-stage.stage in
    let lt : after < length past = let on = c.loop-stage-test.true in omega arith in
    let size = length-map past (λ s. s.value) in
    stage_room c.args.observations ss after c.as_ref.result.now c.requires.stages (omega arith)
    (stage_at past after c.index-past-after.result c.as_ref.result.now lt c.index-past-after.is c.as_ref.ensures)

pub loop-stage-preserved : goal.loop-stage-preserved
loop-stage-preserved c =
    let past = c.args.past.now in
    let ss = map (λ s. s.value) past in
    let stage = c.loop-stage.stage in
    let after = length past - 1 - stage in
    let on : stage < length past = c.loop-stage-test.true in
    let lt : after < length past = omega arith in
    let size = length-map past (λ s. s.value) in
    rows_next c.args.observations ss (length past - stage) after (length past - (stage + 1))
    c.next_count-nexts.result c.as_ref.result.now (map (λ r. r.items) c.loop-stage.rows.items)
    (map (λ r. r.items) c.push.new.self.items) _ _ (omega arith) (omega arith) (omega arith)
    (stage_at past after c.index-past-after.result c.as_ref.result.now lt c.index-past-after.is c.as_ref.ensures)
    c.next_count-nexts.ensures.count c.in_ok-rows.ensures
    (ap (map (λ r. r.items)) c.in_ok-push.ensures.items
    ∙ map_push (λ r. r.items) c.loop-stage.rows.items c.in_ok-rows.field-0)
    c.loop-stage.invariant
