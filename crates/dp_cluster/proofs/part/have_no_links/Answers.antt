use Rattle.std.proofs.Common.{◌≡◌, ◌<◌, ◌+◌, length, map, ap, add-one, arith}
use Rattle.std.proofs.lemmas.Bool.Decides.{nat_tests}
use Rattle.std.proofs.lemmas.List.{length-map}
use Rattle.std.specs.Prelude.{vec_len}
use Rattle.dp_cluster.proofs.OwnNumbers.{leave_linked, leave_next, none_left}
use Rattle.dp_cluster.proofs.StageRows.{stage_at}
use Rattle.dp_cluster.proofs.part.have_no_links.Goals as goal

pub returns-then-not-is_empty-clause-no : goal.returns-then-not-is_empty-clause-no
returns-then-not-is_empty-clause-no c = λ e.
    let past = c.args.past.now in
    let size = length-map past (λ s. s.value) in
    let lt : c.loop-stage.stage-index < length past = omega arith in
    let s = c.as_ref.result.now in
    let read = stage_at past c.loop-stage.stage-index c.stage-item.result s lt c.stage-item.is c.as_ref.ensures in
    let test = c.is_empty.ensures in
    let full = c.if-not-is_empty.true in
    leave_linked s (map (λ s. s.value) past) c.loop-stage.stage-index (omega arith) read
    (λ none.
    let long = ap length none in
    let zero : vec_len s.links ≡ 0 = omega (arith, s.links.ok.0) in
    grind (arith, nat_tests, test, full, zero))
    c.loop-stage.invariant

pub loop-stage-preserved : goal.loop-stage-preserved
loop-stage-preserved c =
    let past = c.args.past.now in
    let size = length-map past (λ s. s.value) in
    let lt : c.loop-stage.stage-index < length past = omega arith in
    let s = c.as_ref.result.now in
    let read = stage_at past c.loop-stage.stage-index c.stage-item.result s lt c.stage-item.is c.as_ref.ensures in
    let test = c.is_empty.ensures in
    let empty = c.if-not-is_empty.false in
    let zero : vec_len s.links ≡ 0 = grind (arith, nat_tests, test, empty) in
    let none : length s.links.items ≡ 0 = omega (arith, s.links.ok.0) in
    leave_next s (map (λ s. s.value) past) c.loop-stage.stage-index (c.loop-stage.stage-index + 1)
    (add-one c.loop-stage.stage-index) (omega arith) read (none_left s.links.items none) c.loop-stage.invariant
