use Rattle.std.proofs.lemmas.Result.{err_from_is_err_and}
use Rattle.dp_text.proofs.PartLemmas.{part_read, part_fault, part_missing, parts_end, parts_go_on}
use Rattle.std.proofs.Common.{◌≡◌, length, arith}
use Rattle.dp_text.proofs.parts.parts_in.Goals as goal

pub loop-place-preserved : goal.loop-place-preserved
loop-place-preserved c =
    rw c.in_ok-push.ensures.items
    (part_read c.loop-place.invariant c.index-axis-place.result c.in-Some.piece c.in_ok-part.part
    c.loop-place-test.true c.index-axis-place.is
    (rw c.pieces.ensures at c.in-Some.ensures) c.in_ok-part.ensures)

pub returns-in_err-part : goal.returns-in_err-part
returns-in_err-part c =
    let exit = err_from_is_err_and c.from_residual.result c.from_residual.ensures.1 in
    rw (exit.1, exit.2)
    (part_fault c.loop-place.invariant c.index-axis-place.result c.in-Some.piece c.in_err-part.field-0.0
    c.loop-place-test.true
    c.index-axis-place.is (rw c.pieces.ensures at c.in-Some.ensures) c.in_err-part.ensures)

pub returns-in-None : goal.returns-in-None
returns-in-None c =
    rw (c.fault.ensures, c.colon.ensures)
    (part_missing c.loop-place.invariant c.index-axis-place.result c.loop-place-test.true c.index-axis-place.is
    (rw c.pieces.ensures at c.in-None.ensures))

pub returns-in-None-get : goal.returns-in-None-get
returns-in-None-get c =
    let past : c.loop-place.place ≡ length c.args.axis.now = omega arith in
    rw c.of.ensures (parts_end c.loop-place.invariant past (rw (c.pieces-2.ensures, ← past) at c.in-None-get.ensures))

pub returns-in-Some-get : goal.returns-in-Some-get
returns-in-Some-get c =
    let past : c.loop-place.place ≡ length c.args.axis.now = omega arith in
    rw (c.fault-in-Some-get.ensures, c.at.ensures)
    (parts_go_on c.loop-place.invariant c.in-Some-get.piece past
    (rw (c.pieces-2.ensures, ← past) at c.in-Some-get.ensures))
