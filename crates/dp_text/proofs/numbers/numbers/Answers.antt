use Rattle.std.proofs.Common.{sym}
use Rattle.std.proofs.lemmas.Result.{err_from_is_err_and}
use Rattle.dp_meaning.specs.Numbers as spec
use Rattle.dp_text.specs.Ranges.{is_in}
use Rattle.dp_text.proofs.NumberLemmas.{numbers_one, numbers_missing, numbers_fault, numbers_end, numbers_more}
use Rattle.dp_text.proofs.numbers.numbers.Goals as goal

pub loop-left-preserved : goal.loop-left-preserved
loop-left-preserved c =
    let in_range = is_in c.args.range in
    rw c.in_ok-push.ensures.items
    (numbers_one in_range c.args.next (spec.numbers in_range c.args.next c.args.count c.args.pieces.now)
    c.loop-left.values.items
    c.loop-left.left c.in-Some.parts.0 c.in-Some.parts.1 c.loop-left.rest c.in_ok-value.value
    c.loop-left-test.true c.in-Some.ensures c.in_ok-value.ensures c.loop-left.invariant)

pub returns-in-None : goal.returns-in-None
returns-in-None c =
    let in_range = is_in c.args.range in
    rw c.fault.ensures
    (numbers_missing in_range c.args.next (spec.numbers in_range c.args.next c.args.count c.args.pieces.now)
    c.loop-left.values.items
    c.loop-left.left c.loop-left.rest
    c.loop-left-test.true c.in-None.ensures c.loop-left.invariant)

pub returns-in_err-value : goal.returns-in_err-value
returns-in_err-value c =
    let in_range = is_in c.args.range in
    let exit = err_from_is_err_and c.from_residual.result c.from_residual.ensures.1 in
    rw (exit.1, exit.2)
    (numbers_fault in_range c.args.next (spec.numbers in_range c.args.next c.args.count c.args.pieces.now)
    c.loop-left.values.items
    c.loop-left.left c.in-Some.parts.0 c.in-Some.parts.1 c.loop-left.rest c.in_err-value.field-0.0
    c.loop-left-test.true c.in-Some.ensures c.in_err-value.ensures c.loop-left.invariant)

pub returns : goal.returns
returns c =
    let in_range = is_in c.args.range in
    rw c.of.ensures
    (numbers_end in_range c.args.next (spec.numbers in_range c.args.next c.args.count c.args.pieces.now)
    c.loop-left.values.items
    c.loop-left.left c.loop-left.rest c.loop-left-test.false (sym c.in_ok-ended.ensures) c.loop-left.invariant)

pub returns-in_err-ended : goal.returns-in_err-ended
returns-in_err-ended c =
    let in_range = is_in c.args.range in
    let exit = err_from_is_err_and c.from_residual-in_err-ended.result c.from_residual-in_err-ended.ensures.1 in
    rw (exit.1, exit.2)
    (numbers_more in_range c.args.next (spec.numbers in_range c.args.next c.args.count c.args.pieces.now)
    c.loop-left.values.items
    c.loop-left.left c.loop-left.rest c.in_err-ended.field-0.0 c.loop-left-test.false
    (sym c.in_err-ended.ensures) c.loop-left.invariant)
