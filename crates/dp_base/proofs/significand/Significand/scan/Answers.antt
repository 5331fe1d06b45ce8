use Rattle.std.proofs.Common.{◌≡◌, ◌++◌, true, get_or, take, sym, ◌∙◌, arith}
use Rattle.std.specs.Char.{is_ascii_digit}
use Rattle.dp_base.proofs.DigitRuns.{run_more, run_stop, run_end, seen_more, seen_run}
use Rattle.dp_base.proofs.significand.Significand.scan.Goals as goal

pub returns-then-not-is_ascii_digit-clause-count : goal.returns-then-not-is_ascii_digit-clause-count
returns-then-not-is_ascii_digit-clause-count c =
    sym (run_stop c.args.text.now c.loop-count.count c.loop-count.invariant.run (sym c.is_ascii_digit.ensures.value
    ∙ c.if-not-is_ascii_digit.true))

pub returns-then-not-is_ascii_digit-clause-seen : goal.returns-then-not-is_ascii_digit-clause-seen
returns-then-not-is_ascii_digit-clause-seen c = λ ds seen.
    let stop = run_stop c.args.text.now c.loop-count.count c.loop-count.invariant.run
    (sym c.is_ascii_digit.ensures.value ∙ c.if-not-is_ascii_digit.true) in
    seen_run ds c.args.text.now c.loop-count.count c.loop-count.seen stop (c.loop-count.invariant.seen ds seen)

pub loop-count-preserved : goal.loop-count-preserved
loop-count-preserved c =
    let text = c.args.text.now in
    let i = c.loop-count.count in
    let digit : is_ascii_digit (get_or c.args.text.now c.loop-count.count 0) ≡ true =
    sym c.is_ascii_digit.ensures.value ∙ c.if-not-is_ascii_digit.false in
    record {
      seen = λ ds seen. seen_more ds text i c.push-seen.result c.loop-count-test.true digit
          (c.push-seen.ensures.seen (ds ++ take i text) (c.loop-count.invariant.seen ds seen));
      run = run_more text i c.loop-count.invariant.run c.loop-count-test.true digit;
      room = omega (arith, c.loop-count.invariant.room, c.push-seen.ensures.room);
    }

pub returns-clause-count : goal.returns-clause-count
returns-clause-count c = omega (
  arith,
  run_end c.args.text.now c.loop-count.count c.loop-count.invariant.run
      c.loop-count-test.false,
)

pub returns-clause-seen : goal.returns-clause-seen
returns-clause-seen c = λ ds seen.
    seen_run ds c.args.text.now c.loop-count.count c.loop-count.seen
    (run_end c.args.text.now c.loop-count.count c.loop-count.invariant.run c.loop-count-test.false)
    (c.loop-count.invariant.seen ds seen)
