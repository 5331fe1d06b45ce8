use Rattle.std.proofs.Common.{sym, ◌∙◌, arith}
use Rattle.dp_writer.proofs.ShortestDigits.{shortest_less, shortest_stays}
use Rattle.dp_writer.proofs.decimals.shortened.Goals as goal

pub loop-count-preserved : goal.loop-count-preserved
loop-count-preserved c =
    let l = c.loop-count in
    record {
      same = λ negative. shortest_less negative l.left l.count (omega (arith, c.if-left-eq0.true))
          (omega (arith, c.loop-count-test.true))
          ∙ l.invariant.same negative;
      fewer = omega (arith, l.invariant.fewer);
      some = λ above. omega (arith, l.invariant.some above, c.if-left-eq0.true);
    }

pub returns-else-left-eq0-clause-is : goal.returns-else-left-eq0-clause-is
returns-else-left-eq0-clause-is c =
    λ negative. let l = c.loop-count in sym (l.invariant.same negative)
    ∙ shortest_stays negative l.left l.count c.if-left-eq0.false
