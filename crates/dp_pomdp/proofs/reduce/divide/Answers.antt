use Rattle.dp_pomdp.proofs.Multiples.{end_dividing}
use Rattle.dp_pomdp.proofs.reduce.divide.Goals as goal

pub returns : goal.returns
returns c =
    end_dividing c.args.common c.args.weights.now c.loop-at.at _ c.requires.some c.requires.numbers
    c.requires.divisor c.loop-at-test.false c.loop-at.invariant
