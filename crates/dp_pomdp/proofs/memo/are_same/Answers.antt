use Rattle.std.proofs.Common.{◌≡◌, ◌≤◌, length, arith, pos}
use Rattle.std.proofs.lemmas.List.{ext_get_or}
use Rattle.dp_spec.specs.Arithmetic.{point}
use Rattle.dp_pomdp.proofs.memo.are_same.Goals as goal

pub returns : goal.returns
returns c = λ _.
    let len : length c.args.some.now ≡ length c.args.others.now = omega arith in
    let all : length c.args.some.now ≤ c.loop-at.at = omega arith in
    ext_get_or (point (pos 0)) c.args.some.now c.args.others.now len
    (λ s lt. c.loop-at.invariant s (omega arith))
