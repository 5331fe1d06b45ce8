use Rattle.std.proofs.Common.{◌≡◌, ◌-◌, ◌+◌, ◌^◌, suc, length, ap, ◌∙◌, arith}
use Rattle.std.proofs.lemmas.Nat.{mod_below}
use Rattle.dp_cli.proofs.ShownTexts.{next_step, part_written, some_step}
use Rattle.dp_cli.proofs.shown.write_parts.Goals as goal

pub nonzero_div-part : goal.nonzero_div-part
nonzero_div-part c =
    let k = length c.args.parts.now - (c.loop-part.part-index + 1) in
    let left : length c.args.parts.now - c.loop-part.part-index ≡ suc k =
    omega (arith, c.loop-part-test.true, c.loop-part.auto.parts) in
    some_step c.args.base c.loop-part.rest c.loop-part.step k c.loop-part.invariant.below
    (c.loop-part.invariant.step ∙ ap (λ n. c.args.base ^ n) left)

pub nonzero_rem-rest : goal.nonzero_rem-rest
nonzero_rem-rest c =
    let k = length c.args.parts.now - (c.loop-part.part-index + 1) in
    let left : length c.args.parts.now - c.loop-part.part-index ≡ suc k =
    omega (arith, c.loop-part-test.true, c.loop-part.auto.parts) in
    some_step c.args.base c.loop-part.rest c.loop-part.step k c.loop-part.invariant.below
    (c.loop-part.invariant.step ∙ ap (λ n. c.args.base ^ n) left)

pub loop-part-preserved : goal.loop-part-preserved
loop-part-preserved c =
    let base = c.args.base in
    let rest = c.loop-part.rest in
    let step = c.loop-part.step in
    let i = c.loop-part.part-index in
    let len = length c.args.parts.now in
    let k = length c.args.parts.now - (c.loop-part.part-index + 1) in
    let left : length c.args.parts.now - c.loop-part.part-index ≡ suc k =
    omega (arith, c.loop-part-test.true, c.loop-part.auto.parts) in
    let is = c.loop-part.invariant.step ∙ ap (λ n. c.args.base ^ n) left in
    record {
      written = part_written base c.args.number rest step i len _ c.loop-part.parts c.loop-part.auto.parts
          (omega (arith, c.loop-part-test.true, c.loop-part.auto.parts)) c.loop-part.invariant.below
          c.loop-part.invariant.step c.loop-part.invariant.written;
      below = mod_below rest _ (some_step base rest step k c.loop-part.invariant.below is);
      step = next_step base rest step k c.loop-part.invariant.below is;
    }
