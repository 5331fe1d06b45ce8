use Rattle.std.proofs.Common.{◌≡◌, ◌/◌, ◌<◌, length, get_or, subst, arith, ◌∙◌}
use Rattle.dp_meaning.specs.declared.statement.Part.TheVariants.{Any}
use borrow.Rule.Slice.PartMut.{same_len_mid}
use Rattle.dp_tables.proofs.WritingLemmas.{AreWrittenUpTo, some_size, step_of, step_is, block_divides, next_written}
use Rattle.dp_tables.proofs.WritingLemmas.{written_whole, behind_first, positive_step, long_step}
use Rattle.dp_tables.proofs.writing.+write.Goals as goal

pub loop-i-preserved : goal.loop-i-preserved
loop-i-preserved g t c =
    let is = step_of c.args.sizes.now c.args.parts.now Any
    (some_size c.args.sizes.now c.args.parts.now c.requires.parts c.in-len1-up.len_at_least)
    c.in-len1-up.len_at_least in
    let e = step_is c.args.sizes.now _ _ (length c.args.cells.now) is.sizes_are c.requires.cells c.requires.some in
    let end = c.stretches-first.ensures.end in
    let below : c.loop-i.i < get_or c.args.sizes.now 0 0 = omega (arith, c.loop-i-test.true, end) in
    record {
      len = same_len_mid _ _ c.loop-i.cells c.write.new.cells c.write.auto.cells ∙ c.loop-i.invariant.len;
      written = next_written (get_or c.args.sizes.now 0 0) (behind_first c.args.sizes.now)
          (behind_first c.args.parts.now)
          c.args.block.now c.args.cells.now c.loop-i.cells c.write.new.cells
          (length c.args.cells.now / get_or c.args.sizes.now 0 0)
          c.stretches-first.result.0 c.loop-i.i
          (positive_step _ _ _ _ is.sizes_are c.requires.some e)
          (long_step _ _ _ _ is.sizes_are c.requires.cells e) below c.loop-i.auto.i c.loop-i.invariant.len
          c.write.auto.cells
          (block_divides c.args.sizes.now c.args.parts.now _ _ _ _ (length c.args.block.now) _ is c.requires.block e)
          c.loop-i.invariant.written c.write.ensures;
    }

pub returns : goal.returns
returns g t c =
    let is = step_of c.args.sizes.now c.args.parts.now Any
    (some_size c.args.sizes.now c.args.parts.now c.requires.parts c.in-len1-up.len_at_least)
    c.in-len1-up.len_at_least in
    let e = step_is c.args.sizes.now _ _ (length c.args.cells.now) is.sizes_are c.requires.cells c.requires.some in
    let last : c.loop-i.i ≡ c.stretches-first.result.1 = omega
    (arith, c.loop-i-test.false, c.loop-i.auto.i-end, c.stretches-first.ensures.first) in
    written_whole c.args.sizes.now c.args.parts.now _ _ _ _ _ c.stretches-first.result.0 c.stretches-first.result.1
    c.args.block.now
    c.args.cells.now c.loop-i.cells
    is e c.requires.cells c.stretches-first.ensures.within
    (subst (λ i. AreWrittenUpTo (length c.args.cells.now / get_or c.args.sizes.now 0 0) c.stretches-first.result.0 i
    (behind_first c.args.sizes.now) (behind_first c.args.parts.now) c.args.block.now c.args.cells.now c.loop-i.cells)
    last c.loop-i.invariant.written)
