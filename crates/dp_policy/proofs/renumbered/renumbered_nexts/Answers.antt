use Rattle.std.proofs.Common.{add-one, get_or, refl}
use Rattle.dp_policy.proofs.NewNumbers.{numbered_next}
use Rattle.dp_policy.proofs.renumbered.renumbered_nexts.Goals as goal

pub loop-place-preserved : goal.loop-place-preserved
loop-place-preserved c =
    let k = c.loop-place.place in
    record {
      numbering = c.in_ok-new_number.ensures.numbering;
      news = rw (add-one, c.in_ok-push.ensures.items)
          (numbered_next c.args.kinds.now k c.args.nexts.now c.args.later.now.items c.loop-place.later.items
          c.new_number.new.later.items c.loop-place.news.items
          c.in_ok-new_number.field-0 (get_or c.args.nexts.now k 0) c.loop-place.invariant.news
          c.in_ok-new_number.ensures.number refl c.in_ok-new_number.ensures.same);
    }
