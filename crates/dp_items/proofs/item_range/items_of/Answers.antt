use Rattle.std.proofs.Common.{◌<◌, ◌-◌, length, sym, ap, ◌∙◌, arith}
use Rattle.dp_meaning.specs.Items.{begins_item, first_at}
use Rattle.dp_items.specs.ItemRanges.{no_line}
use Rattle.dp_items.proofs.ItemLemmas.{run_at}
use Rattle.dp_items.proofs.ItemRangeLemmas.{at_start, one_back, begins, goes_on}
use Rattle.dp_items.proofs.item_range.items_of.Goals as goal
use Rattle.dp_items.proofs.item_range.items_of.Goals.{After-begins_item}

inside : (c : After-begins_item) → c.loop-at.at - 1 < length c.args.lines.now
inside c =
    let within = c.loop-at.invariant.within in
    let in_order = c.loop-at.invariant.in_order in omega arith

pub loop-at-init : goal.loop-at-init
loop-at-init c = rw (c.len-past.ensures.is, c.new-items.ensures.items)
    (at_start c.args.end c.args.pieces.now c.args.lines.now c.requires.end)

pub between-own-requires-clause-in_order : goal.between-own-requires-clause-in_order
between-own-requires-clause-in_order c =
    let within = c.loop-at.invariant.within in
    let in_order = c.loop-at.invariant.in_order in
    let here : c.loop-at.at - 1 < length c.args.lines.now = omega arith in
    let line = run_at 0 c.args.lines.now (length c.args.pieces.now)
    (c.loop-at.at - 1) no_line c.requires.one_run here in omega arith

pub between-own-requires-clause-within : goal.between-own-requires-clause-within
between-own-requires-clause-within c =
    let within = c.loop-at.invariant.within in
    let in_order = c.loop-at.invariant.in_order in
    let here : c.loop-at.at - 1 < length c.args.lines.now = omega arith in
    (run_at 0 c.args.lines.now (length c.args.pieces.now) (c.loop-at.at - 1) no_line c.requires.one_run here).1

pub loop-at-preserved-then-begins_item : goal.loop-at-preserved-then-begins_item
loop-at-preserved-then-begins_item c =
    let so_far = one_back c.args.end c.args.pieces.now c.args.lines.now c.loop-at.at c.loop-at.before c.loop-at.past
    c.loop-at.next
    c.loop-at.items.items c.loop-at-test.true c.loop-at.invariant in
    let next = c.first_at-next.ensures.is ∙ ap (first_at c.args.end) c.between-own.ensures in
    let limit = rw next at (c.first_at-next.ensures.limit c.requires.end) in
    rw (c.in_ok-push.ensures.items, next)
    (begins c.args.end c.args.pieces.now c.args.lines.now c.requires.one_run (c.loop-at.at - 1)
    (inside (goal.at.loop-at-preserved-then-begins_item c).After-begins_item) c.loop-at.before c.loop-at.past
    c.loop-at.next
    c.loop-at.items.items so_far (sym (c.if-begins_item.ensures ∙ ap begins_item c.between-own.ensures)) limit)

pub loop-at-preserved : goal.loop-at-preserved
loop-at-preserved c =
    let so_far = one_back c.args.end c.args.pieces.now c.args.lines.now c.loop-at.at c.loop-at.before c.loop-at.past
    c.loop-at.next
    c.loop-at.items.items c.loop-at-test.true c.loop-at.invariant in
    goes_on c.args.end c.args.pieces.now c.args.lines.now c.requires.one_run (c.loop-at.at - 1)
    (inside (goal.at.loop-at-preserved c).After-begins_item) c.loop-at.before c.loop-at.past c.loop-at.next
    c.loop-at.items.items so_far (sym (c.if-begins_item.ensures ∙ ap begins_item c.between-own.ensures))
