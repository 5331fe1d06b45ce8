use Rattle.std.proofs.Common.{sym, ap, ◌∙◌, map, arith}
use Rattle.std.specs.Prelude.{slice_get}
use Rattle.dp_meaning.specs.Items.{Item, pieces_of}
use Rattle.dp_items.proofs.ItemLemmas.{run_at, line_by_place, no_line}
use Rattle.dp_items.proofs.item.Item.line_behind.Goals as goal

pub between-requires-clause-in_order : goal.between-requires-clause-in_order
between-requires-clause-in_order c =
    let line = run_at c.self.inside.first.past c.self.inside.more.now c.self.inside.past c.args.i
    (record { first = 0; past = 0; ends = 0 }) c.self.invariant.one_run c.if-i-self.true in omega arith

pub between-requires-clause-within : goal.between-requires-clause-within
between-requires-clause-within c =
    let line = run_at c.self.inside.first.past c.self.inside.more.now c.self.inside.past c.args.i
    (record { first = 0; past = 0; ends = 0 }) c.self.invariant.one_run c.if-i-self.true in
    let within = c.self.invariant.within in omega arith

pub returns-then-i-self : goal.returns-then-i-self
returns-then-i-self c =
    rw c.between.ensures (sym (line_by_place c.self.inside.pieces c.self.inside.more.now c.args.i _ c.if-i-self.true)
    ∙ ap (λ (item : Item). slice_get (map pieces_of item.more) c.args.i) c.self.view_is)

pub returns-else-i-self : goal.returns-else-i-self
returns-else-i-self c =
    sym (no_line c.self.inside.pieces c.self.inside.more.now c.args.i c.if-i-self.false)
    ∙ ap (λ (item : Item). slice_get (map pieces_of item.more) c.args.i) c.self.view_is
