use Rattle.std.proofs.Common.{sym, ◌∙◌, ◌≡◌, ◌<◌, length, Some, refl, arith}
use Rattle.std.specs.Prelude.{slice_get}
use Rattle.std.proofs.lemmas.Option.{slice_get_within}
use Rattle.dp_items.specs.declared.line.LineRange.{LineRange}
use Rattle.dp_items.proofs.LineLemmas.{ends_line, goes_on, at_end, none_of}
use Rattle.dp_items.proofs.line.lines_of.Goals as goal
use Rattle.dp_items.proofs.line.lines_of.Goals.{in-LineEnd+in_ok-add_unless_empty, in_default-kind, After-kind}

here : (c : After-kind) → slice_get c.args.pieces.now c.loop-piece.at ≡ Some c.in-Some.piece
here c = sym c.get.ensures ∙ c.in-Some.is

inside : (c : After-kind) → c.loop-piece.at < length c.args.pieces.now
inside c = slice_get_within c.args.pieces.now c.loop-piece.at c.in-Some.piece (here c)

pub overflow_add-past : goal.overflow_add-past
overflow_add-past c =
    let at = inside (goal.at.overflow_add-past c).After-kind in
    let behind = c.loop-piece.invariant.behind in
    let few = c.invariant.ensures in omega arith

pub overflow_add-at : goal.overflow_add-at
overflow_add-at c =
    let at = inside (goal.at.overflow_add-at c).After-kind in
    let few = c.invariant.ensures in omega arith

pub loop-piece-smaller : goal.loop-piece-smaller
loop-piece-smaller c = let at = inside (goal.at.loop-piece-smaller c).After-kind in omega arith

pub loop-piece-preserved : goal.loop-piece-preserved
loop-piece-preserved c =
    let found = here (goal.at.loop-piece-preserved c).After-kind in
    elim c.match-kind.branch [
      | in-LineEnd+in_ok-add_unless_empty w ↦
          let range : LineRange = record {
            first = c.loop-piece.first;
            past = c.loop-piece.past;
            ends =
                w.at.result;
          } in
          rw (w.lines-is, w.in_ok-add_unless_empty.ensures, w.first-is, w.past-is)
          (ends_line c.args.end c.args.pieces.now c.loop-piece.lines.items range c.loop-piece.at c.in-Some.piece
          c.loop-piece.invariant found
          (sym c.kind.ensures ∙ w.in-LineEnd.is) w.at.ensures w.invariant-in-LineEnd.ensures.at)
      | in_default-kind w ↦ rw (w.lines-is, w.first-is, w.past-is)
          (goes_on c.args.end c.args.pieces.now c.loop-piece.lines.items c.loop-piece.first c.loop-piece.past
          c.loop-piece.at c.in-Some.piece
          c.loop-piece.invariant found (λ e. w.in_default-kind.not-LineEnd (c.kind.ensures ∙ e)))
    ]

pub returns : goal.returns
returns c =
    let range : LineRange = record { first = c.loop-piece.first; past = c.loop-piece.past; ends = c.args.end } in
    rw c.in_ok-add_unless_empty-2.ensures
    (at_end c.args.end c.args.pieces.now c.loop-piece.lines.items range c.loop-piece.at c.loop-piece.invariant
    (sym c.get.ensures ∙ none_of c.get.result c.in_default.not-Some) refl c.requires)
