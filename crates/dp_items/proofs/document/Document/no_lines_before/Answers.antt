use Rattle.std.proofs.Common.{◌<◌, length, sym, ap, ◌∙◌, arith}
use Rattle.dp_meaning.specs.Meaning.{unless_lines}
use Rattle.dp_items.specs.Documents.{ItemsOfText}
use Rattle.dp_items.specs.Tokens.{pieces_of_text}
use Rattle.dp_items.proofs.ItemLemmas.{run_at}
use Rattle.dp_items.proofs.DocumentLemmas.{first_line_stands}
use Rattle.dp_items.proofs.document.Document.no_lines_before.Goals as goal

pub between-pieces-requires-clause-within : goal.between-pieces-requires-clause-within
between-pieces-requires-clause-within c =
    let some = c.if-self-eq0.false in
    let before = c.self.invariant.before in
    let inside : 0 < length c.self.inside.lines.items = omega arith in
    let line = run_at 0 c.self.inside.lines.items (length
    (pieces_of_text c.self.inside.bytes.now c.self.inside.tokens.items)) 0
    c.index-line.result.now c.self.invariant.one_run inside in
    rw (c.of.ensures, c.deref.ensures.value, c.index-line.ensures) line.1

pub returns : goal.returns
returns c =
    rw (c.first_at.ensures.is, c.between-pieces.ensures, c.of.ensures, c.deref.ensures.value, c.index-line.ensures)
    (sym (first_line_stands c.self.inside.end _ c.self.inside.lines.items c.self.inside.items.before
    c.index-line.result.now c.if-self-eq0.false c.self.invariant.before)
    ∙ ap (λ (v : ItemsOfText). unless_lines v.end v.before) c.self.view_is)
