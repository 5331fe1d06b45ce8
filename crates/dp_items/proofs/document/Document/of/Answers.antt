use Rattle.dp_items.proofs.PieceLemmas.{pieces_of_tokens}
use Rattle.dp_items.proofs.DocumentLemmas.{kept_are_pieces, lines_are_one_run, is_document, means_items}
use Rattle.dp_items.proofs.document.Document.of.Goals as goal

pub of-requires-2 : goal.of-requires-2
of-requires-2 c = rw (c.deref.ensures.value, c.in_ok-kept.ensures)
    (kept_are_pieces _ _ (pieces_of_tokens _ _ c.requires.limit c.requires.tokens))

pub items_of-requires-clause-one_run : goal.items_of-requires-clause-one_run
items_of-requires-clause-one_run c =
    let lines = rw c.of.ensures at c.in_ok-lines.ensures in
    rw (c.of-2.ensures, c.deref.ensures.value, c.in_ok-kept.ensures, c.deref-2.ensures.value)
    (lines_are_one_run c.args.bytes.now c.args.tokens.now c.in_ok-lines.lines.items lines)

pub invariant_of-result : goal.invariant_of-result
invariant_of-result c =
    let lines = rw c.of.ensures at c.in_ok-lines.ensures in
    let items = rw (
      c.of-2.ensures,
      c.deref.ensures.value,
      c.in_ok-kept.ensures,
      c.deref-2.ensures.value,
    ) at c.in_ok-items.ensures in
    rw c.in_ok-kept.ensures (is_document c.args.bytes.now c.args.tokens.now c.in_ok-lines.lines.items
    c.in_ok-items.items lines items
    c.requires.tokens c.requires.limit)

pub returns : goal.returns
returns c =
    let lines = rw c.of.ensures at c.in_ok-lines.ensures in
    let items = rw (
      c.of-2.ensures,
      c.deref.ensures.value,
      c.in_ok-kept.ensures,
      c.deref-2.ensures.value,
    ) at c.in_ok-items.ensures in
    rw c.in_ok-kept.ensures (means_items c.args.bytes.now c.args.tokens.now c.in_ok-lines.lines.items
    c.in_ok-items.items lines items)
