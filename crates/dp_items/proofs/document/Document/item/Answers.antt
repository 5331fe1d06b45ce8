use Rattle.std.proofs.Common.{◌<◌, length, refl, sym, ap, ◌∙◌, arith}
use Rattle.std.specs.Prelude.{slice_get}
use Rattle.std.proofs.lemmas.List.{length-map}
use Rattle.dp_items.specs.Documents.{ItemsOfText}
use Rattle.dp_items.specs.Tokens.{pieces_of_text}
use Rattle.dp_items.specs.ItemRanges.{item_in}
use Rattle.dp_items.proofs.DocumentLemmas.{item_there}
use Rattle.dp_items.proofs.document.Document.item.Goals as goal

pub returns : goal.returns
returns c =
    let size = ap (λ (v : ItemsOfText). length v.items) c.self.view_is in
    let mapped = length-map c.self.inside.items.items.items
    (item_in (pieces_of_text c.self.inside.bytes.now c.self.inside.tokens.items) c.self.inside.lines.items) in
    let inside : c.args.place < length c.self.inside.items.items.items = omega arith in
    ap (λ (v : ItemsOfText). slice_get v.items c.args.place) (sym c.self.view_is)
    ∙ item_there _ _ _ c.args.place c.index-range.result.now c.index.result.now c.of-2.result inside
    c.self.invariant.each
    c.index-range.ensures c.index.ensures (rw (
      c.of-2.ensures,
      c.of.ensures,
      c.deref.ensures.value,
      c.deref-2.ensures.value,
    ) refl)
