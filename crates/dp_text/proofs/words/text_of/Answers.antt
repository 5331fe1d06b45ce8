use Rattle.dp_text.proofs.WordLemmas.{text_of_kind}
use Rattle.dp_text.proofs.words.text_of.Goals as goal

pub unreachable-requires : goal.unreachable-requires
unreachable-requires c =
    let piece = c.args.piece.now in
    let cases = c.in-Err.ensures.cases in
    cases.0 (rw c.text.ensures.is (text_of_kind piece.kind piece.text c.invariant.ensures.kind))
