use Rattle.dp_text.proofs.WordLemmas.{no_word}
use Rattle.dp_text.proofs.words.is_word.Goals as goal

pub returns-in_default : goal.returns-in_default
returns-in_default c =
    let piece = c.args.piece.now in
    no_word piece.kind piece.text c.invariant.ensures.kind (rw c.kind.ensures at c.in_default.not-Word)
