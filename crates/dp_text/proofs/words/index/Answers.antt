use Rattle.dp_text.proofs.WordLemmas.{index_parsed}
use Rattle.dp_text.proofs.words.index.Goals as goal

pub returns : goal.returns
returns c =
    let text = c.args.piece.now.text in
    rw c.ok.ensures.value (index_parsed text c.parse.result c.requires
    (rw c.text_of.ensures at c.parse.ensures.value.0))
