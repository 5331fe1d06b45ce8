use Rattle.dp_lexer.proofs.WholeText.{tokens_are_of_text}
use Rattle.dp_lexer.proofs.laws.tokens_are_of_text.Goals as goal

pub returns : goal.returns
returns c = tokens_are_of_text
