use Rattle.dp_lexer.proofs.WholeText.{first_bad_byte_is_named}
use Rattle.dp_lexer.proofs.laws.first_bad_byte_is_named.Goals as goal

pub returns : goal.returns
returns c = first_bad_byte_is_named
