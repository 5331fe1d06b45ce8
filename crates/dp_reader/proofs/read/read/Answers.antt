use Rattle.std.proofs.lemmas.Result.{err_from_is_err_and}
use Rattle.dp_meaning.specs.Meaning.{meaning}
use Rattle.dp_reader.proofs.ReadingLemmas.{lexer_fault, text_fault, same_answer}
use Rattle.dp_reader.proofs.read.read.Goals as goal

pub returns-in_err-tokens : goal.returns-in_err-tokens
returns-in_err-tokens c =
    let exit = err_from_is_err_and c.from_residual.result c.from_residual.ensures.1 in
    rw (exit.1, exit.2) (lexer_fault c.args.bytes.now c.in_err-tokens.field-0.0
    c.in_err-tokens.ensures.first_bad_byte)

pub returns : goal.returns
returns c =
    same_answer (meaning c.args.bytes.now) c.told.result _ c.told.ensures
    (text_fault c.args.bytes.now c.in-Err.fault c.in-Err.ensures)
