use Rattle.std.proofs.lemmas.Result.{err_from_is_err_and}
use Rattle.dp_reader.proofs.ReadingLemmas.{text_passes}
use Rattle.dp_reader.proofs.read.model_within_limits.Goals as goal

pub returns-in_err-text : goal.returns-in_err-text
returns-in_err-text c =
    let exit = err_from_is_err_and c.from_residual.result c.from_residual.ensures.1 in
    rw (exit.1, exit.2)
    (text_passes c.args.bytes.now c.args.text _ c.requires.says c.in_err-text.ensures.passed)
