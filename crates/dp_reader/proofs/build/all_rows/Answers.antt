use Rattle.std.proofs.lemmas.Result.{err_from_is_err_and}
use Rattle.dp_reader.proofs.ReadingLemmas.{start_stops, trans_stops, obs_stops}
use Rattle.dp_reader.proofs.build.all_rows.Goals as goal

pub returns-in_err-start : goal.returns-in_err-start
returns-in_err-start c =
    let exit = err_from_is_err_and c.from_residual.result c.from_residual.ensures.1 in
    rw (exit.1, exit.2)
    (start_stops c.args.bytes.now c.args.text.now.end c.args.text.now.text _ c.in_err-start.ensures)

pub returns-in_err-transitions : goal.returns-in_err-transitions
returns-in_err-transitions c =
    let exit = err_from_is_err_and c.from_residual-in_err-transitions.result
    c.from_residual-in_err-transitions.ensures.1 in
    rw (exit.1, exit.2)
    (trans_stops c.args.bytes.now c.args.text.now.end c.args.text.now.text _ _ c.in_ok-start.ensures.is
    c.in_err-transitions.ensures)

pub returns-in_err-observations : goal.returns-in_err-observations
returns-in_err-observations c =
    let exit = err_from_is_err_and c.from_residual-in_err-observations.result
    c.from_residual-in_err-observations.ensures.1 in
    rw (exit.1, exit.2)
    (obs_stops c.args.bytes.now c.args.text.now.end c.args.text.now.text _ _ _ c.in_ok-start.ensures.is
    c.in_ok-transitions.ensures.is c.in_err-observations.ensures)
