use Rattle.std.proofs.lemmas.Result.{err_from_is_err_and}
use Rattle.dp_cli.proofs.Doing.{refuses_words}
use Rattle.dp_cli.proofs.job.do_words.Goals as goal

pub returns-in_err-job : goal.returns-in_err-job
returns-in_err-job g c =
    let exit = err_from_is_err_and c.from_residual.result c.from_residual.ensures.1 in
    rw (exit.1, exit.2) (refuses_words _ _ c.in_err-job.field-0.0 c.in_err-job.ensures.read)

pub returns : goal.returns
returns g c = rw c.in_ok-job.ensures.read c.do_job.ensures
