use Rattle.std.proofs.Common.{refl}
use Rattle.std.proofs.lemmas.Result.{err_from_is_err_and}
use Rattle.dp_cli.specs.PrintCommand.{table_fault}
use Rattle.dp_cli.proofs.Doing.{gives_of_read, has_model, lacks_model, works_by}
use Rattle.dp_cli.proofs.print.print.Goals as goal

pub returns-in_err-read : goal.returns-in_err-read
returns-in_err-read g c =
    let exit = err_from_is_err_and c.from_residual.result c.from_residual.ensures.1 in
    rw (exit.1, exit.2)
    (lacks_model _ c.in_err-read.field-0.0 table_fault refl (λ text. refl) c.in_err-read.ensures)

pub returns : goal.returns
returns g c =
    has_model _ c.in_ok-read.read refl c.in_ok-read.ensures
    (λ text means. works_by c.print_of.result
    (gives_of_read text table_fault c.print_of.result means
    (λ t tells. record { read = _; meant = means; tells = tells }) c.print_of.ensures))
