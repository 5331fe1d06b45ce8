use Rattle.std.proofs.Common.{None, ap, refl}
use Rattle.std.proofs.lemmas.Result.{err_from_is_err_and}
use Rattle.dp_meaning.specs.Meaning.{Meaning}
use Rattle.dp_cli.specs.declared.refusal.FileRole.TheVariants.{Second}
use Rattle.dp_cli.specs.ModelText.{model_fault}
use Rattle.dp_cli.specs.ShowCommand.{shown_fault}
use Rattle.dp_cli.proofs.Doing.{gives_of_model, has_model, lacks_file, lacks_model, works_on}
use Rattle.dp_cli.proofs.show.show.Goals as goal

pub returns-in_err-read : goal.returns-in_err-read
returns-in_err-read g c =
    let exit = err_from_is_err_and c.from_residual.result c.from_residual.ensures.1 in
    rw (exit.1, exit.2) (lacks_model _ c.in_err-read.field-0.0 (λ m. None) refl (λ text. refl)
    c.in_err-read.ensures)

pub returns-in_err-text : goal.returns-in_err-text
returns-in_err-text g c =
    let exit = err_from_is_err_and c.from_residual-in_err-text.result c.from_residual-in_err-text.ensures.1 in
    rw (exit.1, exit.2)
    (has_model _ c.in_ok-read.read refl c.in_ok-read.ensures
    (λ text means. lacks_file (record { name = c.args.job.now.cert; role = Second }) c.in_err-text.field-0.0
    (ap (λ (meant : Meaning). model_fault (λ m. None) meant) means) c.in_err-text.ensures.fetched))

pub returns : goal.returns
returns g c =
    has_model _ c.in_ok-read.read refl c.in_ok-read.ensures
    (λ text means. works_on (record { name = c.args.job.now.cert; role = Second })
    c.in_ok-text.text c.show_of.result
    (ap (λ (meant : Meaning). model_fault (λ m. None) meant) means)
    c.in_ok-text.ensures.fetched c.deref.ensures.value
    (gives_of_model text (shown_fault c.deref.result.now) c.show_of.result means
    (λ t shown. record { read = _; meant = means; shown = shown }) c.show_of.ensures))
