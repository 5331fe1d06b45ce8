use Rattle.std.proofs.Common.{◌≡◌, sym, subst}
use Rattle.std.proofs.lemmas.Result.{err_from_is_err_and}
use Rattle.dp_writer.specs.declared.sizes.MakeSize.{MakeSize}
use Rattle.dp_writer.specs.MadeModel.{made_passed}
use Rattle.dp_cli.specs.Answer.{Stops}
use Rattle.dp_cli.specs.MadeJobs.{made_for, passed_or, sizes_for}
use Rattle.dp_cli.specs.TrialCommand.{IsTrialOf, trial_limits_fault}
use Rattle.dp_cli.specs.Refusal.{made_refusal}
use Rattle.dp_cli.proofs.MadeTexts.{can_make, gives_of_made}
use Rattle.dp_cli.proofs.WrittenFaults.{stops_making}
use Rattle.dp_cli.proofs.trial.trial.Goals as goal

pub make_model-requires : goal.make_model-requires
make_model-requires c = can_make c.args.job.now.made c.sizes_for.result c.requires.sizes c.sizes_for.ensures

pub returns-in_err-model : goal.returns-in_err-model
returns-in_err-model c =
    let exit = err_from_is_err_and c.from_residual.result c.from_residual.ensures.1 in
    let fault = c.in_err-model.field-0.0 in
    let job = c.args.job.now in
    let next = trial_limits_fault job (made_for job.made).model in
    rw (exit.1, exit.2)
    (subst (λ (size : MakeSize). Stops (passed_or (made_passed size) next) (made_refusal fault)) c.sizes_for.ensures
    (stops_making (made_passed c.sizes_for.result) next fault c.in_err-model.ensures.too_large))

pub returns : goal.returns
returns c =
    let job = c.args.job.now in
    gives_of_made job.made c.sizes_for.result c.in_ok-model.model (λ m. trial_limits_fault job m.model)
    (λ m text. IsTrialOf m.model job text) c.trial_of.result c.sizes_for.ensures c.in_ok-model.ensures.made
    c.in_ok-model.ensures.within c.trial_of.ensures
