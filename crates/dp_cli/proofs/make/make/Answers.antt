use Rattle.std.proofs.Common.{◌≡◌, sym, subst}
use Rattle.std.proofs.lemmas.Result.{err_from_is_err_and}
use Rattle.dp_writer.specs.declared.sizes.MakeSize.{MakeSize}
use Rattle.dp_writer.specs.MadeModel.{made_passed}
use Rattle.dp_cli.specs.Answer.{Stops}
use Rattle.dp_cli.specs.MadeJobs.{made_for, passed_or, sizes_for}
use Rattle.dp_cli.specs.MakeCommand.{IsWrittenText, written_fault}
use Rattle.dp_cli.specs.Refusal.{made_refusal}
use Rattle.dp_cli.proofs.MadeTexts.{can_make, gives_of_made}
use Rattle.dp_cli.proofs.WrittenFaults.{stops_making}
use Rattle.dp_cli.proofs.make.make.Goals as goal

pub make_model-requires : goal.make_model-requires
make_model-requires c = can_make c.args.job.now c.sizes_for.result c.requires c.sizes_for.ensures

pub returns-in_err-model : goal.returns-in_err-model
returns-in_err-model c =
    let exit = err_from_is_err_and c.from_residual.result c.from_residual.ensures.1 in
    let fault = c.in_err-model.field-0.0 in
    rw (exit.1, exit.2)
    (subst (λ (size : MakeSize). Stops (passed_or (made_passed size) (written_fault (made_for c.args.job.now)))
    (made_refusal fault)) c.sizes_for.ensures
    (stops_making (made_passed c.sizes_for.result) (written_fault (made_for c.args.job.now)) fault
    c.in_err-model.ensures.too_large))

pub returns : goal.returns
returns c =
    gives_of_made c.args.job.now c.sizes_for.result c.in_ok-model.model written_fault IsWrittenText c.make_of.result
    c.sizes_for.ensures c.in_ok-model.ensures.made c.in_ok-model.ensures.within c.make_of.ensures
