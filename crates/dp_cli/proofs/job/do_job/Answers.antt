use Rattle.std.proofs.Common.{refl, sym, subst}
use Rattle.dp_words.specs.declared.job.Job.{Job}
use Rattle.dp_cli.specs.Commands.{command_of}
use Rattle.dp_cli.specs.MakeCommand.{make_command}
use Rattle.dp_cli.specs.Run.{Does}
use Rattle.dp_cli.specs.Steps.{answer_of}
use Rattle.dp_cli.specs.TrialCommand.{trial_command}
use Rattle.dp_cli.proofs.Doing.{works_alone}
use Rattle.dp_cli.proofs.job.do_job.Goals as goal

pub returns-in-Make : goal.returns-in-Make
returns-in-Make g c =
    let view = g.S.Shelf.view c.args.shelf.now in
    subst (λ (job : Job). Does (command_of job) view view (answer_of c.make.result)) (sym c.in-Make.is)
    (works_alone {command = make_command c.in-Make.job} view c.make.result refl c.make.ensures)

pub returns-in-Trial : goal.returns-in-Trial
returns-in-Trial g c =
    let view = g.S.Shelf.view c.args.shelf.now in
    subst (λ (job : Job). Does (command_of job) view view (answer_of c.trial.result)) (sym c.in-Trial.is)
    (works_alone {command = trial_command c.in-Trial.job} view c.trial.result refl c.trial.ensures)
