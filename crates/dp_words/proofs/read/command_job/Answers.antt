use Rattle.std.proofs.Common.{map}
use Rattle.dp_words.specs.Command.{merging_off, values_of}
use Rattle.dp_words.proofs.Jobs.{no_command}
use Rattle.dp_words.proofs.read.command_job.Goals as goal

-- one entry for each command of the table
pub returns-in_default : goal.returns-in_default
returns-in_default c = no_command (values_of c.args.given.now) (merging_off c.args.given.now)
    c.args.command.now (map (λ f. f.now) c.args.files.now) (
      c.in_default.not-plan,
      (
        c.in_default.not-value,
        (
          c.in_default.not-check,
          (
            c.in_default.not-show,
            (
              c.in_default.not-sim,
              (
                c.in_default.not-make,
                (c.in_default.not-print, (c.in_default.not-trial, tt)),
              ),
            ),
          ),
        ),
      ),
    )
