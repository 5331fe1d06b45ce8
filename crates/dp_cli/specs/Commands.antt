-- The command of each job.
use Rattle.dp_words.specs.declared.job.Job.{Job}
use Rattle.dp_words.specs.declared.job.Job.TheVariants.{Check, Make, Plan, Print, Show, Sim, Trial, Value}
use Rattle.dp_cli.specs.CheckCommand.{check_command}
use Rattle.dp_cli.specs.Command.{Command}
use Rattle.dp_cli.specs.MakeCommand.{make_command}
use Rattle.dp_cli.specs.PlanCommand.{plan_command}
use Rattle.dp_cli.specs.PrintCommand.{print_command}
use Rattle.dp_cli.specs.ShowCommand.{show_command}
use Rattle.dp_cli.specs.SimCommand.{sim_command}
use Rattle.dp_cli.specs.TrialCommand.{trial_command}
use Rattle.dp_cli.specs.ValueCommand.{value_command}

abbrev pub command_of : Job → Command
command_of (Plan job) = plan_command job
command_of (Value job) = value_command job
command_of (Check job) = check_command job
command_of (Show job) = show_command job
command_of (Sim job) = sim_command job
command_of (Make job) = make_command job
command_of (Print job) = print_command job
command_of (Trial job) = trial_command job
