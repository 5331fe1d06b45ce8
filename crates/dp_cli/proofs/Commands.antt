-- Each command is sound: its own proof has it.
use Rattle.dp_words.specs.declared.job.Job.{Job}
use Rattle.dp_words.specs.declared.job.Job.TheVariants.{Check, Make, Plan, Print, Show, Sim, Trial, Value}
use Rattle.dp_cli.specs.Commands.{command_of}
use Rattle.dp_cli.proofs.CheckIsSound.{check_is_sound}
use Rattle.dp_cli.proofs.MakeIsSound.{make_is_sound}
use Rattle.dp_cli.proofs.PlanIsSound.{plan_is_sound}
use Rattle.dp_cli.proofs.PrintIsSound.{print_is_sound}
use Rattle.dp_cli.proofs.ShowIsSound.{show_is_sound}
use Rattle.dp_cli.proofs.SimIsSound.{sim_is_sound}
use Rattle.dp_cli.proofs.Sound.{IsSound}
use Rattle.dp_cli.proofs.TrialIsSound.{trial_is_sound}
use Rattle.dp_cli.proofs.ValueIsSound.{value_is_sound}

pub command_is_sound : (job : Job) → IsSound (command_of job)
command_is_sound (Plan job) = plan_is_sound job
command_is_sound (Value job) = value_is_sound job
command_is_sound (Check job) = check_is_sound job
command_is_sound (Show job) = show_is_sound job
command_is_sound (Sim job) = sim_is_sound job
command_is_sound (Make job) = make_is_sound job
command_is_sound (Print job) = print_is_sound job
command_is_sound (Trial job) = trial_is_sound job
