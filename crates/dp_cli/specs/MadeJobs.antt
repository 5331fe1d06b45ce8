-- The models that jobs ask to be made.
use Rattle.std.specs.Prelude.{Option, Some, None}
use Rattle.dp_model.specs.declared.limit.TooLarge.{TooLarge}
use Rattle.dp_model.specs.Tables.{NamedModel}
use Rattle.dp_words.specs.declared.job.MakeJob.{MakeJob}
use Rattle.dp_writer.specs.declared.sizes.MakeSize.{MakeSize}
use Rattle.dp_writer.specs.Draws.{seed_stream}
use Rattle.dp_writer.specs.MadeModel.{made_model, made_passed}
use Rattle.dp_cli.specs.declared.refusal.JobFault.{JobFault}
use Rattle.dp_cli.specs.declared.refusal.JobFault.TheVariants as job_faults

-- the sizes that a job asks for
abbrev pub sizes_for : MakeJob → MakeSize
sizes_for job = record {
  agents = job.agents;
  states = job.states;
  actions = job.actions;
  observations = job.observations;
}

-- the model that is made of them by the words of the job's seed
unfoldable pub made_for : MakeJob → NamedModel
made_for job = made_model (sizes_for job) (seed_stream job.seed)

-- a passed limit, or else what is wrong with a model
abbrev pub passed_or : Option TooLarge → Option JobFault → Option JobFault
passed_or (Some passed) next = Some (job_faults.TooLarge passed)
passed_or None next = next

-- what is wrong with the sizes that a job asks for, or else with the made model
abbrev pub made_or : (NamedModel → Option JobFault) → MakeJob → Option JobFault
made_or after job = passed_or (made_passed (sizes_for job)) (after (made_for job))
