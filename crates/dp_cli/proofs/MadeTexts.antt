-- What code gives of the model that a job asks to be made.
use Rattle.std.proofs.Common.{◌≡◌, ℕ, List, Option, Some, None, Result, Vec, sym, ap, ◌∙◌, subst}
use Rattle.std.specs.declared.alloc.Global.{Global}
use Rattle.dp_model.specs.declared.limit.TooLarge.{TooLarge}
use Rattle.dp_model.specs.Tables.{NamedModel}
use Rattle.dp_words.specs.declared.job.MakeJob.{MakeJob}
use Rattle.dp_words.specs.Words.{AreMakeSizes}
use Rattle.dp_writer.specs.declared.sizes.MakeSize.{MakeSize}
use Rattle.dp_writer.specs.Draws.{seed_stream}
use Rattle.dp_writer.specs.MadeModel.{IsMakeSize, made_model, made_passed}
use Rattle.dp_cli.specs.declared.refusal.JobFault.{JobFault}
use Rattle.dp_cli.specs.declared.refusal.Refusal.{Refusal}
use Rattle.dp_cli.specs.Answer.{GivesText}
use Rattle.dp_cli.specs.MadeJobs.{made_for, made_or, passed_or, sizes_for}

-- the sizes of a job are such as a model can be made of
pub can_make : (job : MakeJob) (size : MakeSize) → AreMakeSizes job → size ≡ sizes_for job → IsMakeSize size
can_make job size are is = subst IsMakeSize (sym is) (record {
  some_agent = are.some_agent;
  some_state = are.some_state;
  some_action = are.some_action;
  some_observation = are.some_observation;
  agents = are.agents;
  states = are.states;
  actions = are.actions;
  observations = are.observations;
})

-- what is given of the made model is what the job asks for
pub gives_of_made : (job : MakeJob) (size : MakeSize) (m : NamedModel) (after : NamedModel → Option JobFault)
    (IsText : NamedModel → List ℕ → Type 0) (result : Result (Vec ℕ Global) Refusal) → size ≡ sizes_for job
    → m ≡ made_model size (seed_stream job.seed) → made_passed size ≡ None
    → GivesText (after m) (IsText m) result
    → GivesText (made_or after job) (IsText (made_for job)) result
unfolding made_for
gives_of_made job size m after IsText result is made none h =
    let model : m ≡ made_for job = made ∙ ap (λ s. made_model s (seed_stream job.seed)) is in
    let kept : made_passed (sizes_for job) ≡ None = ap made_passed (sym is) ∙ none in
    subst (λ (t : Option TooLarge). GivesText (passed_or t (after (made_for job))) (IsText (made_for job)) result)
    (sym kept)
    (subst (λ (n : NamedModel). GivesText (after n) (IsText n) result) model h)
