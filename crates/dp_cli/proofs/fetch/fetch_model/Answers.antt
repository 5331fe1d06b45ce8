use Rattle.std.proofs.Common.{List, ℕ, None, inl, inr, sym, ap, ◌∙◌, subst}
use Rattle.std.proofs.lemmas.Result.{err_from_is_err_and}
use Rattle.dp_meaning.specs.Meaning.{meaning}
use Rattle.dp_cli.specs.Answer.{Stops}
use Rattle.dp_cli.specs.ModelText.{model_fault}
use Rattle.dp_cli.specs.Refusal.{model_refusal}
use Rattle.dp_cli.proofs.Doing.{stops_reading}
use Rattle.dp_cli.proofs.fetch.fetch_model.Goals as goal

pub returns-in_err-text : goal.returns-in_err-text
returns-in_err-text g c =
    let exit = err_from_is_err_and c.from_residual.result c.from_residual.ensures.1 in
    rw (exit.1, exit.2) (inl c.in_err-text.ensures.fetched)

pub returns-in_err-read_model : goal.returns-in_err-read_model
returns-in_err-read_model g c =
    let exit = err_from_is_err_and c.from_residual-in_err-read_model.result
    c.from_residual-in_err-read_model.ensures.1 in
    let stops = stops_reading c.deref.result.now c.in_err-read_model.field-0.0 c.in_err-read_model.ensures.is in
    rw (exit.1, exit.2) (inr (
      c.in_ok-text.text,
      c.in_ok-text.ensures.fetched,
      subst (λ (bytes : List ℕ). Stops (model_fault (λ m. None) (meaning bytes))
          (model_refusal c.in_err-read_model.field-0.0)) c.deref.ensures.value stops,
    ))

pub returns : goal.returns
returns g c = (
  c.in_ok-text.text,
  c.in_ok-text.ensures.fetched,
  sym (ap meaning c.deref.ensures.value)
      ∙ c.in_ok-read_model.ensures.is,
)
