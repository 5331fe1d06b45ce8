-- The command `value`.
use Rattle.std.specs.Prelude.{◌≡◌, ℕ, Bool, true, false, List, [], ◌∷◌, ◌++◌, Option, Some, None, Result, Ok, Err, ℤ}
use Rattle.std.specs.Prelude.{pos, unsigned_abs, codes, decimal}
use Rattle.std.specs.Fmt.{signed_decimal}
use Rattle.dp_spec.specs.declared.span.Span.{Span}
use Rattle.dp_spec.specs.Arithmetic.{arithmetic}
use Rattle.dp_spec.specs.Enclosure.{enclosure}
use Rattle.dp_spec.specs.Mode.{is_exact_mode, unit_of}
use Rattle.dp_spec.specs.Model.{IsModel, Model, value_scale}
use Rattle.dp_spec.specs.PolicyText.{IsPolicyText}
use Rattle.dp_spec.specs.PolicyTree.{PolicyTree}
use Rattle.dp_spec.specs.Quantities.{forward_worth_in}
use Rattle.dp_spec.specs.Value.{policy_value}
use Rattle.dp_num.specs.FractionTexts.{fraction_text}
use Rattle.dp_model.specs.declared.limit.TooLarge.{TooLarge}
use Rattle.dp_meaning.specs.Meaning.{Means, ReadModel, meaning}
use Rattle.dp_lines.specs.Grammar.{Fault, bad, limit}
use Rattle.dp_lines.specs.Scanning.{text_from}
use Rattle.dp_policy.specs.PolicyGrammar.{policy_grammar}
use Rattle.dp_words.specs.declared.job.ValueJob.{ValueJob}
use Rattle.dp_cli.specs.declared.refusal.FileRole.TheVariants as roles
use Rattle.dp_cli.specs.declared.refusal.JobFault.{JobFault}
use Rattle.dp_cli.specs.declared.refusal.JobFault.TheVariants as job_faults
use Rattle.dp_cli.specs.Command.{Command, model_file}
use Rattle.dp_cli.specs.ModelText.{model_fault, model_of_text}

-- ---- what may be wrong

-- what is wrong with a second file by what its lines say
abbrev pub lines_fault : {V : Type 0} → Result V (Fault TooLarge) → Option JobFault
lines_fault (Ok said) = None
lines_fault (Err (bad line why)) = Some (job_faults.BadFile line why)
lines_fault (Err (limit passed)) = Some (job_faults.TooLarge passed)

-- what is wrong with the bytes of a policy for a model: their first bad line, or a limit that the horizon passes
abbrev pub policy_fault : List ℕ → Model → Option JobFault
policy_fault bytes m = lines_fault (text_from (policy_grammar m) 1 bytes)

abbrev pub fault_of_value : List (List ℕ) → Option JobFault
fault_of_value (file ∷ []) = model_fault (λ m. None) (meaning file)
fault_of_value (file ∷ policy ∷ []) = model_fault (policy_fault policy) (meaning file)
fault_of_value texts = None

-- ---- what is put

abbrev pub mode_word : Bool → List ℕ
mode_word true = codes "exact"
mode_word false = codes "outward"

-- how many rows of the model were repaired, the mode, and the unit
abbrev pub head_text : ℕ → Bool → ℤ → List ℕ
head_text repaired exact unit =
    codes "repaired " ++ (decimal repaired ++ (codes "\nmode " ++ (mode_word exact
    ++ (codes "\nunit " ++ (signed_decimal unit ++ codes "\n")))))

-- an end of the worth, and what it is over the unit, rounded down, or up
abbrev pub end_text : List ℕ → ℤ → ℤ → Bool → List ℕ
end_text word number unit up =
    word ++ (signed_decimal number ++ (codes " " ++ (fraction_text number (unsigned_abs unit) up
    ++ codes "\n")))

-- the lines of a worth in a unit
abbrev pub value_text : ℕ → Bool → ℤ → Span → List ℕ
value_text repaired exact unit worth =
    head_text repaired exact unit
    ++ (end_text (codes "low ") worth.low unit false ++ end_text (codes "high ") worth.high unit true)

-- the worth of a joint policy, by the sums in the arithmetic of the mode
abbrev pub worth_of : Model → ℕ → List PolicyTree → Span
worth_of m h qs = forward_worth_in (arithmetic (is_exact_mode m h) m.scales) m h qs

-- The bytes are the text of a joint policy for a model, and the text tells its worth.
pub record IsWorthOfText (m : Model) (repaired : ℕ) (policy text : List ℕ) : Type 0 where
  pub is_model : IsModel m
  pub horizon : ℕ
  pub trees : List PolicyTree
  pub says : IsPolicyText m policy horizon trees
  pub tells : text ≡ value_text repaired (is_exact_mode m horizon) (pos (unit_of m horizon))
      (worth_of m horizon trees)

-- A file means a model, and the text tells the worth of the policy for it.
pub record IsValueOfText (file policy text : List ℕ) : Type 0 where
  pub read : ReadModel
  pub meant : meaning file ≡ Means read
  pub worth : IsWorthOfText read.model.model read.repaired policy text

abbrev pub IsTextOfValue : List (List ℕ) → List ℕ → Type 0
IsTextOfValue (file ∷ policy ∷ []) text = IsValueOfText file policy text
IsTextOfValue texts text = ⊥

-- ---- what is so

-- The bytes of the file mean a model, those of the policy are the text of a joint policy for it, and the text tells
-- two numbers over the unit: in exact mode both are the value of the policy, and in outward mode it lies between
-- them.
pub record TellsValue (file policy text : List ℕ) : Type 0 where
  pub model : Model
  pub meant : model_of_text file ≡ Some model
  pub is_model : IsModel model
  pub horizon : ℕ
  pub trees : List PolicyTree
  pub says : IsPolicyText model policy horizon trees
  pub repaired : ℕ
  pub worth : Span
  pub tells : text ≡ value_text repaired (is_exact_mode model horizon) (pos (unit_of model horizon)) worth
  pub value : (enclosure (is_exact_mode model horizon)).Earns (value_scale model horizon)
      (policy_value model horizon trees) worth

abbrev pub ClaimsOfValue : List (List ℕ) → List ℕ → Type 0
ClaimsOfValue (file ∷ policy ∷ []) text = TellsValue file policy text
ClaimsOfValue texts text = ⊥

abbrev pub value_command : ValueJob → Command
value_command job = record {
  files = model_file job.model ∷ record { name = job.policy; role = roles.Second } ∷ [];
  fault = fault_of_value;
  text_limit = None;
  IsText = IsTextOfValue;
  Claims = ClaimsOfValue;
}
