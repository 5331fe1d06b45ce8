-- The command `value`: its text tells the value of the policy, and it passes no limit on the bytes of a file.
use Rattle.std.proofs.Common.{◌≡◌, ℕ, List, [], ◌∷◌, None, Result, Ok, Err, refl, ap}
use Rattle.dp_laws.proofs.QuantityLaws.{mode_quantities}
use Rattle.dp_model.specs.declared.limit.TooLarge.{TooLarge}
use Rattle.dp_spec.specs.Mode.{is_exact_mode}
use Rattle.dp_spec.specs.Model.{Model}
use Rattle.dp_lines.specs.Grammar.{Fault, bad, limit}
use Rattle.dp_policy.specs.PolicyGrammar.{PolicyActions, policy_grammar}
use Rattle.dp_words.specs.declared.job.ValueJob.{ValueJob}
use Rattle.dp_cli.specs.ModelText.{model_meant}
use Rattle.dp_cli.specs.ValueCommand.{ClaimsOfValue, IsTextOfValue, IsValueOfText, TellsValue, fault_of_value}
use Rattle.dp_cli.specs.ValueCommand.{lines_fault, policy_fault, value_command, worth_of}
use Rattle.dp_cli.proofs.FileLimits.{IsOther, limit_told, model_fault_is_other, of_no_role}
use Rattle.dp_cli.proofs.PolicyLimits.{limit_of_text}
use Rattle.dp_cli.proofs.Sound.{IsSound}
use Rattle.dp_lines.specs.Scanning.{text_from}

tells_value : (file policy text : List ℕ) → IsValueOfText file policy text → TellsValue file policy text
tells_value file policy text is =
    let m = is.read.model.model in
    let w = is.worth in
    record {
      model = m;
      meant = ap model_meant is.meant;
      is_model = w.is_model;
      horizon = w.horizon;
      trees = w.trees;
      says = w.says;
      repaired = is.read.repaired;
      worth = worth_of m w.horizon w.trees;
      tells = w.tells;
      value = (mode_quantities m w.is_model (is_exact_mode m w.horizon)).worths w.horizon w.trees;
    }

value_claims : (texts : List (List ℕ)) (text : List ℕ) → IsTextOfValue texts text → ClaimsOfValue texts text
value_claims [] text h = absurd h
value_claims (file ∷ []) text h = absurd h
value_claims (file ∷ policy ∷ []) text h = tells_value file policy text h
value_claims (file ∷ policy ∷ next ∷ texts) text h = absurd h

policy_is_other : (bytes : List ℕ) (m : Model) → IsOther (limit_told (policy_fault bytes m))
policy_is_other bytes m = by (text_from (policy_grammar m) 1 bytes) refl
  where
    by : (r : Result PolicyActions (Fault TooLarge)) → text_from (policy_grammar m) 1 bytes ≡ r
        → IsOther (limit_told (lines_fault r))
    by (Ok said) e = tt
    by (Err (bad line why)) e = tt
    by (Err (limit passed)) e = limit_of_text m bytes passed e

value_is_other : (texts : List (List ℕ)) → IsOther (limit_told (fault_of_value texts))
value_is_other [] = tt
value_is_other (file ∷ []) = model_fault_is_other (λ m. None) (λ m. tt) file
value_is_other (file ∷ policy ∷ []) = model_fault_is_other (policy_fault policy)
    (λ m. policy_is_other policy m) file
value_is_other (file ∷ policy ∷ next ∷ texts) = tt

pub value_is_sound : (job : ValueJob) → IsSound (value_command job)
value_is_sound job = record {
  claims = λ texts text fine h. value_claims texts text h;
  limits = λ texts passed role fault is. absurd (of_no_role _ (value_is_other texts) passed role fault is);
}
