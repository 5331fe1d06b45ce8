-- The command `check`: what it accepts is valid and its claims are so, and it passes no limit on the bytes of a file.
use Rattle.std.proofs.Common.{ℕ, List, [], ◌∷◌, Option, Some, None, ap}
use Rattle.std.specs.Prelude.{option_map}
use Rattle.dp_spec.specs.Certificate.{Certificate}
use Rattle.dp_spec.specs.Model.{Model}
use Rattle.dp_spec.specs.Reasons as definitions
use Rattle.dp_spec.specs.Reasons.{first_reason}
use Rattle.dp_laws.proofs.ValidCertificates.{claims_hold, closed_is_optimal, ends_in_order}
use Rattle.dp_words.specs.declared.job.CheckJob.{CheckJob}
use Rattle.dp_cli.specs.declared.refusal.JobFault.TheVariants as job_faults
use Rattle.dp_cli.specs.CheckCommand.{ClaimsOfCheck, IsCheckOfText, IsTextOfCheck, TellsCertificate}
use Rattle.dp_cli.specs.CheckCommand.{certificate_fault, check_command, fault_of_check, reason_fault, told_reason}
use Rattle.dp_cli.specs.ModelText.{model_meant}
use Rattle.dp_cli.proofs.CertificateReading.{certificate_or_is_other}
use Rattle.dp_cli.proofs.FileLimits.{IsOther, limit_told, model_fault_is_other, of_no_role}
use Rattle.dp_cli.proofs.Sound.{IsSound}

tells_certificate : (file cert text : List ℕ) → IsCheckOfText file cert text → TellsCertificate file cert text
tells_certificate file cert text is =
    let m = is.read.model.model in
    let c = is.checked.certificate in
    record {
      model = m;
      meant = ap model_meant is.meant;
      is_model = is.checked.is_model;
      certificate = c;
      says = is.checked.says;
      valid = is.checked.valid;
      claims = claims_hold m c is.checked.is_model is.checked.valid;
      ordered = ends_in_order m c is.checked.is_model is.checked.valid;
      optimal = closed_is_optimal m c is.checked.is_model is.checked.valid;
      repaired = is.read.repaired;
      accepts = is.checked.accepts;
    }

check_claims : (texts : List (List ℕ)) (text : List ℕ) → IsTextOfCheck texts text → ClaimsOfCheck texts text
check_claims [] text h = absurd h
check_claims (file ∷ []) text h = absurd h
check_claims (file ∷ cert ∷ []) text h = tells_certificate file cert text h
check_claims (file ∷ cert ∷ next ∷ texts) text h = absurd h

reason_is_other : (m : Model) (c : Certificate) → IsOther (limit_told (reason_fault m c))
reason_is_other m c = by (first_reason m c)
  where
    by : (o : Option definitions.Reason) → IsOther
        (limit_told (option_map (λ r. job_faults.Rejected (told_reason r)) o))
    by (Some r) = tt
    by None = tt

check_is_other : (texts : List (List ℕ)) → IsOther (limit_told (fault_of_check texts))
check_is_other [] = tt
check_is_other (file ∷ []) = model_fault_is_other (λ m. None) (λ m. tt) file
check_is_other (file ∷ cert ∷ []) = model_fault_is_other (certificate_fault cert)
    (λ m. certificate_or_is_other (reason_fault m) (reason_is_other m) cert m) file
check_is_other (file ∷ cert ∷ next ∷ texts) = tt

pub check_is_sound : (job : CheckJob) → IsSound (check_command job)
check_is_sound job = record {
  claims = λ texts text fine h. check_claims texts text h;
  limits = λ texts passed role fault is. absurd (of_no_role _ (check_is_other texts) passed role fault is);
}
