-- The command `show`: what it puts is what it claims, and it passes no limit on the bytes of a file.
use Rattle.std.proofs.Common.{ℕ, List, [], ◌∷◌, Option, Some, None}
use Rattle.std.specs.Prelude.{option_map}
use Rattle.dp_spec.specs.Model.{Model}
use Rattle.dp_model.specs.declared.limit.TooLarge.{TooLarge}
use Rattle.dp_model.specs.Horizons.{horizon_limits}
use Rattle.dp_model.specs.Limits.{first_passed}
use Rattle.dp_words.specs.declared.job.ShowJob.{ShowJob}
use Rattle.dp_cli.specs.declared.refusal.JobFault.TheVariants as job_faults
use Rattle.dp_cli.specs.ShowCommand.{fault_of_show, horizon_fault, show_command, shown_fault}
use Rattle.dp_cli.proofs.CertificateReading.{certificate_or_is_other}
use Rattle.dp_cli.proofs.FileLimits.{IsOther, horizon_is_other, limit_told, model_fault_is_other, of_no_role}
use Rattle.dp_cli.proofs.Sound.{IsSound}

shown_horizon_is_other : (m : Model) (h : ℕ) → IsOther (limit_told (horizon_fault m h))
shown_horizon_is_other m h = by (first_passed (horizon_limits m h)) (horizon_is_other m h)
  where
    by : (o : Option TooLarge) → IsOther o
        → IsOther (limit_told (option_map (λ passed. job_faults.TooLarge passed) o))
    by (Some passed) is = is
    by None is = tt

show_is_other : (texts : List (List ℕ)) → IsOther (limit_told (fault_of_show texts))
show_is_other [] = tt
show_is_other (file ∷ []) = model_fault_is_other (λ m. None) (λ m. tt) file
show_is_other (file ∷ cert ∷ []) = model_fault_is_other (shown_fault cert)
    (λ m. certificate_or_is_other (λ c. horizon_fault m c.horizon) (λ c. shown_horizon_is_other m c.horizon) cert m)
    file
show_is_other (file ∷ cert ∷ next ∷ texts) = tt

pub show_is_sound : (job : ShowJob) → IsSound (show_command job)
show_is_sound job = record {
  claims = λ texts text fine h. h;
  limits = λ texts passed role fault is. absurd (of_no_role _ (show_is_other texts) passed role fault is);
}
