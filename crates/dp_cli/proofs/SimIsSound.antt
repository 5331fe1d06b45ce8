-- The command `sim`: what it puts is what it claims, and it passes no limit on the bytes of a file.
use Rattle.std.proofs.Common.{ℕ, List, [], ◌∷◌, None}
use Rattle.dp_words.specs.declared.job.SimJob.{SimJob}
use Rattle.dp_cli.specs.CertificateFile.{certificate_or}
use Rattle.dp_cli.specs.SimCommand.{fault_of_sim, sim_command}
use Rattle.dp_cli.proofs.CertificateReading.{certificate_or_is_other}
use Rattle.dp_cli.proofs.FileLimits.{IsOther, limit_told, model_fault_is_other, of_no_role}
use Rattle.dp_cli.proofs.Sound.{IsSound}

sim_is_other : (texts : List (List ℕ)) → IsOther (limit_told (fault_of_sim texts))
sim_is_other [] = tt
sim_is_other (file ∷ []) = model_fault_is_other (λ m. None) (λ m. tt) file
sim_is_other (file ∷ cert ∷ []) = model_fault_is_other (certificate_or (λ c. None) cert)
    (λ m. certificate_or_is_other (λ c. None) (λ c. tt) cert m) file
sim_is_other (file ∷ cert ∷ next ∷ texts) = tt

pub sim_is_sound : (job : SimJob) → IsSound (sim_command job)
sim_is_sound job = record {
  claims = λ texts text fine h. h;
  limits = λ texts passed role fault is. absurd (of_no_role _ (sim_is_other texts) passed role fault is);
}
