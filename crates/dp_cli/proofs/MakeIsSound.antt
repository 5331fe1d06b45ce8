-- The command `make`: what it puts is what it claims, and it passes no limit on the bytes of a file but that of its own
-- text.
use Rattle.std.proofs.Common.{◌≡◌, ℕ, Bool, true, false, cond, List, [], ◌∷◌, length, Option, Some, None, sym, ap}
use Rattle.std.proofs.Common.{◌∙◌}
use Rattle.std.specs.Prelude.{nat_lt}
use Rattle.dp_model.specs.declared.limit.Limit.TheVariants.{ModelBytes}
use Rattle.dp_model.specs.declared.limit.TooLarge.{TooLarge}
use Rattle.dp_model.specs.Limits.{greatest_allowed}
use Rattle.dp_words.specs.declared.job.MakeJob.{MakeJob}
use Rattle.dp_writer.specs.MadeModel.{made_passed}
use Rattle.dp_writer.specs.WrittenModel.{written_model}
use Rattle.dp_cli.specs.declared.refusal.FileRole.{FileRole}
use Rattle.dp_cli.specs.declared.refusal.JobFault.TheVariants as job_faults
use Rattle.dp_cli.specs.MadeJobs.{made_for, passed_or, sizes_for}
use Rattle.dp_cli.specs.MakeCommand.{fault_of_make, make_command, written_fault}
use Rattle.dp_cli.specs.Planned.{large_fault}
use Rattle.dp_cli.specs.Refusal.{role_limit}
use Rattle.dp_cli.proofs.FileLimits.{IsOther, of_no_role}
use Rattle.dp_cli.proofs.MadeLimits.{made_is_other}
use Rattle.dp_cli.proofs.Sound.{IsSound}

-- what is wrong with a made model is that its text passes the limit
own_limit : (job : MakeJob) (passed : TooLarge)
    → written_fault (made_for job) ≡ Some (job_faults.TooLarge passed) → Some ModelBytes ≡ Some passed.what
own_limit job passed fault = by (nat_lt (greatest_allowed ModelBytes) (length (written_model (made_for job)))) fault
  where
    told : TooLarge
    told = record { what = ModelBytes; count = length (written_model (made_for job)) }

    by : (b : Bool) → large_fault (cond b (Some told) None) ≡ Some (job_faults.TooLarge passed)
        → Some ModelBytes ≡ Some passed.what
    by true e = let same : told ≡ passed = cc in ap (λ (t : TooLarge). Some t.what) same
    by false e = cc

make_limits : (job : MakeJob) (texts : List (List ℕ)) (passed : TooLarge) (role : FileRole)
    → fault_of_make job texts ≡ Some (job_faults.TooLarge passed) → passed.what ≡ role_limit role
    → Some ModelBytes ≡ Some passed.what
make_limits job [] passed role fault is = by (made_passed (sizes_for job)) (made_is_other (sizes_for job)) fault
  where
    by : (tried : Option TooLarge) → IsOther tried
        → passed_or tried (written_fault (made_for job)) ≡ Some (job_faults.TooLarge passed)
        → Some ModelBytes ≡ Some passed.what
    by (Some large) other e = absurd (of_no_role (Some (job_faults.TooLarge large)) other passed role e is)
    by None other e = own_limit job passed e
make_limits job (file ∷ texts) passed role fault is = cc

pub make_is_sound : (job : MakeJob) → IsSound (make_command job)
make_is_sound job = record {
  claims = λ texts text fine h. h;
  limits = λ texts passed role fault is. make_limits job texts passed role fault is;
}
