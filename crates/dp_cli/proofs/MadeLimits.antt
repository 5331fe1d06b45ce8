-- The limits of a model to be made are none on the bytes of a file.
use Rattle.std.proofs.Common.{◌≡◌, Option, Some, None, refl}
use Rattle.dp_model.specs.declared.limit.Limit.TheVariants as limits
use Rattle.dp_model.specs.declared.limit.TooLarge.{TooLarge}
use Rattle.dp_model.specs.Tables.{NamedModel}
use Rattle.dp_words.specs.declared.job.MakeJob.{MakeJob}
use Rattle.dp_writer.specs.declared.sizes.MakeSize.{MakeSize}
use Rattle.dp_writer.specs.MadeModel.{made_limits, made_passed}
use Rattle.dp_cli.specs.declared.refusal.JobFault.{JobFault}
use Rattle.dp_cli.specs.MadeJobs.{made_for, made_or, passed_or, sizes_for}
use Rattle.dp_cli.proofs.FileLimits.{AreOthers, IsOther, first_is_other, limit_told, other}

pub made_is_other : (size : MakeSize) → IsOther (made_passed size)
unfolding made_passed
made_is_other size =
    first_is_other {tried = made_limits size}
    (AreOthers.before (other limits.Agents _ refl) (AreOthers.before (other limits.States _ refl)
    (AreOthers.before (other limits.JointActions _ refl) (AreOthers.before (other limits.JointObservations _ refl)
    (AreOthers.before (other limits.TransCells _ refl) (AreOthers.before (other limits.ObsCells _ refl)
    (AreOthers.before (other limits.RewardCells _ refl) AreOthers.none_left)))))))

-- where what is wrong with the made model tells none, what is wrong with the job does not either
pub made_or_is_other : (after : NamedModel → Option JobFault) (job : MakeJob)
    → IsOther (limit_told (after (made_for job))) → IsOther (limit_told (made_or after job))
made_or_is_other after job h = by (made_passed (sizes_for job)) (made_is_other (sizes_for job))
  where
    by : (tried : Option TooLarge) → IsOther tried → IsOther (limit_told (passed_or tried (after (made_for job))))
    by (Some passed) is = is
    by None is = h
