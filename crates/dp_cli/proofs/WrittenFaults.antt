-- What a call of the writer that is refused says of the job.
use Rattle.std.proofs.Common.{◌≡◌, ℕ, List, Option, Some, None, Result, Ok, Err, refl, ap}
use Rattle.dp_model.specs.declared.limit.TooLarge.{TooLarge}
use Rattle.dp_writer.specs.declared.fault.MakeFault.{MakeFault}
use Rattle.dp_writer.specs.declared.fault.MakeFault.TheVariants as made_faults
use Rattle.dp_cli.specs.declared.refusal.JobFault.{JobFault}
use Rattle.dp_cli.specs.Answer.{Stops}
use Rattle.dp_cli.specs.MadeJobs.{passed_or}
use Rattle.dp_cli.specs.Planned.{large_fault}
use Rattle.dp_cli.specs.Refusal.{made_refusal}

-- the limit that is told is the one that was passed
pub stops_writing : (tried : Option TooLarge) (fault : MakeFault)
    → ((passed : TooLarge) → fault ≡ made_faults.TooLarge passed → tried ≡ Some passed)
    → Stops (large_fault tried) (made_refusal fault)
stops_writing tried (made_faults.TooLarge passed) h = ap large_fault (h passed refl)
stops_writing tried made_faults.Memory h = tt

-- so it is before anything else of the job
pub stops_making : (tried : Option TooLarge) (next : Option JobFault) (fault : MakeFault)
    → ((passed : TooLarge) → fault ≡ made_faults.TooLarge passed → tried ≡ Some passed)
    → Stops (passed_or tried next) (made_refusal fault)
stops_making tried next (made_faults.TooLarge passed) h =
    ap (λ (t : Option TooLarge). passed_or t next) (h passed refl)
stops_making tried next made_faults.Memory h = tt
