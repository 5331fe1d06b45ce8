-- The command `print`: what it puts is what it claims, and it passes no limit on the bytes of a file.
use Rattle.std.proofs.Common.{ℕ, List, [], ◌∷◌, length, refl}
use Rattle.dp_model.specs.declared.limit.Limit.TheVariants as limits
use Rattle.dp_model.specs.Limits.{passed_by}
use Rattle.dp_words.specs.declared.job.PrintJob.{PrintJob}
use Rattle.dp_writer.specs.TableText.{table_text}
use Rattle.dp_cli.specs.PrintCommand.{fault_of_print, print_command, table_fault}
use Rattle.dp_cli.proofs.FileLimits.{IsOther, limit_told, of_no_role, other, read_fault_is_other}
use Rattle.dp_cli.proofs.ProvedPlans.{large_is_other}
use Rattle.dp_cli.proofs.Sound.{IsSound}

print_is_other : (texts : List (List ℕ)) → IsOther (limit_told (fault_of_print texts))
print_is_other [] = tt
print_is_other (file ∷ []) =
    read_fault_is_other table_fault
    (λ read. let n = length (table_text read.model read.repaired) in
    large_is_other (passed_by limits.TextBytes n) (other limits.TextBytes n refl))
    file
print_is_other (file ∷ next ∷ texts) = tt

pub print_is_sound : (job : PrintJob) → IsSound (print_command job)
print_is_sound job = record {
  claims = λ texts text fine h. h;
  limits = λ texts passed role fault is. absurd (of_no_role _ (print_is_other texts) passed role fault is);
}
