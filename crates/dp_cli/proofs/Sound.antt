-- What the proof of each command shows.
use Rattle.std.proofs.Common.{◌≡◌, ℕ, List, Some, None}
use Rattle.dp_model.specs.declared.limit.TooLarge.{TooLarge}
use Rattle.dp_cli.specs.declared.refusal.FileRole.{FileRole}
use Rattle.dp_cli.specs.declared.refusal.JobFault.TheVariants as job_faults
use Rattle.dp_cli.specs.Command.{Command}
use Rattle.dp_cli.specs.Refusal.{role_limit}

pub record IsSound (command : Command) : Type 0 where
  -- what it claims is so where nothing is wrong and the text is its
  pub claims : (texts : List (List ℕ)) (text : List ℕ) → command.fault texts ≡ None → command.IsText texts text
      → command.Claims texts text
  -- what is wrong with its texts is no limit on the bytes of a file, that on its own text aside
  pub limits : (texts : List (List ℕ)) (passed : TooLarge) (role : FileRole)
      → command.fault texts ≡ Some (job_faults.TooLarge passed)
      → passed.what ≡ role_limit role
      → command.text_limit ≡ Some passed.what
