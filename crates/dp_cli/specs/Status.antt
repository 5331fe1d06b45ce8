-- The exit statuses of the program.
use Rattle.std.specs.Prelude.{ℕ}
use Rattle.dp_cli.specs.declared.status.Status.{Status}
use Rattle.dp_cli.specs.declared.status.Status.TheVariants as statuses

-- the number of each exit status
abbrev pub status_code : Status → ℕ
status_code statuses.Done = 0
status_code statuses.Rejected = 1
status_code statuses.Usage = 2
status_code statuses.BadModel = 3
status_code statuses.BadFile = 4
status_code statuses.TooLarge = 5
status_code statuses.ReadFault = 6
status_code statuses.WriteFault = 7
status_code statuses.NoMemory = 8
