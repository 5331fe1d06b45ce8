use Rattle.std.proofs.Common.{◌≡◌, ◌++◌, drop}
use Rattle.dp_cert.specs.CertificateBytes.{rows_bytes}
use Rattle.dp_cert.proofs.write.push_rows.Given as goal

-- what is written and what is still to be are all
abbrev pub invariant-loop-row : goal.invariant-loop-row
invariant-loop-row l = l.text.items ++ rows_bytes (drop l.row-index l.rows) ≡ l.fn.text.items
    ++ rows_bytes l.rows
