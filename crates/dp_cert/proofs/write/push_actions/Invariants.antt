use Rattle.std.proofs.Common.{◌≡◌, ◌++◌, drop, map}
use Rattle.dp_cert.specs.CertificateBytes.{actions_bytes}
use Rattle.dp_cert.proofs.write.push_actions.Given as goal

-- what is written and what is still to be are all
abbrev pub invariant-loop-rows : goal.invariant-loop-rows
invariant-loop-rows l = l.text.items ++ actions_bytes (map (λ r. r.items) (drop l.rows-index l.stages))
    ≡ l.fn.text.items ++ actions_bytes (map (λ r. r.items) l.stages)
