use Rattle.std.proofs.Common.{◌≡◌, ◌++◌, drop, map}
use Rattle.dp_cert.specs.CertificateBytes.{stages_bytes}
use Rattle.dp_cert.proofs.write.push_stages.Given as goal

-- what is written and what is still to be are all
abbrev pub invariant-loop-rows : goal.invariant-loop-rows
invariant-loop-rows l = l.text.items ++ stages_bytes (map (λ r. r.items) (drop l.rows-index l.stages))
    ≡ l.fn.text.items ++ stages_bytes (map (λ r. r.items) l.stages)
