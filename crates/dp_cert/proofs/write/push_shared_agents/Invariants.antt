use Rattle.std.proofs.Common.{◌≡◌, ◌++◌, drop, map}
use Rattle.dp_cert.specs.CertificateBytes.{agents_bytes, counted_bytes}
use Rattle.dp_cert.proofs.write.push_shared_agents.Given as goal

-- what is written and what is still to be are all
abbrev pub invariant-loop-stages : goal.invariant-loop-stages
invariant-loop-stages l = record {
  written : l.text.items ++ agents_bytes counted_bytes l.number
      (map (λ s. map (λ r. r.items) s.items) (drop l.stages-index l.agents))
      ≡ l.fn.text.items ++ agents_bytes counted_bytes 0 (map (λ s. map (λ r. r.items) s.items) l.agents);
  number : l.number ≡ l.stages-index;
}
