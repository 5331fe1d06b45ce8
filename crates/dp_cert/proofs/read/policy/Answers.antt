use Rattle.dp_cert.proofs.CertificateParts.{kept_steps}
use Rattle.dp_cert.proofs.ReadCertificates.{policy_read}
use Rattle.dp_cert.proofs.read.policy.Goals as goal

pub join_rows-requires-clause-limit : goal.join_rows-requires-clause-limit
join_rows-requires-clause-limit c = kept_steps c.args.model.now.model c.args.version c.args.horizon
    c.requires.kept

-- the rows of a text are a shared policy
pub unreachable-requires : goal.unreachable-requires
unreachable-requires c =
    c.in_default.ensures (policy_read c.args.model.now.model c.invariant.ensures.model c.args.version
    c.args.horizon
    c.args.from.line c.args.from.rest.now _ c.requires.some_step c.requires.kept c.in_ok-rows.ensures).shared
