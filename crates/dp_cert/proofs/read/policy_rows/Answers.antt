use Rattle.std.proofs.Common.{ap}
use Rattle.dp_lines.specs.Scanning.{front_of}
use Rattle.dp_cert.proofs.CertificateParts.{kept_version_one, policy_one, policy_two}
use Rattle.dp_lines.proofs.TextParts.{gives_at}
use Rattle.dp_cert.specs.Reading.{told_fault}
use Rattle.dp_cert.proofs.read.policy_rows.Goals as goal

pub plain_agents-requires : goal.plain_agents-requires
plain_agents-requires c =
    kept_version_one c.args.model.now.model c.args.version c.args.horizon c.if-version-eq1.true
    c.requires.some_step c.requires.kept

pub returns-then-version-eq1 : goal.returns-then-version-eq1
returns-then-version-eq1 c =
    gives_at told_fault _ c.plain_agents.result _ _
    (ap (λ g. front_of g c.args.from.line c.args.from.rest.now)
    (policy_one c.args.model.now.model c.args.version c.args.horizon c.if-version-eq1.true))
    c.plain_agents.ensures

pub returns-else-version-eq1 : goal.returns-else-version-eq1
returns-else-version-eq1 c =
    gives_at told_fault _ c.shared_agents.result _ _
    (ap (λ g. front_of g c.args.from.line c.args.from.rest.now)
    (policy_two c.args.model.now.model c.args.version c.args.horizon c.if-version-eq1.false))
    c.shared_agents.ensures
