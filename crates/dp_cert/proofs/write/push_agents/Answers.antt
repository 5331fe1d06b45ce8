use Rattle.dp_cert.proofs.WrittenTrees.{is_other}
use Rattle.dp_cert.proofs.write.push_agents.Goals as goal

pub returns-then-version-eq1 : goal.returns-then-version-eq1
returns-then-version-eq1 c = rw c.if-version-eq1.true c.push_plain_agents.ensures

pub returns-else-version-eq1 : goal.returns-else-version-eq1
returns-else-version-eq1 c = rw (is_other c.args.version c.if-version-eq1.false) c.push_shared_agents.ensures
