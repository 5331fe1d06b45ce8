use Rattle.std.proofs.Common.{drop}
use Rattle.std.specs.Prelude.{◌↔◌}
use Rattle.dp_spec.specs.PlainForm.{ArePlain}
use Rattle.dp_policy.proofs.shared.Shared.are_agents_plain.Given as goal

abbrev pub invariant-loop-agent : goal.invariant-loop-agent
invariant-loop-agent l =
    ArePlain l.self.horizon l.model.model.observations l.self.rows
    ↔ ArePlain l.self.horizon (drop l.agent l.model.model.observations) (drop l.agent l.self.rows)
