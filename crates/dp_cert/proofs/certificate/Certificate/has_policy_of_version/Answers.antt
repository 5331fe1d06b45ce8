use Rattle.std.proofs.Common.{rules}
use Rattle.dp_cert.proofs.PolicyHorizons.{one_horizon}
use Rattle.dp_cert.proofs.certificate.Certificate.has_policy_of_version.Goals as goal

pub returns-then-horizon-self : goal.returns-then-horizon-self
returns-then-horizon-self c = (
  λ t. cc t,
  λ has. (let e = one_horizon c.args.model.now.model c.args.self.now.horizon c.args.self.now.policy.horizon
      c.args.self.now.policy.rows
      c.invariant.ensures.model c.invariant-2.ensures has.shared in
      absurd (search (rules, e, c.horizon.ensures.is, c.if-horizon-self.true))),
)
