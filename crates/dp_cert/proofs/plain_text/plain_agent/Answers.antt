use Rattle.std.proofs.Common.{arith}
use Rattle.dp_policy.proofs.JoinedRows.{few_observations}
use Rattle.dp_policy.proofs.AgentParts.{action_some, histories_few}
use Rattle.dp_cert.proofs.plain_text.plain_agent.Goals as goal

pub plain_stages-requires-clause-actions : goal.plain_stages-requires-clause-actions
plain_stages-requires-clause-actions c =
    rw c.actions.ensures (action_some c.args.model.now.model c.args.agent c.invariant.ensures.model
    c.requires.agent)

pub plain_stages-requires-clause-observations : goal.plain_stages-requires-clause-observations
plain_stages-requires-clause-observations c =
    rw c.observations.ensures (few_observations c.args.model.now.model c.invariant.ensures.model c.args.agent)

pub plain_stages-requires-clause-few : goal.plain_stages-requires-clause-few
plain_stages-requires-clause-few c = λ t in_time.
    rw c.observations.ensures (histories_few c.args.model.now.model.observations c.args.horizon c.args.agent t
    c.requires.within.own_histories (omega (arith, c.requires.agent, c.invariant.ensures.model.sizes.alike))
    in_time)
