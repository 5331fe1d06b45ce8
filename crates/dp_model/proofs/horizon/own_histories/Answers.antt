use Rattle.std.proofs.Common.{arith}
use Rattle.dp_model.proofs.HorizonLemmas.{observations_few}
use Rattle.dp_model.proofs.horizon.own_histories.Goals as goal

pub histories_of-count-requires-clause-few : goal.histories_of-count-requires-clause-few
histories_of-count-requires-clause-few c =
    let alike = c.invariant.ensures.model.sizes.alike in
    rw c.observations.ensures (observations_few c.args.model.now.model c.invariant.ensures.model c.loop-agent.agent
    (omega arith))
