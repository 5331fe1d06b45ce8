use Rattle.std.proofs.Common.{◌≡◌, ◌∙◌, arith}
use Rattle.dp_spec.specs.Model.{joint_observations}
use Rattle.dp_model.proofs.HorizonLemmas.{joint_histories_few}
use Rattle.dp_model.proofs.horizon.joint_histories.Goals as goal

pub pow-requires : goal.pow-requires
pow-requires c =
    let count : c.from.result ≡ joint_observations c.args.model.now.model =
    c.from.ensures ∙ c.joint_observations.ensures.is in
    let few = joint_histories_few c.args.model.now.model c.invariant.ensures.model c.args.horizon c.requires.some
    c.requires.few in
    rw count (omega arith)

pub returns-clause-limit : goal.returns-clause-limit
returns-clause-limit c =
    let count : c.from.result ≡ joint_observations c.args.model.now.model =
    c.from.ensures ∙ c.joint_observations.ensures.is in
    let few = joint_histories_few c.args.model.now.model c.invariant.ensures.model c.args.horizon c.requires.some
    c.requires.few in
    rw (c.pow.ensures, count) few
