use Rattle.std.proofs.Common.{◌∙◌}
use Rattle.dp_value.proofs.Modes.{sums_hold_the_value}
use Rattle.dp_value.proofs.room.worth_shared.Goals as goal

pub returns-clause-value : goal.returns-clause-value
returns-clause-value c =
    sums_hold_the_value c.args.model.now.model c.invariant.ensures.model c.args.room.now.fit.exact
    c.args.policy.now.horizon c.args.policy.now.rows c.requires.policy
    c.worth_of.result (c.worth_of.ensures.ends ∙ c.sums_in_mode.ensures.sums)
