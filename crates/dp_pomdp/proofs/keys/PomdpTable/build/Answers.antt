use Rattle.dp_pomdp.proofs.KeyRows.{some_pairs}
use Rattle.dp_pomdp.proofs.KeyTables.{table_of}
use Rattle.dp_pomdp.proofs.keys.PomdpTable.build.Goals as goal

pub kept_count-count-requires-clause-some : goal.kept_count-count-requires-clause-some
kept_count-count-requires-clause-some c =
    rw (c.joint_actions-actions.ensures.is, c.joint_observations-observations.ensures.is)
    (some_pairs c.args.model.now.model c.invariant.ensures.model)

pub returns : goal.returns
returns c =
    table_of c.args.fit.exact c.args.model.now.model c.invariant.ensures.model c.args.fit.horizon c.args.most_rows
    _ _ c.kept_count-count.result c.requires.fit.horizon.0 c.in_ok-rows.rows.items c.deref.result.now
    c.in_ok-values.values.items c.joint_actions-actions.ensures.is c.joint_observations-observations.ensures.is
    c.kept_count-count.ensures c.deref.ensures.value c.in_ok-rows.ensures.count c.in_ok-rows.ensures.rows
    c.in_ok-values.ensures.count c.in_ok-values.ensures.values
