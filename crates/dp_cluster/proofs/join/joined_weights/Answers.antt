use Rattle.std.proofs.Common.{◌∙◌, arith}
use Rattle.dp_cluster.specs.Joins.{merged_at}
use Rattle.dp_cluster.proofs.AdvancedParts.{some_class}
use Rattle.dp_cluster.proofs.FrontParts.{unassigned_in}
use Rattle.dp_cluster.proofs.JoinedWeights.{row_next, rows_are}
use Rattle.dp_cluster.proofs.join.joined_weights.Goals as goal

pub places-places-requires-clause-some_class : goal.places-places-requires-clause-some_class
places-places-requires-clause-some_class c =
    some_class c.requires.of_model.0 c.args.front.now.horizon c.args.front.now.front c.requires.of_model.1.model
    c.requires.of_model.1.front

pub places-places-requires-clause-agent : goal.places-places-requires-clause-agent
places-places-requires-clause-agent c = (unassigned_in _ _ _ c.requires.first).0

pub loop-row-preserved : goal.loop-row-preserved
loop-row-preserved c =
    row_next (merged_at c.args.front.now c.args.agent c.args.first c.args.second) _ c.loop-row.row _ _
    c.loop-row.invariant c.in_ok-push_row.ensures

pub returns : goal.returns
returns c =
    c.loop-row.invariant ∙ rows_are c.requires.of_model.0 c.args.front.now c.requires.of_model.1 c.requires.exact
    c.requires.stage c.args.agent
    c.args.first c.args.second c.requires.order c.requires.first c.requires.second c.places-places.result
    c.places-places.ensures
    c.loop-row.row (omega arith)
