use Rattle.std.proofs.Common.{◌∙◌, sym, arith}
use Rattle.dp_laws.proofs.Leaves.{some_action}
use Rattle.dp_cluster.proofs.MergeFaults.{none_of, none_unassigned}
use Rattle.dp_search.proofs.completion.choose_own.Goals as goal

pub choose_best-requires-clause-some_action : goal.choose_best-requires-clause-some_action
choose_best-requires-clause-some_action c =
    let k = c.args.front.now in
    some_action c.args.model.now.model k.horizon k.front c.args.agent c.loop-class.class
    c.requires.of_model.model c.requires.of_model.front
    (none_unassigned k.front.agents c.args.agent c.loop-class.class c.requires.agent
    (omega (arith, c.classes-class-end.ensures, c.loop-class-test.true))
    (sym c.action.ensures ∙ none_of c.action.result c.if-is_none.ensures))
