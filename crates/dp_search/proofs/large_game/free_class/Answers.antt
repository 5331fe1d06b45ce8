use Rattle.std.proofs.Common.{◌∙◌, sym, arith}
use Rattle.dp_cluster.proofs.MergeFaults.{none_of, none_unassigned}
use Rattle.dp_search.proofs.large_game.free_class.Goals as goal

pub returns-then-is_none : goal.returns-then-is_none
returns-then-is_none c =
    none_unassigned c.args.front.now.front.agents c.args.agent c.loop-class.class c.requires
    (omega (arith, c.classes-class-end.ensures, c.loop-class-test.true))
    (sym c.action.ensures ∙ none_of c.action.result c.if-is_none.ensures)
