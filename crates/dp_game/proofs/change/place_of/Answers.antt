use Rattle.std.proofs.Common.{sym}
use Rattle.dp_game.proofs.ClassPlaces.{place_in_first, place_in_last}
use Rattle.dp_game.proofs.change.place_of.Goals as goal

pub returns-then-other-width : goal.returns-then-other-width
returns-then-other-width c =
    sym (place_in_first c.args.other c.args.count c.args.class c.args.width c.if-other-width.true)

pub returns-then-width-eq1 : goal.returns-then-width-eq1
returns-then-width-eq1 c =
    sym (place_in_last c.args.other c.args.count c.args.class c.args.width c.if-width-eq1.true)
