use Rattle.std.proofs.Common.{arith}
use Rattle.std.proofs.lemmas.Int.{ints}
use Rattle.dp_pomdp.proofs.Pushes.{may_chance, may_later, part_none}
use Rattle.dp_pomdp.proofs.step.part_of.Goals as goal

pub chance-requires : goal.chance-requires
chance-requires g c =
    let may = may_chance _ _ _ _ c.requires.sizes _ _ c.requires.action c.requires.seen _ c.requires.to _
    c.requires.state in
    record { allowed = rw (c.trans.ensures, c.requires.chance) may }

pub later-requires : goal.later-requires
later-requires g c =
    let may = may_later _ _ _ _ c.requires.sizes _ _ c.requires.action c.requires.seen _ c.requires.to _
    c.requires.state in
    record { allowed = rw (c.chance.ensures, c.trans.ensures, c.requires.chance) may }

pub returns-then-weight-eq0 : goal.returns-then-weight-eq0
returns-then-weight-eq0 g c =
    part_none _ _ _ _ c.requires.sizes _ _ _ _ c.requires.state (search (arith, ints, c.if-weight-eq0.true))
