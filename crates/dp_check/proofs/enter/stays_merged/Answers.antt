use Rattle.std.proofs.Common.{sym, ◌∙◌}
use Rattle.dp_check.proofs.EntrySteps.{merged_stays, mode_is}
use Rattle.dp_check.proofs.FrontBounds.{same_mode}
use Rattle.dp_check.proofs.enter.stays_merged.Goals as goal

pub returns : goal.returns
returns c =
    merged_stays _ _ _ _ _ c.if-not-before.false
    (same_mode c.args.m.now.model c.args.bounds.now c.requires.bounds c.args.node.now.front
    c.requires.node.front
    ∙ sym (mode_is c.args.m.now.model c.args.bounds.now))
    c.in_ok-none.ensures
