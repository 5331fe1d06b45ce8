use Rattle.std.proofs.Common.{subst, sym}
use Rattle.dp_spec.specs.Model.{AreScales}
use Rattle.dp_meaning.proofs.ModelLaws.{scales_are}
use Rattle.dp_meaning.proofs.SaidTexts.{said_is}
use Rattle.dp_meaning.proofs.TextLimits.{small}
use Rattle.dp_tables.proofs.bounded.BoundedText.scales.Goals as goal

pub returns-clause-scales : goal.returns-clause-scales
returns-clause-scales c =
    let text = c.self.inside.text in
    let kept = c.self.invariant in
    subst AreScales (sym kept.are_scales) (scales_are text (said_is text kept.said) (small text kept.within))
