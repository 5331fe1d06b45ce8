use Rattle.std.proofs.Common.{sym, ◌∙◌}
use Rattle.dp_value.proofs.LinkedParts.{none_seen}
use Rattle.dp_cluster.proofs.advance.weight_after.Goals as goal

pub returns-then-obs-eq0 : goal.returns-then-obs-eq0
returns-then-obs-eq0 g c =
    none_seen _ c.requires.zeros _ _ _ _ _ (sym c.obs.ensures ∙ c.if-obs-eq0.true)
