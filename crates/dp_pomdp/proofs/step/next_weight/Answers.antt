use Rattle.std.proofs.Common.{sym, ◌∙◌}
use Rattle.dp_pomdp.proofs.Pushes.{none_seen}
use Rattle.dp_pomdp.proofs.step.next_weight.Goals as goal

pub returns-then-chance-eq0 : goal.returns-then-chance-eq0
returns-then-chance-eq0 g c =
    none_seen _ c.requires.sizes.1.zero _ _ _ _ _ (sym c.obs-chance.ensures ∙ c.if-chance-eq0.true)
