use Rattle.std.proofs.Common.{◌∙◌}
use Rattle.dp_tables.proofs.SizeLemmas.{scales_are}
use Rattle.dp_tables.proofs.limits.check_scales.Goals as goal

pub returns-clause-scales : goal.returns-clause-scales
returns-clause-scales c = scales_are c.args.text.now c.args.sizes _ c.requires.sizes (record {
  start = c.in_ok-start.ensures.scale ∙ c.start_scale.ensures;
  trans = c.in_ok-trans.ensures.scale ∙ c.table_scale.ensures;
  obs = c.in_ok-obs.ensures.scale ∙ c.table_scale-2.ensures;
  reward = c.reward_scale.ensures;
  discount = c.discount_scale.ensures;
  gain = c.gain.ensures;
})
