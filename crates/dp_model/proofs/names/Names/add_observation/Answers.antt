use Rattle.std.proofs.Common.{◌∙◌}
use Rattle.std.proofs.lemmas.List.{length-set}
use Rattle.dp_model.proofs.NameLemmas.{slice_set-kept}
use Rattle.dp_model.proofs.names.Names.add_observation.Goals as goal

pub invariant_of-self : goal.invariant_of-self
invariant_of-self c =
    let old = c.self.invariant in
    let lists = c.self.inside.observations.items in
    let i = c.args.i in
    let kept = c.add.ensures.kept in
    record {
      agents = old.agents;
      states = old.states;
      actions = old.actions;
      observations = slice_set-kept lists i c.add.new.self old.observations kept;
      alike = length-set lists i c.add.new.self ∙ old.alike;
    }
