use Rattle.dp_model.proofs.names.Names.add_state.Goals as goal

pub invariant_of-self : goal.invariant_of-self
invariant_of-self c =
    let old = c.self.invariant in
    record {
      agents = old.agents;
      states = c.add.ensures.kept;
      actions = old.actions;
      observations = old.observations;
      alike = old.alike;
    }
