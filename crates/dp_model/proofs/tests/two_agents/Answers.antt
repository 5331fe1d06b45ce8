use Rattle.std.proofs.Common.{◌≡◌, ◌∙◌, [], ◌∷◌, replicate, sym, subst}
use Rattle.dp_spec.specs.Model.{IsModel}
use Rattle.dp_model.specs.Parts.{AreParts}
use Rattle.dp_model.specs.Tables.{model_of_tables}
use Rattle.dp_model.proofs.TwoAgents.{is_model, are_actions, are_observations, rewards, two_agents}
use Rattle.dp_model.proofs.tests.two_agents.Goals as goal

pub build-requires-clause-model : goal.build-requires-clause-model
build-requires-clause-model c =
    let actions : c.of.result ≡ 2 ∷ 3 ∷ [] = c.of.ensures ∙ c.in_ok-vec.ensures.items in
    let observations : c.of-2.result ≡ 1 ∷ 2 ∷ [] = c.of-2.ensures ∙ c.in_ok-vec-2.ensures.items in
    let start : c.of-3.result ≡ replicate 1 1 = c.of-3.ensures ∙ c.in_ok-vec-3.ensures.items in
    let trans : c.of-4.result ≡ replicate 6 1 = c.of-4.ensures ∙ c.in_ok-vec-4.ensures.items in
    let obs : c.of-5.result ≡ replicate 12 1 = c.of-5.ensures ∙ c.in_ok-vec-5.ensures.items in
    let reward : c.of-6.result ≡ rewards = c.of-6.ensures ∙ c.in_ok-vec-6.ensures.items in
    let is : model_of_tables (record { states = 1; actions = c.of.result; observations = c.of-2.result })
    (record { start = 1; trans = 1; obs = 2; reward = 1; discount = 1; gain = 1 })
    (record { start = c.of-3.result; trans = c.of-4.result; obs = c.of-5.result; reward = c.of-6.result })
    ≡ two_agents =
    λ i. record {
      states = 1;
      actions = actions i;
      observations = observations i;
      scales = record { start = 1; trans = 1; obs = 2; reward = 1; discount = 1; gain = 1 };
      start = start i;
      trans = trans i;
      obs = obs i;
      reward = reward i;
    } in
    subst IsModel (sym is) is_model

pub returns-clause-are_actions : goal.returns-clause-are_actions
returns-clause-are_actions c =
    let actions : c.build.result.model.actions ≡ 2 ∷ 3 ∷ [] =
    (λ i. (c.build.ensures i).model.actions) ∙ c.of.ensures ∙ c.in_ok-vec.ensures.items in
    subst (λ ns. AreParts ns (1 ∷ 2 ∷ [])) (sym actions) are_actions

pub returns-clause-are_observations : goal.returns-clause-are_observations
returns-clause-are_observations c =
    let observations : c.build.result.model.observations ≡ 1 ∷ 2 ∷ [] =
    (λ i. (c.build.ensures i).model.observations) ∙ c.of-2.ensures ∙ c.in_ok-vec-2.ensures.items in
    subst (λ ns. AreParts ns (0 ∷ 1 ∷ [])) (sym observations) are_observations
