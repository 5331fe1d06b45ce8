use Rattle.std.proofs.Common.{◌≡◌, suc, map, sym, ap, subst, ◌∙◌}
use Rattle.dp_spec.specs.Front.{Front}
use Rattle.dp_spec.specs.Steps.{advanced_front}
use Rattle.dp_laws.proofs.KeptSteps.{keeps_advanced}
use Rattle.dp_cluster.specs.KeepingPolicies.{KeepsToo}
use Rattle.dp_cluster.specs.KeptFronts.{IsFrontOf, KeptFront, part_fronts}
use Rattle.dp_cluster.proofs.Advances.{advanced_weights_few, next_kept, next_stored}
use Rattle.dp_cluster.proofs.front.Front.advance.Goals as goal

pub next-requires-clause-stored : goal.next-requires-clause-stored
next-requires-clause-stored c =
    next_stored c.args.m.now.model c.args.self.now c.requires.of_model c.requires.stage c.requires.complete _ _
    c.earned_in-earned.result c.in_ok-agents.ensures.fronts c.in_ok-agents.ensures.observations
    c.in_ok-agents.ensures.past
    (advanced_weights_few c.args.m.now.model c.args.self.now c.requires.of_model c.requires.room)
    (λ early. ap (λ v. v.items) c.in_ok-new.ensures.ok ∙ c.in_ok-weights.ensures early)
    c.earned_in-earned.ensures c.invariant-2.ensures

pub returns-clause-past : goal.returns-clause-past
returns-clause-past c = ap (λ (k : KeptFront). k.past) c.next.ensures ∙ c.in_ok-agents.ensures.past

pub returns-clause-of_model : goal.returns-clause-of_model
returns-clause-of_model c =
    subst (IsFrontOf c.args.m.now.model) (sym c.next.ensures)
    (next_kept c.args.m.now.model c.args.self.now c.requires.of_model c.requires.stage c.requires.complete _ _
    c.earned_in-earned.result c.in_ok-agents.ensures.fronts c.in_ok-agents.ensures.observations
    c.in_ok-agents.ensures.past
    (advanced_weights_few c.args.m.now.model c.args.self.now c.requires.of_model c.requires.room)
    (λ early. ap (λ v. v.items) c.in_ok-new.ensures.ok ∙ c.in_ok-weights.ensures early)
    c.earned_in-earned.ensures)

pub weights_in-requires-clause-room : goal.weights_in-requires-clause-room
weights_in-requires-clause-room c = advanced_weights_few c.args.m.now.model c.args.self.now c.requires.of_model
    c.requires.room

pub returns-clause-keeps : goal.returns-clause-keeps
returns-clause-keeps c =
    let m = c.args.m.now.model in
    let k = c.args.self.now in
    let front_is : record {
      stage = suc k.front.stage;
      agents = part_fronts
          (map (λ p. p.value) c.in_ok-agents.agents.items);
    } ≡ advanced_front m k.front =
    λ j. record { stage = suc k.front.stage; agents = c.in_ok-agents.ensures.fronts j } in
    subst (λ (v : KeptFront). KeepsToo m k.front v.front) (sym c.next.ensures)
    (subst (λ (F : Front). KeepsToo m k.front F) (sym front_is)
    (λ qs keeps. keeps_advanced m k.horizon k.front qs c.requires.of_model.front keeps c.requires.complete))
