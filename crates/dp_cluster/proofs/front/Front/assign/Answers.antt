use Rattle.std.proofs.Common.{◌≡◌, ◌<◌, [], ℕ, map, set, length, get_or, sym, ap, subst, ◌∙◌}
use Rattle.std.proofs.lemmas.List.{length-map}
use Rattle.dp_spec.specs.Steps.{chosen_front}
use Rattle.dp_cluster.specs.KeptFronts.{IsFrontOf, IsStored, KeptFront, kept_front}
use Rattle.dp_cluster.proofs.FrontParts.{as_many_fronts, count_read, part_is, unassigned_in}
use Rattle.dp_cluster.proofs.KeptFronts.{after_assign, chosen_kept, stored_chosen}
use Rattle.dp_laws.proofs.KeptSteps.{keeps_some_choice}
use Rattle.dp_cluster.proofs.front.Front.assign.Goals as goal

pub part-requires : goal.part-requires
part-requires c = (unassigned_in _ _ _ c.requires.unassigned).0

pub with_choice-requires : goal.with_choice-requires
with_choice-requires c =
    let inside = unassigned_in _ _ _ c.requires.unassigned in
    let count = count_read c.args.self.now.front.agents c.args.agent c.part.result.now.front inside.0
    (c.part.ensures.front _) in
    subst (λ (k : ℕ). c.args.class < k) (sym count) inside.1

pub replaced-requires : goal.replaced-requires
replaced-requires c =
    let count = ap (λ (k : KeptFront). length k.front.agents) (sym c.self.view_is) ∙ as_many_fronts _
    ∙ length-map c.self.inside.agents.items (λ p. p.value) in
    let all = count ∙ ap (λ l. length l) (sym c.deref-parts.ensures.value) in
    subst (λ (n : ℕ). c.args.agent < n) all (unassigned_in _ _ _ c.requires.unassigned).0

-- what is kept of the new front
kept_value : (c : goal.After-result-2-1) → kept_front c.self.inside.horizon c.self.inside.exact
    c.self.inside.states c.self.inside.stage (map (λ p. p.value) c.in_ok-replaced.field-0.items)
    c.in_ok-clone.field-0.value.items c.self.inside.earned
    ≡ record c.args.self.now {
      front = chosen_front c.args.self.now.front c.args.agent c.args.class
          c.args.action;
    }
kept_value c =
    let parts = map (λ p. p.value) c.self.inside.agents.items in
    let inside = (unassigned_in _ _ _ c.requires.unassigned).0 in
    let count = ap (λ (k : KeptFront). length k.front.agents) (sym c.self.view_is) ∙ as_many_fronts parts in
    let lt : c.args.agent < length parts = subst (λ (n : ℕ). c.args.agent < n) count inside in
    let read = part_is parts c.args.agent c.part.result.now lt
    (ap (λ (k : KeptFront). get_or k.front.agents c.args.agent c.part.result.now.front) c.self.view_is
    ∙ c.part.ensures.front c.part.result.now.front)
    (ap (λ (k : KeptFront). get_or k.observations c.args.agent 0) c.self.view_is
    ∙ c.part.ensures.observations)
    (ap (λ (k : KeptFront). get_or k.past c.args.agent []) c.self.view_is ∙ c.part.ensures.past) in
    let list = c.in_ok-replaced.ensures ∙ ap (λ l. set (map (λ p. p.value) l) c.args.agent c.in_ok-part.part)
    c.deref-parts.ensures.value in
    after_assign _ _ _ _ parts (map (λ p. p.value) c.in_ok-replaced.field-0.items)
    c.self.inside.weights.value.items c.in_ok-clone.field-0.value.items _ c.args.self.now c.args.agent
    c.args.class c.args.action c.part.result.now c.in_ok-part.part
    c.self.view_is lt read c.in_ok-part.ensures list (ap (λ v. v.items) c.in_ok-clone.ensures.cases)

pub invariant_of-result : goal.invariant_of-result
invariant_of-result c =
    subst IsStored (sym (kept_value c)) (stored_chosen c.args.self.now c.args.agent c.args.class c.args.action
    (subst IsStored c.self.view_is c.self.invariant))

pub returns-clause-is : goal.returns-clause-is
returns-clause-is c = kept_value c

pub returns-clause-of_model : goal.returns-clause-of_model
returns-clause-of_model c = λ m is action. subst (IsFrontOf m) (sym (kept_value c))
    (chosen_kept m c.args.self.now c.args.agent c.args.class c.args.action is c.requires.stage
    c.requires.unassigned action)

pub returns-clause-keeps : goal.returns-clause-keeps
returns-clause-keeps c = λ m is qs policy keeps. keeps_some_choice m c.args.self.now.horizon
    c.args.self.now.front
    qs c.args.agent c.args.class is.front c.requires.stage policy keeps c.requires.unassigned
