use Rattle.std.proofs.Common.{ap, sym, subst, ◌∙◌, rules}
use Rattle.std.specs.Int.{w128}
use Rattle.std.proofs.lemmas.Int.{to_z-of_z}
use Rattle.dp_spec.specs.Front.{Front}
use Rattle.dp_spec.specs.Steps.{front_after_choice}
use Rattle.dp_cluster.specs.KeptFronts.{IsFrontOf, KeptFront}
use Rattle.dp_search.specs.FrontPlanning.{IsSearchFront}
use Rattle.dp_search.specs.Expansions.{mode_bound}
use Rattle.dp_search.specs.Paths.{IsChoiceAt, IsPath, path_front}
use Rattle.dp_search.proofs.HeldFronts.{child_is_held}
use Rattle.dp_search.proofs.expansion.held_child_of.Goals as goal

pub of-held-requires : goal.of-held-requires
of-held-requires c = record {
  of_model = subst (IsFrontOf c.args.model.now.model) (sym c.in_ok-next.ensures.ok)
      c.in_ok-child.ensures.child.of_planner.of_model;
}

pub returns-clause-front : goal.returns-clause-front
returns-clause-front c =
    let m = c.args.model.now.model in
    let choice = c.args.choice in
    c.of-held.ensures.front ∙ ap (path_front m) c.in_ok-after-2.ensures.ok ∙ c.in_ok-after.ensures.front m
    ∙ ap (λ (F : Front). front_after_choice m F choice.agent choice.class choice.action) c.requires.path

pub returns-clause-child : goal.returns-clause-child
returns-clause-child c merging path settled =
    let m = c.args.model.now.model in
    let h = c.args.bounder.now.horizon in
    let look = c.args.bounder.now.look in
    let choice = c.args.choice in
    let child = c.in_ok-child.ensures.child in
    let next = c.in_ok-child.child.front in
    let at : IsChoiceAt m h merging (path_front m c.args.path.now.value) choice =
    subst (λ (F : Front). IsChoiceAt m h merging F choice) (sym c.requires.path) (record {
      early = c.requires.stage;
      unassigned = c.requires.unassigned;
      action = c.requires.action;
      narrow = c.requires.narrow;
      settled = settled;
    }) in
    let goes_on = subst (IsPath m h merging) (sym c.in_ok-after-2.ensures.ok)
    (c.in_ok-after.ensures.path m h merging path at) in
    let same = c.in_ok-next.ensures.ok in
    let meant = returns-clause-front c ∙ sym c.in_ok-child.ensures.front in
    child_is_held m h look merging next c.of-held.result
    _ (record {
      of_planner = child.of_planner;
      unfinished = child.unfinished;
      bound = to_z-of_z w128 c.copied-bound.result (search (rules, c.copied-bound.type_inv))
          ∙ c.copied-bound.ensures ∙ child.bound;
    }) meant
    (λ is bound. c.of-held.ensures.held h look merging goes_on
    (ap (λ (k : KeptFront). k.front) same ∙ sym meant ∙ c.of-held.ensures.front)
    (subst (IsSearchFront m h) (sym same) is)
    (bound ∙ ap (λ (k : KeptFront). mode_bound m h look k.front) (sym same)))
