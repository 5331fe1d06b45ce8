use Rattle.std.proofs.Common.{◌∙◌, ap, refl, sym, subst, arith, rules}
use Rattle.std.specs.Int.{w128}
use Rattle.std.proofs.lemmas.Int.{to_z-of_z}
use mir.Val.{SFits}
use Rattle.dp_spec.specs.Front.{Front}
use Rattle.dp_spec.specs.Steps.{front_after_choice}
use Rattle.dp_search.specs.Expansions.{mode_bound}
use Rattle.dp_search.specs.Paths.{IsChoiceAt, IsPath, path_front}
use Rattle.dp_search.proofs.LastChoices.{last_held}
use Rattle.dp_search.proofs.last_choice.last_child.Goals as goal

pub returns-clause-front : goal.returns-clause-front
returns-clause-front c =
    let m = c.args.model.now.model in
    let choice = c.args.choice in
    ap (path_front m) c.in_ok-new.ensures.ok ∙ c.in_ok-after.ensures.front m
    ∙ ap (λ (F : Front). front_after_choice m F choice.agent choice.class choice.action) c.requires.path

pub returns-clause-child : goal.returns-clause-child
returns-clause-child c merging path settled =
    let m = c.args.model.now.model in
    let b = c.args.bounder.now in
    let k = c.args.front.now in
    let choice = c.args.choice in
    let fits-bound : SFits w128 c.in_ok-bound.bound = search (rules, c.last_bound.type_inv) in
    let fits-copied : SFits w128 c.copied.result = search (rules, c.copied.type_inv) in
    let bound = to_z-of_z w128 _ fits-bound ∙ c.in_ok-bound.ensures.bound in
    let meant = returns-clause-front c in
    let at : IsChoiceAt m b.horizon merging k.front choice = record {
      early = let step = c.requires.last.step in omega (arith, step, c.requires.front.horizon);
      unassigned = c.requires.unassigned;
      action = c.requires.action;
      narrow = c.requires.narrow;
      settled = settled;
    } in
    record {
      held = last_held m b.horizon b.look k c.requires.front c.requires.last c.requires.bounder.some_look
          choice.agent choice.class choice.action c.requires.unassigned c.requires.action merging _ meant
          (subst (IsPath m b.horizon merging) (sym c.in_ok-new.ensures.ok)
          (c.in_ok-after.ensures.path m b.horizon merging path
          (subst (λ (F : Front). IsChoiceAt m b.horizon merging F choice) (sym c.requires.path) at)))
          refl refl
          (to_z-of_z w128 _ fits-copied ∙ c.copied.ensures ∙ bound);
      bound = bound ∙ ap (mode_bound m b.horizon b.look) (sym meant);
    }
