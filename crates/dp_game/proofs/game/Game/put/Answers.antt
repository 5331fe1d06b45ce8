use Rattle.std.proofs.Common.{◌<◌, ℕ, pos, List, [], length, get_or, set, ap, sym, subst, ◌∙◌, rules}
use Rattle.std.specs.Int.{w128}
use Rattle.std.proofs.lemmas.Int.{to_z-of_z}
use Rattle.std.proofs.lemmas.List.{get_or_default}
use mir.Val.{SFits}
use Rattle.dp_base.specs.Sums.{int_sum}
use Rattle.dp_spec.specs.JointNumbers.{product}
use Rattle.dp_spec.specs.Merge.{placed_number, without}
use Rattle.dp_game.specs.Extended.{AreNumbersOf, game_kept, greatest_table, whole_table}
use Rattle.dp_game.specs.Games.{KeptGame, best_entry, own_counts, with_own_choice}
use Rattle.dp_game.specs.Kept.{IsOfSomeFront}
use Rattle.dp_game.proofs.Walks.{after_fits, bound_after, game_after, kept_after, less_fits, written}
use Rattle.dp_game.proofs.game.Game.put.Goals as goal

pub change_class-change-requires-clause-best : goal.change_class-change-requires-clause-best
change_class-change-requires-clause-best c =
    let i = c.self.inside in
    let ea = c.as_ref.ensures in
    let eo = c.deref.ensures.value in
    let et = c.deref-2.ensures.value ∙ ap (λ t. t.items) c.as_ref-2.ensures in
    et ∙ c.self.invariant.entries
    ∙ (λ j. greatest_table (sym ea j) (whole_table (sym ea j) (product (own_counts (sym eo j))) (sym et j))
    (product (own_counts (sym eo j))))

pub change_class-change-requires-clause-before : goal.change_class-change-requires-clause-before
change_class-change-requires-clause-before c =
    let i = c.self.inside in
    subst (λ (l : List ℕ). AreNumbersOf c.as_ref.result.now c.deref.result.now l) (sym c.deref_mut.ensures.value)
    (subst (λ l. AreNumbersOf c.as_ref.result.now l i.numbers.items) (sym c.deref.ensures.value)
    (subst (λ (l : List ℕ). AreNumbersOf l i.choices.items i.numbers.items) (sym c.as_ref.ensures)
    c.self.invariant.classes))

pub moved-self-inside-requires-clause-less : goal.moved-self-inside-requires-clause-less
moved-self-inside-requires-clause-less c =
    let i = c.self.inside in
    let g = game_kept i.actions.value i.choices.items i.best.value.items i.earned in
    let hi : c.args.agent < length g.choices = subst (λ (k : KeptGame). c.args.agent < length k.choices)
    (sym c.self.view_is) c.requires.agent in
    let hc : c.args.class < length (get_or g.choices c.args.agent []) =
    subst (λ (k : KeptGame). c.args.class < length (get_or k.choices c.args.agent [])) (sym c.self.view_is)
    c.requires.class in
    let after = subst (λ (k : KeptGame). IsOfSomeFront (with_own_choice k c.args.agent c.args.class c.args.choice))
    (sym c.self.view_is) c.requires.after in
    let fits : SFits w128 c.self.inside.bound = search rules in
    let fits-gone : SFits w128 c.change_class-change.result.gone = search rules in
    let fits-come : SFits w128 c.change_class-change.result.come = search rules in
    let ea = c.as_ref.ensures in
    let eo = c.deref.ensures.value in
    let et = c.deref-2.ensures.value ∙ ap (λ t. t.items) c.as_ref-2.ensures in
    let is = to_z-of_z w128 _ fits ∙ c.self.invariant.is_bound in
    let gone = to_z-of_z w128 _ fits-gone ∙ c.change_class-change.ensures.gone
    ∙ (λ j. int_sum (product (without c.args.agent (own_counts (eo j))))
    (λ x. best_entry (game_kept (ea j) (eo j) (et j) (pos 0))
    (placed_number c.args.agent (own_counts (eo j)) c.args.class x))) in
    let come = to_z-of_z w128 _ fits-come ∙ c.change_class-change.ensures.come
    ∙ (λ j. int_sum (product (without c.args.agent (own_counts (eo j)))) (λ x.
    best_entry (with_own_choice (game_kept (ea j) (eo j) (et j) (pos 0)) c.args.agent c.args.class c.args.choice)
    (placed_number c.args.agent (own_counts (eo j)) c.args.class x))) in
    less_fits g c.args.agent c.args.class c.args.choice hi hc c.self.invariant.of_front after _ _ _ is gone come

pub moved-self-inside-requires-clause-after : goal.moved-self-inside-requires-clause-after
moved-self-inside-requires-clause-after c =
    let i = c.self.inside in
    let g = game_kept i.actions.value i.choices.items i.best.value.items i.earned in
    let hi : c.args.agent < length g.choices = subst (λ (k : KeptGame). c.args.agent < length k.choices)
    (sym c.self.view_is) c.requires.agent in
    let hc : c.args.class < length (get_or g.choices c.args.agent []) =
    subst (λ (k : KeptGame). c.args.class < length (get_or k.choices c.args.agent [])) (sym c.self.view_is)
    c.requires.class in
    let after = subst (λ (k : KeptGame). IsOfSomeFront (with_own_choice k c.args.agent c.args.class c.args.choice))
    (sym c.self.view_is) c.requires.after in
    let fits : SFits w128 c.self.inside.bound = search rules in
    let fits-gone : SFits w128 c.change_class-change.result.gone = search rules in
    let fits-come : SFits w128 c.change_class-change.result.come = search rules in
    let ea = c.as_ref.ensures in
    let eo = c.deref.ensures.value in
    let et = c.deref-2.ensures.value ∙ ap (λ t. t.items) c.as_ref-2.ensures in
    let is = to_z-of_z w128 _ fits ∙ c.self.invariant.is_bound in
    let gone = to_z-of_z w128 _ fits-gone ∙ c.change_class-change.ensures.gone
    ∙ (λ j. int_sum (product (without c.args.agent (own_counts (eo j))))
    (λ x. best_entry (game_kept (ea j) (eo j) (et j) (pos 0))
    (placed_number c.args.agent (own_counts (eo j)) c.args.class x))) in
    let come = to_z-of_z w128 _ fits-come ∙ c.change_class-change.ensures.come
    ∙ (λ j. int_sum (product (without c.args.agent (own_counts (eo j)))) (λ x.
    best_entry (with_own_choice (game_kept (ea j) (eo j) (et j) (pos 0)) c.args.agent c.args.class c.args.choice)
    (placed_number c.args.agent (own_counts (eo j)) c.args.class x))) in
    after_fits g c.args.agent c.args.class c.args.choice hi hc c.self.invariant.of_front after _ _ _ is gone come

pub invariant_of-self : goal.invariant_of-self
invariant_of-self c =
    let i = c.self.inside in
    let g = game_kept i.actions.value i.choices.items i.best.value.items i.earned in
    let hi : c.args.agent < length g.choices = subst (λ (k : KeptGame). c.args.agent < length k.choices)
    (sym c.self.view_is) c.requires.agent in
    let hc : c.args.class < length (get_or g.choices c.args.agent []) =
    subst (λ (k : KeptGame). c.args.class < length (get_or k.choices c.args.agent [])) (sym c.self.view_is)
    c.requires.class in
    let after = subst (λ (k : KeptGame). IsOfSomeFront (with_own_choice k c.args.agent c.args.class c.args.choice))
    (sym c.self.view_is) c.requires.after in
    let fits : SFits w128 c.self.inside.bound = search rules in
    let fits-gone : SFits w128 c.change_class-change.result.gone = search rules in
    let fits-come : SFits w128 c.change_class-change.result.come = search rules in
    let ea = c.as_ref.ensures in
    let eo = c.deref.ensures.value in
    let et = c.deref-2.ensures.value ∙ ap (λ t. t.items) c.as_ref-2.ensures in
    let is = to_z-of_z w128 _ fits ∙ c.self.invariant.is_bound in
    let gone = to_z-of_z w128 _ fits-gone ∙ c.change_class-change.ensures.gone
    ∙ (λ j. int_sum (product (without c.args.agent (own_counts (eo j))))
    (λ x. best_entry (game_kept (ea j) (eo j) (et j) (pos 0))
    (placed_number c.args.agent (own_counts (eo j)) c.args.class x))) in
    let come = to_z-of_z w128 _ fits-come ∙ c.change_class-change.ensures.come
    ∙ (λ j. int_sum (product (without c.args.agent (own_counts (eo j)))) (λ x.
    best_entry (with_own_choice (game_kept (ea j) (eo j) (et j) (pos 0)) c.args.agent c.args.class c.args.choice)
    (placed_number c.args.agent (own_counts (eo j)) c.args.class x))) in
    let fits-moved : SFits w128 c.moved-self-inside.result = search rules in
    let bound = to_z-of_z w128 _ fits-moved ∙ c.moved-self-inside.ensures
    ∙ bound_after g c.args.agent c.args.class c.args.choice hi hc c.self.invariant.of_front after _ _ _ is gone come
    in
    let numbers_len = c.change_class-change.auto.numbers in
    let own = c.put.ensures ∙ ap (λ l. set l c.args.class c.args.choice)
    (c.index_mut-own.ensures.value ∙ get_or_default i.choices.items c.args.agent _ [] hi) in
    kept_after i.actions.value c.as_ref.result.now i.choices.items _ c.deref.result.now i.best.value.items i.earned
    c.args.agent c.args.class c.args.choice c.change_class-change.new.numbers _ _ after c.self.invariant.entries ea eo
    (ap (set i.choices.items c.args.agent) own) c.change_class-change.ensures.after
    (written i.numbers.len c.change_class-change.new.numbers i.numbers.items
    (sym c.deref_mut.ensures.len ∙ sym numbers_len)) bound

pub returns : goal.returns
returns c =
    let i = c.self.inside in
    let hi : c.args.agent < length i.choices.items = subst (λ (k : KeptGame). c.args.agent < length k.choices)
    (sym c.self.view_is) c.requires.agent in
    let own = c.put.ensures ∙ ap (λ l. set l c.args.class c.args.choice)
    (c.index_mut-own.ensures.value ∙ get_or_default i.choices.items c.args.agent _ [] hi) in
    sym (game_after i.actions.value i.choices.items _ i.best.value.items i.earned c.args.agent c.args.class
    c.args.choice
    (ap (set i.choices.items c.args.agent) own))
    ∙ ap (λ k. with_own_choice k c.args.agent c.args.class c.args.choice) c.self.view_is
