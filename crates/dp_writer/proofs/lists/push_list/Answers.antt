use Rattle.std.proofs.Common.{length, subst, sym, ap, ◌∙◌, arith}
use Rattle.dp_model.specs.Names.{NameLists}
use Rattle.dp_writer.specs.declared.lists.ThingList.{ThingList}
use Rattle.dp_writer.specs.GivenLists.{IsListOf, names_in}
use Rattle.dp_writer.proofs.ListTexts.{names_counted, some_is_not_none, some_item}
use Rattle.dp_writer.proofs.lists.push_list.Goals as goal

pub name-requires-clause-actions : goal.name-requires-clause-actions
name-requires-clause-actions c =
    λ agent e. omega (
      arith,
      subst (λ (l : ThingList). IsListOf c.args.model.now l) e c.requires,
      c.invariant.ensures.names.action_lists,
      ap (λ (n : NameLists). length n.actions) c.names.ensures,
    )

pub name-requires-clause-observations : goal.name-requires-clause-observations
name-requires-clause-observations c =
    λ agent e. omega (
      arith,
      subst (λ (l : ThingList). IsListOf c.args.model.now l) e c.requires,
      c.invariant.ensures.names.observation_lists,
      ap (λ (n : NameLists). length n.observations) c.names.ensures,
    )

pub push_names-requires-clause-actions : goal.push_names-requires-clause-actions
push_names-requires-clause-actions c =
    λ agent e. omega (
      arith,
      subst (λ (l : ThingList). IsListOf c.args.model.now l) e c.requires,
      c.invariant.ensures.names.action_lists,
      ap (λ (n : NameLists). length n.actions) c.names-then-is_some.ensures,
    )

pub push_names-requires-clause-observations : goal.push_names-requires-clause-observations
push_names-requires-clause-observations c =
    λ agent e. omega (
      arith,
      subst (λ (l : ThingList). IsListOf c.args.model.now l) e c.requires,
      c.invariant.ensures.names.observation_lists,
      ap (λ (n : NameLists). length n.observations) c.names-then-is_some.ensures,
    )

pub push_names-requires-clause-count : goal.push_names-requires-clause-count
push_names-requires-clause-count c =
    let m = c.args.model.now in
    let list = c.args.list in
    let some = some_item (names_in m.names list)
    (λ e. some_is_not_none c.name.result
    (c.name.ensures.none.1 (ap (λ (n : NameLists). names_in n list) c.names.ensures ∙ e))
    (sym c.is_some.ensures ∙ c.if-is_some.true)) in
    ap (λ (n : NameLists). length (names_in n list)) c.names-then-is_some.ensures
    ∙ names_counted m list c.requires c.invariant.ensures.names some ∙ sym c.count-count.ensures
