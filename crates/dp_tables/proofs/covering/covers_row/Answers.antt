use Rattle.std.proofs.Common.{List, ◌≡◌, ◌<◌, ◌≤◌, ◌∙◌, [], ap, get_or, map, sym, subst}
use Rattle.dp_spec.specs.JointNumbers.{product}
use Rattle.dp_meaning.specs.declared.given_list.GivenList.{GivenList}
use Rattle.dp_meaning.specs.NameLists.{size_of}
use Rattle.dp_meaning.specs.Statements.{axes_of}
use Rattle.dp_tables.proofs.CoveringLemmas.{small_axes, row_not_allowed, row_allowed}
use Rattle.dp_tables.proofs.covering.covers_row.Goals as goal

pub returns-then-not-allow_row : goal.returns-then-not-allow_row
returns-then-not-allow_row c =
    row_not_allowed c.args.text.now.text.header c.args.table c.args.fields.now c.args.row.action c.args.row.state
    c.args.len (sym c.if-not-allow_row.ensures)

-- the lists of the last axis
last : (c : goal.After-field)
    → c.last_axis.result.now ≡ get_or (axes_of c.args.text.now.text.header c.args.table) 2 []
last c = c.last_axis.ensures ∙ ap (λ h. get_or (axes_of h c.args.table) 2 []) c.header.ensures

pub allow_some-requires-clause-some : goal.allow_some-requires-clause-some
allow_some-requires-clause-some c =
    subst (λ (lists : List GivenList). 0 < product (map size_of lists)) (sym (last c))
    ((small_axes c.args.text.now.text c.invariant.ensures.said c.invariant.ensures.within).some_last c.args.table)

pub allow_some-requires-clause-limit : goal.allow_some-requires-clause-limit
allow_some-requires-clause-limit c =
    subst (λ (lists : List GivenList). product (map size_of lists) ≤ 256) (sym (last c))
    ((small_axes c.args.text.now.text c.invariant.ensures.said c.invariant.ensures.within).last c.args.table)

pub returns : goal.returns
returns c =
    let last = c.last_axis.ensures ∙ ap (λ h. get_or (axes_of h c.args.table) 2 []) c.header.ensures in
    c.allow_some.ensures
    ∙ row_allowed c.args.text.now.text.header c.args.table c.args.fields.now c.args.row.action c.args.row.state
    c.args.len (sym c.if-not-allow_row.ensures) _ _ last c.field.ensures
