use Rattle.std.proofs.Common.{List, ◌≡◌, ◌<◌, ◌≤◌, ◌∙◌, [], ◌∷◌, ap, map, sym, subst}
use Rattle.dp_spec.specs.JointNumbers.{product}
use Rattle.dp_meaning.specs.declared.given_list.GivenList.{GivenList}
use Rattle.dp_meaning.specs.NameLists.{size_of}
use Rattle.dp_tables.proofs.CoveringLemmas.{small_axes}
use Rattle.dp_tables.proofs.covering.allow_row.Goals as goal

-- the lists of the second axis
states : (c : goal.After-field-then-allow) → c.from_ref.result.now ≡ c.args.text.now.text.header.states ∷ []
states c = c.from_ref.ensures.value ∙ ap (λ h. h.states ∷ []) c.header-header.ensures

pub allow-requires-then-allow-clause-some : goal.allow-requires-then-allow-clause-some
allow-requires-then-allow-clause-some c =
    subst (λ (lists : List GivenList). 0 < product (map size_of lists)) (sym (states c))
    (small_axes c.args.text.now.text c.invariant.ensures.said c.invariant.ensures.within).some_states

pub allow-requires-then-allow-clause-limit : goal.allow-requires-then-allow-clause-limit
allow-requires-then-allow-clause-limit c =
    subst (λ (lists : List GivenList). product (map size_of lists) ≤ 256) (sym (states c))
    (small_axes c.args.text.now.text c.invariant.ensures.said c.invariant.ensures.within).states
