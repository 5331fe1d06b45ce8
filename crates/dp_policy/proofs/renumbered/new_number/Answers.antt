use Rattle.std.proofs.Common.{ℕ, ◌<◌, List, Some, None, inl, get_or, length, set, refl, sym, subst, ◌∙◌, arith}
use Rattle.dp_policy.specs.Renumbered.{IsNumbering}
use Rattle.dp_policy.proofs.Lists.{item_at}
use Rattle.dp_policy.proofs.NewNumbers.{met_few, met_step}
use Rattle.dp_policy.proofs.renumbered.new_number.Goals as goal

pub overflow_cast-number : goal.overflow_cast-number
overflow_cast-number c =
    let few = met_few c.args.kinds.now c.args.numbers.now.items c.args.later.now.items c.requires.numbering
    c.requires.kinds in
    omega (arith, few, c.requires.few, c.len-number.ensures)

pub returns-in-Some-clause-number : goal.returns-in-Some-clause-number
returns-in-Some-clause-number c =
    let kind = get_or c.args.kinds.now c.args.row 0 in
    let small = c.requires.kinds c.args.row c.requires.row in
    let inside : get_or c.args.kinds.now c.args.row 0 < length c.args.numbers.now.items =
    omega (arith, small, c.requires.numbering.counted) in
    let at = item_at c.args.numbers.now.items kind None c.index.result.now inside ∙ sym c.index.ensures
    ∙ c.in-Some.is in
    inl ((c.requires.numbering.known kind c.in-Some.number at).0, refl)

pub returns-in_ok-push-in-None-clause-numbering : goal.returns-in_ok-push-in-None-clause-numbering
returns-in_ok-push-in-None-clause-numbering c =
    let kinds = c.args.kinds.now in
    let kind = get_or kinds c.args.row 0 in
    let small = c.requires.kinds c.args.row c.requires.row in
    let inside : get_or c.args.kinds.now c.args.row 0 < length c.args.numbers.now.items =
    omega (arith, small, c.requires.numbering.counted) in
    let at = item_at c.args.numbers.now.items kind None c.index.result.now inside ∙ sym c.index.ensures
    ∙ c.in-None.is in
    let step = met_step kinds c.args.numbers.now.items c.args.later.now.items c.requires.numbering c.args.row
    c.requires.row small at in
    subst (λ (x : ℕ). IsNumbering kinds (set c.args.numbers.now.items kind (Some x)) c.push.new.self.items)
    (sym (c.len-number.ensures ∙ c.args.later.now.ok.0))
    (subst (λ (l : List ℕ). IsNumbering kinds
    (set c.args.numbers.now.items kind (Some (length c.args.later.now.items))) l)
    (sym c.in_ok-push-in-None.ensures.items) step)
