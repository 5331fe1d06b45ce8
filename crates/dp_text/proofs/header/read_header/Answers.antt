use Rattle.std.proofs.Common.{refl, drop, ap, subst, sym, ◌∙◌, arith}
use Rattle.std.proofs.lemmas.Result.{err_from_is_err_and}
use Rattle.dp_meaning.specs.Header.{header_of, no_entries}
use Rattle.dp_text.specs.HeaderSteps.{ReadsHeader, header_and}
use Rattle.dp_text.proofs.HeaderLemmas.{entry_one, entry_wrong, statement_one, no_item, header_last}
use Rattle.dp_text.proofs.header.read_header.Goals as goal

pub loop-place-preserved : goal.loop-place-preserved
loop-place-preserved c =
    let text = c.args.document.now in
    entry_one text.end c.loop-place.entries (header_of text.end no_entries text.items) text.items c.loop-place.place
    c.item-item.result
    c.item-item.ensures c.loop-place.invariant
    c.in-HeaderEntry.entry c.in_ok-entries-in-HeaderEntry.entries c.in-HeaderEntry.ensures
    c.in_ok-entries-in-HeaderEntry.ensures

pub returns-in_err-entries-in-HeaderEntry : goal.returns-in_err-entries-in-HeaderEntry
returns-in_err-entries-in-HeaderEntry c =
    let text = c.args.document.now in
    let exit = err_from_is_err_and c.from_residual.result c.from_residual.ensures.1 in
    rw (exit.1, exit.2)
    (entry_wrong text.end c.loop-place.entries (header_of text.end no_entries text.items) text.items
    c.loop-place.place c.item-item.result
    c.item-item.ensures c.loop-place.invariant
    c.in-HeaderEntry.entry c.in_err-entries-in-HeaderEntry.field-0.0 c.in-HeaderEntry.ensures
    c.in_err-entries-in-HeaderEntry.ensures)

pub returns-in-StatementOf : goal.returns-in-StatementOf
returns-in-StatementOf c =
    let text = c.args.document.now in
    let place = c.loop-place.place in
    let all = header_of text.end no_entries text.items in
    let here = statement_one text.end c.loop-place.entries all text.items place c.item-item.result c.item-item.ensures
    c.loop-place.invariant c.in-StatementOf.field-0 c.in-StatementOf.ensures in
    subst (λ x. ReadsHeader text.items x c.header_behind.result)
    (sym (here ∙ ap (λ at. header_and at c.loop-place.entries (drop place text.items)) (sym c.at.ensures)))
    (c.header_behind.ensures text.items)

pub returns-in-NoItem : goal.returns-in-NoItem
returns-in-NoItem c =
    let text = c.args.document.now in
    rw (c.fault.ensures, c.at-in-NoItem.ensures)
    (no_item text.end c.loop-place.entries (header_of text.end no_entries text.items) text.items c.loop-place.place
    c.item-item.result
    c.item-item.ensures c.loop-place.invariant c.in-NoItem.ensures)

pub returns : goal.returns
returns c =
    let text = c.args.document.now in
    let all = header_of text.end no_entries text.items in
    let past = header_last text.end c.loop-place.entries all text.items c.loop-place.place
    (omega (arith, c.len-place-end.ensures))
    c.loop-place.invariant in
    subst (λ x. ReadsHeader text.items x c.header_behind-2.result)
    (sym (past ∙ (rw (c.end.ensures.is, c.len.ensures) refl))) (c.header_behind-2.ensures text.items)
