use Rattle.std.proofs.Common.{rules, sym, ◌∙◌, refl, map, arith}
use Rattle.std.specs.Prelude.{pos, codes}
use Rattle.std.proofs.lemmas.Result.{err_from_is_err_and}
use Rattle.dp_policy.specs.PolicyGrammar.{title_words, end_words, policy_grammar}
use Rattle.dp_lines.proofs.TextParts.{fails_also, text_fails, text_ends, text_goes_on}
use Rattle.dp_policy.proofs.PolicyParts.{title_read, title_fails, horizon_read, horizon_fails, limit_passed}
use Rattle.dp_policy.proofs.PolicyParts.{limits_kept, agents_read, agents_fail, end_read, end_fails, horizon_is}
use Rattle.dp_policy.proofs.policy_text.read_rows.Goals as goal

pub returns-in_err-titled-clause-gives : goal.returns-in_err-titled-clause-gives
returns-in_err-titled-clause-gives c =
    let m = c.args.model.now.model in
    let p = err_from_is_err_and c.from_residual.result c.from_residual.ensures.1 in
    rw (p.1, p.2) (fails_also _ _ _ (λ fault e. text_fails (policy_grammar m) c.args.bytes.now fault
    (title_fails m c.args.bytes.now fault e))
    (c.in_err-titled.ensures (title_words (codes "policy")) (assumption, (assumption, (assumption, tt))) refl))

pub returns-in_err-horizons-clause-gives : goal.returns-in_err-horizons-clause-gives
returns-in_err-horizons-clause-gives c =
    let m = c.args.model.now.model in
    let p = err_from_is_err_and c.from_residual-in_err-horizons.result
    c.from_residual-in_err-horizons.ensures.1 in
    let titled = c.in_ok-titled.ensures (title_words (codes "policy"))
    (assumption, (assumption, (assumption, tt)))
    refl in
    rw (p.1, p.2) (fails_also _ _ _ (λ fault e. text_fails (policy_grammar m) c.args.bytes.now fault
    (title_read m c.args.bytes.now _ _ titled ∙ horizon_fails m _ _ fault e))
    c.in_err-horizons.ensures)

pub index-horizon-requires : goal.index-horizon-requires
index-horizon-requires c = let h = horizon_is _ _ _ _ c.in_ok-horizons.horizons.items
    c.in_ok-horizons.ensures in
    omega arith

pub fits-requires : goal.fits-requires
fits-requires c =
    let h = horizon_is _ _ _ _ c.in_ok-horizons.horizons.items c.in_ok-horizons.ensures in
    (h.number c.index-horizon.result.now c.index-horizon.ensures).0

pub returns-in-Err-clause-gives : goal.returns-in-Err-clause-gives
returns-in-Err-clause-gives c =
    let m = c.args.model.now.model in
    let titled = c.in_ok-titled.ensures (title_words (codes "policy"))
    (assumption, (assumption, (assumption, tt)))
    refl in
    let h = horizon_is _ _ _ _ c.in_ok-horizons.horizons.items c.in_ok-horizons.ensures in
    let number = (h.number c.index-horizon.result.now c.index-horizon.ensures).1 in
    text_fails (policy_grammar m) c.args.bytes.now _
    (title_read m c.args.bytes.now _ _ titled ∙ horizon_read m _ _ _ _ _ c.in_ok-horizons.ensures
    ∙ limit_passed m (map pos c.in_ok-horizons.horizons.items)
    c.index-horizon.result.now c.in-Err.passed c.in_ok-horizons.at.line c.in_ok-horizons.at.rest.now number
    (sym c.in-Err.ensures.passed))

pub returns-in_err-agents-clause-gives : goal.returns-in_err-agents-clause-gives
returns-in_err-agents-clause-gives c =
    let m = c.args.model.now.model in
    let p = err_from_is_err_and c.from_residual-in_err-agents.result c.from_residual-in_err-agents.ensures.1 in
    let titled = c.in_ok-titled.ensures (title_words (codes "policy"))
    (assumption, (assumption, (assumption, tt)))
    refl in
    let h = horizon_is _ _ _ _ c.in_ok-horizons.horizons.items c.in_ok-horizons.ensures in
    let number = (h.number c.index-horizon.result.now c.index-horizon.ensures).1 in
    rw (p.1, p.2) (fails_also _ _ _ (λ fault e. text_fails (policy_grammar m) c.args.bytes.now fault
    (title_read m c.args.bytes.now _ _ titled ∙ horizon_read m _ _ _ _ _ c.in_ok-horizons.ensures
    ∙ limits_kept m (map pos c.in_ok-horizons.horizons.items) c.index-horizon.result.now _ _ number
    (sym c.in_default.ensures.passed)
    ∙ agents_fail m c.index-horizon.result.now _ _ fault e))
    c.in_err-agents.ensures)

pub returns-in_err-end-clause-gives : goal.returns-in_err-end-clause-gives
returns-in_err-end-clause-gives c =
    let m = c.args.model.now.model in
    let p = err_from_is_err_and c.from_residual-in_err-end.result c.from_residual-in_err-end.ensures.1 in
    let titled = c.in_ok-titled.ensures (title_words (codes "policy"))
    (assumption, (assumption, (assumption, tt)))
    refl in
    let h = horizon_is _ _ _ _ c.in_ok-horizons.horizons.items c.in_ok-horizons.ensures in
    let number = (h.number c.index-horizon.result.now c.index-horizon.ensures).1 in
    rw (p.1, p.2) (fails_also _ _ _ (λ fault e. text_fails (policy_grammar m) c.args.bytes.now fault
    (title_read m c.args.bytes.now _ _ titled ∙ horizon_read m _ _ _ _ _ c.in_ok-horizons.ensures
    ∙ limits_kept m (map pos c.in_ok-horizons.horizons.items) c.index-horizon.result.now _ _ number
    (sym c.in_default.ensures.passed)
    ∙ agents_read m c.index-horizon.result.now _ _ _ _ _ c.in_ok-agents.ensures
    ∙ end_fails c.index-horizon.result.now _ _ _ fault e))
    (c.in_err-end.ensures end_words (assumption, tt) refl))

pub returns-then-not-is_empty-clause-gives : goal.returns-then-not-is_empty-clause-gives
returns-then-not-is_empty-clause-gives c =
    let m = c.args.model.now.model in
    let titled = c.in_ok-titled.ensures (title_words (codes "policy"))
    (assumption, (assumption, (assumption, tt)))
    refl in
    let h = horizon_is _ _ _ _ c.in_ok-horizons.horizons.items c.in_ok-horizons.ensures in
    let number = (h.number c.index-horizon.result.now c.index-horizon.ensures).1 in
    text_goes_on (policy_grammar m) c.args.bytes.now _ _ _
    (title_read m c.args.bytes.now _ _ titled ∙ horizon_read m _ _ _ _ _ c.in_ok-horizons.ensures
    ∙ limits_kept m (map pos c.in_ok-horizons.horizons.items) c.index-horizon.result.now _ _ number
    (sym c.in_default.ensures.passed)
    ∙ agents_read m c.index-horizon.result.now _ _ _ _ _ c.in_ok-agents.ensures
    ∙ end_read c.index-horizon.result.now _ _ _ _ _ (c.in_ok-end.ensures end_words (assumption, tt) refl))
    (search (rules, c.is_empty.ensures, c.if-not-is_empty.true))

pub returns-clause-gives : goal.returns-clause-gives
returns-clause-gives c =
    let m = c.args.model.now.model in
    let titled = c.in_ok-titled.ensures (title_words (codes "policy"))
    (assumption, (assumption, (assumption, tt)))
    refl in
    let h = horizon_is _ _ _ _ c.in_ok-horizons.horizons.items c.in_ok-horizons.ensures in
    let number = (h.number c.index-horizon.result.now c.index-horizon.ensures).1 in
    text_ends (policy_grammar m) c.args.bytes.now _ _ _
    (title_read m c.args.bytes.now _ _ titled ∙ horizon_read m _ _ _ _ _ c.in_ok-horizons.ensures
    ∙ limits_kept m (map pos c.in_ok-horizons.horizons.items) c.index-horizon.result.now _ _ number
    (sym c.in_default.ensures.passed)
    ∙ agents_read m c.index-horizon.result.now _ _ _ _ _ c.in_ok-agents.ensures
    ∙ end_read c.index-horizon.result.now _ _ _ _ _ (c.in_ok-end.ensures end_words (assumption, tt) refl))
    (search (rules, c.is_empty.ensures, c.if-not-is_empty.false))
