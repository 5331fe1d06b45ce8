use Rattle.std.proofs.Common.{sym, rules}
use Rattle.dp_check.proofs.EntrySteps.{and_not, and_so, is_less, mode_is, not_less}
use Rattle.dp_check.proofs.enter.may_merge.Goals as goal

pub returns-then-not-bounds : goal.returns-then-not-bounds
returns-then-not-bounds c = λ T. and_not _ _ _ (sym (mode_is c.args.m.now.model c.args.bounds.now))
    (search (rules, c.if-not-bounds.true))

pub returns-then-not-may_refine : goal.returns-then-not-may_refine
returns-then-not-may_refine c = λ T.
    and_so _ _ _ _ (sym (mode_is c.args.m.now.model c.args.bounds.now)) (search (rules, c.if-not-bounds.false))
    (and_not _ _ _ (c.may_refine.ensures T) (search (rules, c.if-not-may_refine.true)))

pub returns-then-first-second : goal.returns-then-first-second
returns-then-first-second c = λ T.
    and_so _ _ _ _ (sym (mode_is c.args.m.now.model c.args.bounds.now)) (search (rules, c.if-not-bounds.false))
    (and_so _ _ _ _ (c.may_refine.ensures T) (search (rules, c.if-not-may_refine.false))
    (not_less _ _ _ c.if-first-second.true))

pub returns-then-not-is_unassigned : goal.returns-then-not-is_unassigned
returns-then-not-is_unassigned c = λ T.
    and_so _ _ _ _ (sym (mode_is c.args.m.now.model c.args.bounds.now)) (search (rules, c.if-not-bounds.false))
    (and_so _ _ _ _ (c.may_refine.ensures T) (search (rules, c.if-not-may_refine.false))
    (is_less _ _ _ _ c.if-first-second.false (and_not _ _ _ c.is_unassigned.ensures
    (search (rules, c.if-not-is_unassigned.true)))))

pub returns : goal.returns
returns c = λ T.
    and_so _ _ _ _ (sym (mode_is c.args.m.now.model c.args.bounds.now)) (search (rules, c.if-not-bounds.false))
    (and_so _ _ _ _ (c.may_refine.ensures T) (search (rules, c.if-not-may_refine.false))
    (is_less _ _ _ _ c.if-first-second.false (and_so _ _ _ _ c.is_unassigned.ensures
    (search (rules, c.if-not-is_unassigned.false)) c.is_unassigned-2.ensures)))
