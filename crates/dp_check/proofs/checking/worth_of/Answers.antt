use Rattle.std.proofs.Common.{ℕ, sym, ap, subst, ◌∙◌, rules}
use Rattle.std.specs.Int.{w128}
use Rattle.std.proofs.lemmas.Int.{to_z-of_z}
use mir.Val.{SFits}
use Rattle.dp_spec.specs.declared.span.Span.{Span}
use Rattle.dp_spec.specs.Arithmetic.{arithmetic}
use Rattle.dp_spec.specs.SharedPolicy.{IsSharedOf}
use Rattle.dp_spec.specs.SharedWorth.{shared_worth_in}
use Rattle.dp_model.specs.Horizons.{fit_of}
use Rattle.dp_cert.proofs.PolicyHorizons.{one_horizon}
use Rattle.dp_check.proofs.checking.worth_of.Goals as goal

pub new-requires-clause-policy : goal.new-requires-clause-policy
new-requires-clause-policy c =
    let m = c.args.m.now.model in
    let p = c.args.c.now.policy in
    let same = one_horizon m c.args.c.now.horizon p.horizon p.rows c.invariant.ensures.model
    c.invariant-2.ensures
    c.requires.fits.policy.shared in
    subst (λ (h : ℕ). IsSharedOf m h p.rows) (sym same) c.requires.fits.policy.shared

pub new-requires-clause-fit : goal.new-requires-clause-fit
new-requires-clause-fit c =
    let m = c.args.m.now.model in
    let p = c.args.c.now.policy in
    let same = one_horizon m c.args.c.now.horizon p.horizon p.rows c.invariant.ensures.model
    c.invariant-2.ensures
    c.requires.fits.policy.shared in
    c.requires.fit ∙ ap (fit_of m) (sym same)

pub worth_shared-worth-requires-clause-policy : goal.worth_shared-worth-requires-clause-policy
worth_shared-worth-requires-clause-policy c =
    let m = c.args.m.now.model in
    let p = c.args.c.now.policy in
    let same = one_horizon m c.args.c.now.horizon p.horizon p.rows c.invariant.ensures.model
    c.invariant-2.ensures
    c.requires.fits.policy.shared in
    subst (λ (h : ℕ). IsSharedOf m h p.rows) (sym same) c.requires.fits.policy.shared

pub returns : goal.returns
returns c =
    let m = c.args.m.now.model in
    let p = c.args.c.now.policy in
    let same = one_horizon m c.args.c.now.horizon p.horizon p.rows c.invariant.ensures.model
    c.invariant-2.ensures
    c.requires.fits.policy.shared in
    let fits : SFits w128 c.worth_shared-worth.result.low = search (rules, c.worth_shared-worth.type_inv) in
    let exact = ap (λ f. f.exact) c.in_ok-room.ensures.fit ∙ ap (λ f. f.exact) (ap (fit_of m) same)
    ∙ ap (λ f. f.exact) (sym c.requires.fit) ∙ sym c.requires.mode in
    to_z-of_z w128 _ fits ∙ ap (λ (w : Span). w.low) c.worth_shared-worth.ensures.sums
    ∙ (λ j. (shared_worth_in (arithmetic (exact j) m.scales) m (same j) p.rows).low)
