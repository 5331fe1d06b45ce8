use Rattle.std.proofs.Common.{◌≡◌, ◌≤◌, ◌^◌, Bool, pos, unsigned_abs, ap, ◌∙◌, arith}
use Rattle.std.proofs.lemmas.Int.{ints}
use Rattle.std.proofs.lemmas.Result.{err_from_is_err_and}
use Rattle.dp_spec.specs.Arithmetic.{arithmetic}
use Rattle.dp_spec.specs.Mode.{is_exact_mode, unit_of}
use Rattle.dp_spec.specs.Quantities.{forward_worth_in}
use Rattle.dp_model.specs.declared.horizon.Fit.{Fit}
use Rattle.dp_policy.specs.PolicyAnswers.{said_by}
use Rattle.dp_policy.specs.Trees.{joint_policy}
use Rattle.dp_value.specs.Worths.{ends_of}
use Rattle.dp_cli.specs.ValueCommand.{value_text, worth_of}
use Rattle.dp_cli.proofs.Policies.{fine_reading, stops_reading}
use Rattle.dp_cli.proofs.WorthSizes.{unit_fits, worth_fits}
use Rattle.dp_cli.proofs.value.value_of.Goals as goal

pub returns-in_err-policy : goal.returns-in_err-policy
returns-in_err-policy c =
    let exit = err_from_is_err_and c.from_residual.result c.from_residual.ensures.1 in
    rw (exit.1, exit.2)
    (stops_reading c.args.read.now.model.model c.invariant.ensures.model c.args.bytes.now
    c.in_err-policy.field-0.0
    c.in_err-policy.ensures.err)

-- the horizon, the mode and the unit of the room are those of the policy
horizon_is : (c : goal.After-worth-worth) → c.in_ok-fit.fit.horizon ≡ c.in_ok-policy.policy.horizon
horizon_is c = ap (λ (f : Fit). f.horizon) c.in_ok-fit.ensures.fit ∙ c.horizon.ensures.is

exact_is : (c : goal.After-worth-worth)
    → c.in_ok-room.room.fit.exact ≡ is_exact_mode c.args.read.now.model.model c.in_ok-policy.policy.horizon
exact_is c =
    ap (λ (f : Fit). f.exact) c.in_ok-room.ensures.fit ∙ ap (is_exact_mode c.args.read.now.model.model)
    (horizon_is c)

unit_is : (c : goal.After-worth-worth)
    → c.worth-worth.result.unit ≡ pos (unit_of c.args.read.now.model.model c.in_ok-policy.policy.horizon)
unit_is c =
    c.worth-worth.ensures.unit
    ∙ ap (λ (f : Fit). f.unit) c.in_ok-room.ensures.fit
    ∙ ap (λ h. pos (unit_of c.args.read.now.model.model h)) (horizon_is c)

ends : (c : goal.After-worth-worth) → (unsigned_abs c.worth-worth.result.low ≤ 2 ^ 126)
    × (unsigned_abs c.worth-worth.result.high ≤ 2 ^ 126)
ends c =
    let m = c.args.read.now.model.model in
    let p = c.in_ok-policy.policy in
    worth_fits m c.invariant.ensures.model p.horizon c.in_ok-policy.ensures.within c.in_ok-room.room.fit.exact
    (exact_is c)
    (joint_policy p) c.in_ok-policy.ensures.ok.0.policy (ends_of c.worth-worth.result)
    c.worth-worth.ensures.sums

pub worth_text-requires-clause-low : goal.worth_text-requires-clause-low
worth_text-requires-clause-low c = (ends c).0

pub worth_text-requires-clause-high : goal.worth_text-requires-clause-high
worth_text-requires-clause-high c = (ends c).1

pub worth_text-requires-clause-some : goal.worth_text-requires-clause-some
worth_text-requires-clause-some c =
    let u = unit_fits c.args.read.now.model.model c.invariant.ensures.model c.in_ok-policy.policy.horizon
    c.in_ok-policy.ensures.within.some_step in
    rw (unit_is c) (omega (arith, ints, u.0))

pub worth_text-requires-clause-unit : goal.worth_text-requires-clause-unit
worth_text-requires-clause-unit c =
    let u = unit_fits c.args.read.now.model.model c.invariant.ensures.model c.in_ok-policy.policy.horizon
    c.in_ok-policy.ensures.within.some_step in
    rw (unit_is c) (omega (arith, ints, u.1))

pub returns : goal.returns
returns c =
    let m = c.args.read.now.model.model in
    let p = c.in_ok-policy.policy in
    let answer = c.in_ok-policy.ensures.ok in
    let horizon = ap (λ (f : Fit). f.horizon) c.in_ok-fit.ensures.fit ∙ c.horizon.ensures.is in
    let mode = ap (λ (f : Fit). f.exact) c.in_ok-fit.ensures.fit ∙ ap (is_exact_mode m) c.horizon.ensures.is in
    let room = ap (λ (f : Fit). f.exact) c.in_ok-room.ensures.fit ∙ ap (is_exact_mode m) horizon in
    let unit = c.worth-worth.ensures.unit ∙ ap (λ (f : Fit). f.unit) c.in_ok-room.ensures.fit
    ∙ ap (λ h. pos (unit_of m h)) horizon in
    let sums : ends_of c.worth-worth.result ≡ worth_of m p.horizon (joint_policy p) =
    c.worth-worth.ensures.sums ∙ ap (λ (e : Bool). forward_worth_in (arithmetic e m.scales) m p.horizon
    (joint_policy p)) room in (
      fine_reading m c.invariant.ensures.model c.args.bytes.now (said_by p) answer,
      record {
        is_model = c.invariant.ensures.model;
        horizon = p.horizon;
        trees = joint_policy p;
        says = answer.0;
        tells = c.in_ok-worth_text.ensures ∙ (λ i. value_text c.args.read.now.repaired (mode i) (unit i)
            (sums i));
      },
    )
