use Rattle.std.proofs.Common.{◌≡◌, suc, ◌-◌, ◌≤◌, true, false, sym, subst, ◌∙◌, arith}
use Rattle.dp_spec.specs.Calls.{AreInRange}
use Rattle.dp_spec.proofs.ScaleRange.{scales_in_range}
use Rattle.dp_laws.proofs.SizeLaws.{arithmetic_is_exact}
use Rattle.dp_pomdp.proofs.Modes.{mode_kept, mode_looking}
use Rattle.dp_pomdp.proofs.bounds.action_in_mode.Goals as goal

pub of-arith-requires : goal.of-arith-requires
of-arith-requires c =
    let m = c.args.model.now.model in
    record {
      range = subst AreInRange (sym c.scales.ensures)
          (scales_in_range m.scales c.invariant.ensures.model.scales);
    }

pub of-arith-requires-else-fit : goal.of-arith-requires-else-fit
of-arith-requires-else-fit c =
    let m = c.args.model.now.model in
    record {
      range = subst AreInRange (sym c.scales-else-fit.ensures)
          (scales_in_range m.scales c.invariant.ensures.model.scales);
    }

pub action_look_ahead-requires-clause-sizes : goal.action_look_ahead-requires-clause-sizes
action_look_ahead-requires-clause-sizes c =
    let fit = c.args.fit in
    let early : c.args.t ≤ c.args.fit.horizon = omega arith in
    let left : suc (c.args.fit.horizon - c.args.t - 1) ≡ c.args.fit.horizon - c.args.t = omega arith in
    mode_looking true fit.exact c.of-arith.result c.args.model.now.model c.invariant.ensures.model
    (c.of-arith.ensures ∙ c.scales.ensures) c.if-fit.true fit.horizon c.args.t _ fit.unit c.requires.fit
    early left
    c.args.weights.now c.requires.one_each c.requires.weights

pub action_look_ahead-requires-else-fit-clause-sizes : goal.action_look_ahead-requires-else-fit-clause-sizes
action_look_ahead-requires-else-fit-clause-sizes c =
    let fit = c.args.fit in
    let early : c.args.t ≤ c.args.fit.horizon = omega arith in
    let left : suc (c.args.fit.horizon - c.args.t - 1) ≡ c.args.fit.horizon - c.args.t = omega arith in
    mode_looking false fit.exact c.of-arith-else-fit.result c.args.model.now.model c.invariant.ensures.model
    (c.of-arith-else-fit.ensures ∙ c.scales-else-fit.ensures) c.if-fit.false fit.horizon c.args.t _ fit.unit
    c.requires.fit early left c.args.weights.now c.requires.one_each c.requires.weights

pub action_look_ahead-requires-clause-mode : goal.action_look_ahead-requires-clause-mode
action_look_ahead-requires-clause-mode c = sym (arithmetic_is_exact true c.of-arith.result)

pub action_look_ahead-requires-else-fit-clause-mode : goal.action_look_ahead-requires-else-fit-clause-mode
action_look_ahead-requires-else-fit-clause-mode c = sym (arithmetic_is_exact false c.of-arith-else-fit.result)

pub returns-then-fit-clause-memo : goal.returns-then-fit-clause-memo
returns-then-fit-clause-memo c =
    mode_kept true c.args.fit.exact c.of-arith.result c.args.model.now.model
    (c.of-arith.ensures ∙ c.scales.ensures) c.if-fit.true _ c.action_look_ahead.ensures.memo

pub returns-else-fit-clause-memo : goal.returns-else-fit-clause-memo
returns-else-fit-clause-memo c =
    mode_kept false c.args.fit.exact c.of-arith-else-fit.result c.args.model.now.model
    (c.of-arith-else-fit.ensures ∙ c.scales-else-fit.ensures) c.if-fit.false _
    c.action_look_ahead-else-fit.ensures.memo
