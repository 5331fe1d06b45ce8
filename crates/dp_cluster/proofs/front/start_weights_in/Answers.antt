use Rattle.std.proofs.Common.{◌≡◌, true, false, map, sym, subst, ◌∙◌, IfOk}
use Rattle.std.specs.List.{range_with_len}
use Rattle.dp_spec.specs.Arithmetic.{Arithmetic}
use Rattle.dp_spec.specs.Calls.{AreInRange}
use Rattle.dp_spec.specs.Model.{start_at}
use Rattle.dp_spec.proofs.ScaleRange.{scales_in_range}
use Rattle.dp_cluster.proofs.Modes.{same_arithmetic, starts}
use Rattle.dp_cluster.proofs.front.start_weights_in.Goals as goal

pub of-requires : goal.of-requires
of-requires c = record {
  range = subst AreInRange (sym c.scales.ensures)
      (scales_in_range c.args.m.now.model.scales c.invariant.ensures.model.scales);
}

pub start_weights-requires : goal.start_weights-requires
start_weights-requires c = starts true c.args.exact c.of.result c.args.m.now.model c.invariant.ensures.model
    (c.of.ensures ∙ c.scales.ensures) c.if-exact.true c.args.horizon c.requires.some_step c.requires.horizon
    c.requires.mode

pub of-requires-else-exact : goal.of-requires-else-exact
of-requires-else-exact c = record {
  range = subst AreInRange (sym c.scales-else-exact.ensures)
      (scales_in_range c.args.m.now.model.scales c.invariant.ensures.model.scales);
}

pub start_weights-requires-else-exact : goal.start_weights-requires-else-exact
start_weights-requires-else-exact c = starts false c.args.exact c.of-else-exact.result c.args.m.now.model
    c.invariant.ensures.model (c.of-else-exact.ensures ∙ c.scales-else-exact.ensures)
    c.if-exact.false c.args.horizon c.requires.some_step c.requires.horizon c.requires.mode

pub returns-then-exact : goal.returns-then-exact
returns-then-exact c =
    subst (λ (A : Arithmetic). IfOk c.start_weights.result (λ v. v.items
    ≡ map (λ s. A.start (start_at c.args.m.now.model s)) (range_with_len 0 c.args.m.now.model.states)))
    (same_arithmetic true c.args.exact c.of.result c.args.m.now.model (c.of.ensures ∙ c.scales.ensures)
    c.if-exact.true) c.start_weights.ensures

pub returns-else-exact : goal.returns-else-exact
returns-else-exact c =
    subst (λ (A : Arithmetic). IfOk c.start_weights-else-exact.result
    (λ v. v.items ≡ map (λ s. A.start (start_at c.args.m.now.model s))
    (range_with_len 0 c.args.m.now.model.states)))
    (same_arithmetic false c.args.exact c.of-else-exact.result c.args.m.now.model
    (c.of-else-exact.ensures ∙ c.scales-else-exact.ensures) c.if-exact.false) c.start_weights-else-exact.ensures
