use Rattle.std.proofs.Common.{◌≡◌, ◌<◌, suc, true, false, sym, subst, ◌∙◌, ◌*◌, IfOk, List, Result, Ok, Err, Vec}
use Rattle.std.proofs.Common.{Global}
use Rattle.dp_base.specs.declared.memory.Memory.{Memory}
use Rattle.dp_spec.specs.declared.span.Span.{Span}
use Rattle.dp_spec.specs.Arithmetic.{Arithmetic}
use Rattle.dp_spec.specs.Calls.{AreInRange}
use Rattle.dp_spec.specs.Front.{class_counts}
use Rattle.dp_spec.specs.JointNumbers.{product}
use Rattle.dp_spec.specs.Model.{joint_observations}
use Rattle.dp_spec.specs.Quantities.{class_weight_in}
use Rattle.dp_spec.specs.Steps.{advanced_front}
use Rattle.dp_spec.proofs.ScaleRange.{scales_in_range}
use Rattle.dp_cluster.specs.Advances.{weight_rows}
use Rattle.dp_cluster.proofs.Advances.{advanceable}
use Rattle.dp_cluster.proofs.Modes.{same_arithmetic}
use Rattle.dp_cluster.proofs.advance.weights_in.Goals as goal

-- what holds of the weights holds where they are kept
later : (r : Result (Vec Span Global) Memory) (P : Type 0) (ws : List Span) → IfOk r (λ v. v.items ≡ ws)
    → IfOk r (λ v. P → v.items ≡ ws)
later (Ok v) P ws e = λ _. e
later (Err x) P ws e = tt

pub of-requires : goal.of-requires
of-requires c = record {
  range = subst AreInRange (sym c.scales.ensures)
      (scales_in_range c.args.m.now.model.scales c.requires.of_model.model.scales);
}

pub weights_after-requires-clause-sizes : goal.weights_after-requires-clause-sizes
weights_after-requires-clause-sizes c = advanceable true c.of.result c.args.m.now.model c.args.front.now
    c.requires.of_model c.invariant.ensures c.requires.stage (c.of.ensures ∙ c.scales.ensures)
    (sym c.is_exact.ensures ∙ c.if-is_exact.true)

pub returns-then-is_exact : goal.returns-then-is_exact
returns-then-is_exact c =
    subst (λ (A : Arithmetic). IfOk c.weights_after.result (λ v. suc c.args.front.now.front.stage
    < c.args.front.now.horizon → v.items ≡ weight_rows (class_weight_in A c.args.m.now.model
    (advanced_front c.args.m.now.model c.args.front.now.front)) c.args.m.now.model.states
    (product (class_counts c.args.front.now.front.agents) * joint_observations c.args.m.now.model)))
    (same_arithmetic true c.args.front.now.is_exact c.of.result c.args.m.now.model
    (c.of.ensures ∙ c.scales.ensures) (sym c.is_exact.ensures ∙ c.if-is_exact.true))
    (later c.weights_after.result _ _ c.weights_after.ensures)

pub of-requires-else-is_exact : goal.of-requires-else-is_exact
of-requires-else-is_exact c = record {
  range = subst AreInRange (sym c.scales-else-is_exact.ensures)
      (scales_in_range c.args.m.now.model.scales c.requires.of_model.model.scales);
}

pub weights_after-requires-else-is_exact-clause-sizes : goal.weights_after-requires-else-is_exact-clause-sizes
weights_after-requires-else-is_exact-clause-sizes c = advanceable false c.of-else-is_exact.result
    c.args.m.now.model c.args.front.now c.requires.of_model c.invariant.ensures c.requires.stage
    (c.of-else-is_exact.ensures ∙ c.scales-else-is_exact.ensures) (sym c.is_exact.ensures ∙ c.if-is_exact.false)

pub returns-else-is_exact : goal.returns-else-is_exact
returns-else-is_exact c =
    subst (λ (A : Arithmetic). IfOk c.weights_after-else-is_exact.result
    (λ v. suc c.args.front.now.front.stage < c.args.front.now.horizon
    → v.items ≡ weight_rows (class_weight_in A c.args.m.now.model
    (advanced_front c.args.m.now.model c.args.front.now.front)) c.args.m.now.model.states
    (product (class_counts c.args.front.now.front.agents) * joint_observations c.args.m.now.model)))
    (same_arithmetic false c.args.front.now.is_exact c.of-else-is_exact.result c.args.m.now.model
    (c.of-else-is_exact.ensures ∙ c.scales-else-is_exact.ensures)
    (sym c.is_exact.ensures ∙ c.if-is_exact.false)) (later c.weights_after-else-is_exact.result _ _
    c.weights_after-else-is_exact.ensures)
