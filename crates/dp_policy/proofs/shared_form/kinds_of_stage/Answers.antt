use Rattle.std.proofs.Common.{◌≡◌, ℕ, suc, ◌-◌, ◌<◌, [], get_or, length, map, sym, ap, ◌∙◌, arith}
use Rattle.dp_policy.proofs.Lists.{mapped_at}
use Rattle.dp_policy.proofs.shared_form.kinds_of_stage.Goals as goal

pub returns-then-stage-kinds-clause-is : goal.returns-then-stage-kinds-clause-is
returns-then-stage-kinds-clause-is c =
    λ lt.
    let kinds = c.args.kinds.now in
    let n = length kinds in
    let inside : n - 1 - c.args.stage < n = omega (arith, lt) in
    let at = mapped_at (λ s. s.items) kinds
    (n - 1 - c.args.stage) [] c.index-kinds-kinds.result inside c.index-kinds-kinds.is in
    let e : n - 1 - c.args.stage ≡ n - suc c.args.stage = omega arith in
    c.deref.ensures.value ∙ sym at ∙ ap (λ (k : ℕ). get_or (map (λ s. s.items) kinds) k []) e
