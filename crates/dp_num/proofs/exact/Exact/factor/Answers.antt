use Rattle.std.proofs.Common.{◌≡◌, ◌^◌, ◌<◌, get_or, arith, sym, subst}
use Rattle.dp_spec.specs.declared.scales.Scales.{Scales}
use Rattle.dp_spec.specs.Arithmetic.{reward_factor}
use Rattle.dp_num.proofs.ExactSteps.{factor_at, some_factor}
use Rattle.dp_num.proofs.exact.Exact.factor.Goals as goal

pub returns : goal.returns
returns c =
    let s = c.self.inside.scales in
    let rest = c.args.rest in
    let room : reward_factor s rest < 2 ^ 127 = subst (λ (s : Scales). reward_factor s rest < 2 ^ 127)
    (sym c.self.view_is) c.requires.room in
    let read : get_or c.self.inside.factors c.min.result 0 ≡ reward_factor s rest =
    factor_at s c.self.invariant.0 rest c.min.result _ room c.min.ensures
    (c.self.invariant.1 c.min.result (omega arith)) in
    let some : 0 < reward_factor s rest = some_factor s c.self.invariant.0 rest in
    record {
      is = subst (λ (s : Scales). get_or c.self.inside.factors c.min.result 0 ≡ reward_factor s rest)
          c.self.view_is read;
      some = omega arith;
    }
