use Rattle.std.proofs.Common.{[], add-one, get_or, refl, sym, arith}
use Rattle.std.proofs.Math.Nat.{pow-zero}
use Rattle.dp_policy.proofs.Lists.{is_not, is_so, not_true}
use Rattle.dp_policy.proofs.PlainStages.{none_before, plain_count_step, plain_stage_of, plain_stage_step}
use Rattle.dp_policy.proofs.PlainStages.{plain_stages_end, small_product}
use Rattle.dp_policy.proofs.shared.Shared.is_agent_plain.Goals as goal

pub loop-stage-init : goal.loop-stage-init
loop-stage-init c = record {
  before = none_before c.args.observations c.args.self.now.horizon
      (get_or c.args.self.now.rows c.args.agent []);
  count = sym (pow-zero c.args.observations);
  few = omega arith;
}

pub returns-then-not-is_stage_plain : goal.returns-then-not-is_stage_plain
returns-then-not-is_stage_plain c =
    is_not (λ all. not_true (c.if-not-is_stage_plain.ensures.is.1
    (plain_stage_of c.args.observations c.args.self.now.horizon c.loop-stage.stage c.loop-stage.count
    (get_or c.args.self.now.rows c.args.agent [])
    (omega (arith, c.horizon-stage-end.ensures.is, c.loop-stage-test.true)) c.loop-stage.invariant.count all)))

pub loop-stage-preserved : goal.loop-stage-preserved
loop-stage-preserved c =
    let n = c.args.observations in
    let small = small_product c.loop-stage.count n (c.if-not-is_stage_plain.ensures.limit refl)
    c.requires.few in
    record {
      before = rw add-one (plain_stage_step n c.args.self.now.horizon c.loop-stage.stage c.loop-stage.count
          (get_or c.args.self.now.rows c.args.agent [])
          c.loop-stage.invariant.before c.loop-stage.invariant.count
          (c.if-not-is_stage_plain.ensures.is.0 refl));
      count = rw (add-one, c.from-count.ensures) (plain_count_step n c.loop-stage.stage c.loop-stage.count
          c.loop-stage.invariant.count);
      few = rw c.from-count.ensures small;
    }

pub returns : goal.returns
returns c =
    is_so (plain_stages_end c.args.observations c.args.self.now.horizon c.loop-stage.stage
    (get_or c.args.self.now.rows c.args.agent [])
    (omega (arith, c.horizon-stage-end.ensures.is, c.loop-stage-test.false)) c.loop-stage.invariant.before)
