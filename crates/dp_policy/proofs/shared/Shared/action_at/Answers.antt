use Rattle.std.proofs.Common.{◌≡◌, ℕ, ◌<◌, [], add-one, get_or, length, ap, ◌∙◌, subst, arith}
use Rattle.dp_spec.specs.SharedPolicy.{row_at, unfolded_tree}
use Rattle.dp_policy.specs.SharedRows.{AreKept, HorizonRows, remaining_after}
use Rattle.dp_policy.proofs.ReachedRows.{reached_end, reached_step}
use Rattle.dp_policy.proofs.shared.Shared.action_at.Goals as goal

pub loop-stage-preserved : goal.loop-stage-preserved
loop-stage-preserved c =
    let S = get_or c.args.self.now.rows c.args.agent [] in
    let H = c.args.history.now in
    let i = c.args.agent in
    let t = c.loop-stage.stage in
    let r = c.loop-stage.row in
    let kept = subst (λ (v : HorizonRows). AreKept v.horizon v.rows) c.self.view_is c.self.invariant in
    let early : t < length H = c.loop-stage-test.true in
    let nexts = kept.alike i t r c.requires.agent (omega (arith, early, c.requires.shorter))
    c.loop-stage.invariant.row in
    let seen : get_or H t 0 < length (row_at S t r).next = omega (arith, nexts, c.requires.seen t early) in
    record {
      row = rw (add-one, c.next-row.ensures) (kept.inside i t r (get_or H t 0) c.requires.agent
          (omega (arith, early, c.requires.shorter)) c.loop-stage.invariant.row seen);
      reached = rw (add-one, c.next-row.ensures) (reached_step S H (remaining_after (unfolded_tree S 0) H)
          t r early seen c.loop-stage.invariant.reached);
    }

pub returns : goal.returns
returns c =
    let S = get_or c.args.self.now.rows c.args.agent [] in
    let H = c.args.history.now in
    let all : length H ≡ c.loop-stage.stage = omega (
      arith,
      c.loop-stage-test.false,
      c.loop-stage.auto.stage-end,
    ) in
    c.action.ensures ∙ ap (λ (t : ℕ). (row_at S t c.loop-stage.row).action) all
    ∙ reached_end S H (remaining_after (unfolded_tree S 0) H) c.loop-stage.stage c.loop-stage.row
    (omega (arith, c.loop-stage-test.false)) c.loop-stage.invariant.reached
