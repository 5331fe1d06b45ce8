use Rattle.std.proofs.Common.{ℕ, [], ◌∷◌, ◌++◌, get_or, map, sym, ap, ◌∙◌, arith}
use Rattle.std.specs.List.{range_with_len}
use Rattle.std.proofs.lemmas.List.FromFn.{map-range_with_len_more}
use Rattle.dp_spec.specs.SharedPolicy.{row_at}
use Rattle.dp_policy.proofs.kinds.kinds_after.Goals as goal

pub loop-row-preserved : goal.loop-row-preserved
loop-row-preserved c =
    let f = λ (r : ℕ). get_or c.args.later.now
    (get_or (row_at (get_or c.args.policy.now.rows c.args.agent []) c.args.stage r).next c.args.seen 0) 0 in
    let n = c.loop-row.row in
    c.in_ok-push.ensures.items
    ∙ (λ j. c.loop-row.invariant j ++ get_or c.args.later.now (c.next.ensures j) 0 ∷ [])
    ∙ sym (map-range_with_len_more f 0 n n (omega arith))

pub returns : goal.returns
returns c =
    let f = λ (r : ℕ). get_or c.args.later.now
    (get_or (row_at (get_or c.args.policy.now.rows c.args.agent []) c.args.stage r).next c.args.seen 0) 0 in
    let all = c.rows-row-end.ensures.is in
    c.loop-row.invariant ∙ ap (λ (k : ℕ). map f (range_with_len 0 k))
    (omega (arith, all, c.loop-row-test.false, c.loop-row.auto.row-end))
