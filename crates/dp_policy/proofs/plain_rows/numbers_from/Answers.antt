use Rattle.std.proofs.Common.{[], ◌∷◌, ◌++◌, ◌+◌, sym, ap, ◌∙◌, arith}
use Rattle.std.proofs.lemmas.List.FromFn.{map-range_with_len_more}
use Rattle.dp_policy.proofs.plain_rows.numbers_from.Goals as goal

pub loop-place-preserved : goal.loop-place-preserved
loop-place-preserved c =
    let n = c.loop-place.place in
    c.in_ok-push.ensures.items ∙ ap (λ l. l ++ (c.args.first + n) ∷ []) c.loop-place.invariant
    ∙ sym (map-range_with_len_more (λ o. c.args.first + o) 0 n n (omega arith))
