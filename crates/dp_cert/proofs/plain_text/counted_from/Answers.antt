use Rattle.std.proofs.Common.{[], ◌∷◌, ◌++◌, ◌+◌, sym, ap, ◌∙◌, arith}
use Rattle.std.proofs.lemmas.List.FromFn.{map-range_with_len_more}
use Rattle.dp_cert.proofs.plain_text.counted_from.Goals as goal

pub loop-place-preserved : goal.loop-place-preserved
loop-place-preserved c =
    let p = c.loop-place.place in
    c.in_ok-push.ensures.items ∙ ap (λ l. l ++ (c.args.first + p) ∷ []) c.loop-place.invariant
    ∙ sym (map-range_with_len_more (λ o. c.args.first + o) 0 p p (omega arith))
