use Rattle.std.proofs.Common.{[], ◌∷◌, ◌++◌, map, sym, ap, ◌∙◌, arith}
use Rattle.std.specs.List.{range_with_len}
use Rattle.std.proofs.lemmas.List.FromFn.{map-range_with_len_more}
use Rattle.dp_tables.specs.Blocks.{identity_at}
use Rattle.dp_tables.proofs.blocks.identity.Goals as goal

pub loop-j-preserved : goal.loop-j-preserved
loop-j-preserved c =
    c.in_ok-push.ensures.items ∙ ap (λ xs. xs ++ c.identity_at.result ∷ []) c.loop-j.invariant
    ∙ ap (λ n. map (identity_at c.args.scale c.args.len) (range_with_len 0 c.loop-j.j) ++ n ∷ [])
    c.identity_at.ensures
    ∙ sym (map-range_with_len_more (identity_at c.args.scale c.args.len) 0 c.loop-j.j c.loop-j.j (omega arith))
