-- Lists as loops make them, one item after the other.
use Rattle.std.proofs.Common.{◌≡◌, ℕ, ◌+◌, List, [], ◌∷◌, ◌++◌, map, sym, ap, ◌∙◌, append_assoc, arith}
use Rattle.std.specs.List.{range_with_len}
use Rattle.std.proofs.lemmas.List.FromFn.{map-range_with_len_more}

-- a made list goes on with one item more, after a list
pub next_after : {X : Type 0} (f : ℕ → X) (pre all more : List X) (i : ℕ) (new : X) → new ≡ f i
    → more ≡ all ++ new ∷ [] → all ≡ pre ++ map f (range_with_len 0 i)
    → more ≡ pre ++ map f (range_with_len 0 (i + 1))
next_after f pre all more i new same pushed before =
    pushed ∙ (λ j. before j ++ same j ∷ []) ∙ append_assoc pre (map f (range_with_len 0 i)) (f i ∷ [])
    ∙ ap (λ l. pre ++ l) (sym (map-range_with_len_more f 0 i i (omega arith)))
