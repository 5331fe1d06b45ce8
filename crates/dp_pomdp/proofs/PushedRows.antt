-- Rows as loops push them, one item after the other.
use Rattle.std.proofs.Common.{◌≡◌, ℕ, ◌+◌, ◌<◌, List, [], ◌∷◌, ◌++◌, map, length, get_or, take, sym, ap, ◌∙◌}
use Rattle.std.proofs.Common.{append_assoc}
use Rattle.std.proofs.lemmas.List.{map_push, take_more}

-- a mapped list goes on with the next item
pub next_mapped : {X Y : Type 0} (f : X → Y) (xs : List X) (pre all more : List Y) (i : ℕ) (d : X) (new : Y)
    → i < length xs → new ≡ f (get_or xs i d) → more ≡ all ++ new ∷ [] → all ≡ pre ++ map f (take i xs)
    → more ≡ pre ++ map f (take (i + 1) xs)
next_mapped f xs pre all more i d new lt same pushed before =
    pushed ∙ (λ j. before j ++ same j ∷ []) ∙ append_assoc pre (map f (take i xs)) (f (get_or xs i d) ∷ [])
    ∙ ap (λ l. pre ++ l) (sym (ap (map f) (take_more xs i d lt) ∙ map_push f (take i xs) (get_or xs i d)))
