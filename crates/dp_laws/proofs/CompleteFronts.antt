-- Complete fronts: every class has an action, and what its histories come to one step on.
use Rattle.std.proofs.Common.{◌≡◌, ℕ, zero, suc, ◌+◌, ◌*◌, ◌/◌, ◌%◌, ◌^◌, ◌<◌, true, List, [], ◌∷◌, map, length}
use Rattle.std.proofs.Common.{get_or, Option, Some, None, refl, arith}
use Rattle.std.specs.List.{range_with_len}
use Rattle.std.proofs.lemmas.List.FromFn.{get_or-map-range_with_len}
use Rattle.dp_spec.specs.Steps.{all_chosen}

-- where all have an action, a class has one
pub some_at : (os : List (Option ℕ)) (c : ℕ) → all_chosen os ≡ true → c < length os
    → (a : ℕ) × (get_or os c None ≡ Some a)
some_at [] c e h = absurd (omega arith)
some_at (None ∷ os) c e h = cc
some_at (Some a ∷ os) zero e h = (a, refl)
some_at (Some a ∷ os) (suc c) e h = some_at os c e (omega arith)

-- the class of an own history one step on
pub new_class : (n f x : ℕ) (cs : List ℕ) → x < n ^ suc f
    → get_or (map (λ x. get_or cs (x / n) 0 * n + x % n) (range_with_len 0 (n ^ suc f))) x 0
    ≡ get_or cs (x / n) 0 * n + x % n
new_class n f x cs h = get_or-map-range_with_len (λ x. get_or cs (x / n) 0 * n + x % n) 0 (n ^ suc f) x x 0 h
    (omega arith)
