-- Parts of weights and values, rounded: they are no larger than the whole.
use Rattle.std.proofs.Common.{◌≡◌, ℕ, ◌<◌, ◌≤◌, ℤ, pos, negsuc, ◌*ℤ◌, ◌≤ℤ◌, unsigned_abs, ap, ◌∙◌, arith}
use Rattle.std.proofs.lemmas.Int.{ints}
use Rattle.dp_base.specs.Rounding.{ceiling_of, floor_of, mul_down, mul_up}
use Rattle.dp_base.proofs.Floors.{part_abs, part_down, part_up}
use Rattle.dp_base.proofs.Ring.{zle_of, zle_trans}

-- a part of a weight, rounded down
pub part_down_most : (a : ℤ) (p d : ℕ) (q e r : ℤ) → pos 0 ≤ℤ a → 0 < d → p ≤ d → q ≡ pos p → e ≡ pos d
    → r ≡ floor_of (a *ℤ q) (unsigned_abs e) → r ≤ℤ a
unfolding mul_down
part_down_most (pos n) p d q e r from some le part whole is =
    let same : r ≡ mul_down (pos n) (pos p) d = is ∙ ap (λ (q : ℤ). floor_of (pos n *ℤ q) (unsigned_abs e)) part
    ∙ ap (λ (e : ℤ). floor_of (pos n *ℤ pos p) (unsigned_abs e)) whole in
    zle_trans _ _ _ (zle_of _ _ same) (part_down n p d some le).1
part_down_most (negsuc n) p d q e r from some le part whole is = absurd (omega (arith, ints))

-- and rounded up
pub part_up_most : (a : ℤ) (p d : ℕ) (q e r : ℤ) → pos 0 ≤ℤ a → 0 < d → p ≤ d → q ≡ pos p → e ≡ pos d
    → r ≡ ceiling_of (a *ℤ q) (unsigned_abs e) → r ≤ℤ a
unfolding mul_up
part_up_most (pos n) p d q e r from some le part whole is =
    let same : r ≡ mul_up (pos n) (pos p) d = is ∙ ap (λ (q : ℤ). ceiling_of (pos n *ℤ q) (unsigned_abs e)) part
    ∙ ap (λ (e : ℤ). ceiling_of (pos n *ℤ pos p) (unsigned_abs e)) whole in
    zle_trans _ _ _ (zle_of _ _ same) (part_up n p d some le).1
part_up_most (negsuc n) p d q e r from some le part whole is = absurd (omega (arith, ints))

-- the magnitude of a part of a value, rounded up
pub value_part_most : (a : ℤ) (p d : ℕ) (q e r : ℤ) → 0 < d → p ≤ d → q ≡ pos p → e ≡ pos d
    → r ≡ ceiling_of (a *ℤ q) (unsigned_abs e) → unsigned_abs r ≤ unsigned_abs a
unfolding mul_up
value_part_most a p d q e r some le part whole is =
    let same : r ≡ mul_up a (pos p) d = is ∙ ap (λ (q : ℤ). ceiling_of (a *ℤ q) (unsigned_abs e)) part
    ∙ ap (λ (e : ℤ). ceiling_of (a *ℤ pos p) (unsigned_abs e)) whole in
    let size = ap unsigned_abs same in
    let most = part_abs a p d some le in omega arith
