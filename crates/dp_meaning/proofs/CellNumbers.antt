-- Cells and rows by their numbers.
use Rattle.std.proofs.Common.{◌≡◌, ℕ, ◌+◌, ◌*◌, ◌<◌, [], ◌∷◌, ap, ◌∙◌, arith}
use Rattle.dp_spec.specs.JointNumbers.{joint_number, parts_of}
use Rattle.dp_spec.proofs.JointNumberLaws.{parts_of-joint_number, row_below}

row_number : (actions states a s : ℕ) → a * states + s ≡ joint_number (actions ∷ states ∷ []) (a ∷ s ∷ [])
row_number actions states a s = omega arith

-- the row of a joint action and a state
pub parts_of_row : (actions states a s : ℕ) → a < actions → s < states
    → parts_of (actions ∷ states ∷ []) (a * states + s) ≡ a ∷ s ∷ []
parts_of_row actions states a s h k =
    ap (parts_of (actions ∷ states ∷ [])) (row_number actions states a s)
    ∙ parts_of-joint_number (actions ∷ states ∷ []) (a ∷ s ∷ []) (h, (k, tt))

cell_number : (actions states next seen a s t o : ℕ)
    → ((a * states + s) * next + t) * seen + o ≡ joint_number (actions ∷ states ∷ next ∷ seen ∷ [])
    (a ∷ s ∷ t ∷ o ∷ [])
cell_number actions states next seen a s t o = omega arith

-- the cell of a joint action, a state, a next state and a joint observation
pub parts_of_cell : (actions states next seen a s t o : ℕ) → a < actions → s < states → t < next → o < seen
    → parts_of (actions ∷ states ∷ next ∷ seen ∷ []) (((a * states + s) * next + t) * seen + o) ≡ a ∷ s ∷ t ∷ o ∷ []
parts_of_cell actions states next seen a s t o ha hs ht ho =
    ap (parts_of (actions ∷ states ∷ next ∷ seen ∷ [])) (cell_number actions states next seen a s t o)
    ∙ parts_of-joint_number (actions ∷ states ∷ next ∷ seen ∷ []) (a ∷ s ∷ t ∷ o ∷ []) (ha, (hs, (ht, (ho, tt))))

-- it is below the cells together
pub cell_below : (actions states next seen a s t o : ℕ) → a < actions → s < states → t < next → o < seen
    → ((a * states + s) * next + t) * seen + o < actions * states * next * seen
cell_below actions states next seen a s t o ha hs ht ho =
    row_below _ _ _ _ (row_below _ _ _ _ (row_below _ _ _ _ ha hs) ht) ho
