-- The greatest leaf of a branch, child after child.
use Rattle.std.proofs.Common.{◌≡◌, ℕ, zero, suc, ◌<◌, ◌≤◌, Bool, true, false, cond, ℤ, pos, List, [], ◌∷◌, length}
use Rattle.std.proofs.Common.{drop, get_or, map, refl, sym, ap, arith}
use Rattle.std.specs.Int.{int_max}
use Rattle.std.proofs.lemmas.Int.{ints}
use Rattle.dp_spec.specs.BoundTree.{BoundTree, greatest_leaf, greatest_leaf_of, leaf}
use Rattle.dp_tree.specs.TreeValue.{bound_trees}
use Rattle.dp_search.specs.GreatestLeaves.{greatest_after}

max_of_three : (x y z : ℤ) → int_max (int_max x y) z ≡ int_max x (int_max y z)
max_of_three x y z = grind (arith, ints)

-- the greatest leaf of the children that are left, after some of that greatest bound or none
abbrev pub greatest_with : Bool → ℤ → List BoundTree → ℤ
greatest_with some g left = cond some (greatest_leaf_of (bound_trees (leaf g ∷ left)))
    (greatest_leaf_of (bound_trees left))

-- one child further
pub greatest_further : (some : Bool) (g : ℤ) (t : BoundTree) (left : List BoundTree)
    → greatest_with true (greatest_after some g (greatest_leaf t)) left ≡ greatest_with some g (t ∷ left)
greatest_further false g t [] = refl
greatest_further false g t (s ∷ left) = refl
greatest_further true g t [] = refl
greatest_further true g t (s ∷ left) = max_of_three g (greatest_leaf t)
    (greatest_leaf_of (bound_trees (s ∷ left)))

-- all children are done
pub greatest_at_end : (some : Bool) (g : ℤ) → (some ≡ false → g ≡ pos 0) → greatest_with some g [] ≡ g
greatest_at_end false g none = sym (none refl)
greatest_at_end true g none = refl

-- the items from one on are that one and those behind it
pub mapped_drop : {X Y : Type 0} (f : X → Y) (xs : List X) (i : ℕ) (x : X) → i < length xs → x ≡ get_or xs i x
    → map f (drop i xs) ≡ f x ∷ map f (drop (suc i) xs)
mapped_drop f [] i x lt e = absurd (omega arith)
mapped_drop f (y ∷ xs) zero x lt e = let same : x ≡ y = e in ap (λ z. f z ∷ map f xs) (sym same)
mapped_drop f (y ∷ xs) (suc i) x lt e = mapped_drop f xs i x (omega arith) e

pub mapped_end : {X Y : Type 0} (f : X → Y) (xs : List X) (i : ℕ) → length xs ≤ i → map f (drop i xs) ≡ []
mapped_end f [] zero le = refl
mapped_end f [] (suc i) le = refl
mapped_end f (x ∷ xs) zero le = absurd (omega arith)
mapped_end f (x ∷ xs) (suc i) le = mapped_end f xs i (omega arith)
