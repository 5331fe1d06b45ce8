-- The lines of a tree, child after child.
use Rattle.std.proofs.Common.{◌≡◌, ℕ, List, [], ◌∷◌, ◌++◌, map, Result, Ok, Err, false, refl, ap, ◌∙◌, append_assoc}
use Rattle.std.proofs.Common.{arith}
use Rattle.std.specs.Prelude.{OnOk, ◌==◌, codes}
use Rattle.std.proofs.lemmas.Bool.Decides.{nat_tests}
use Rattle.dp_spec.specs.BoundTree.{BoundTree, BoundTrees, branch, child_count}
use Rattle.dp_tree.specs.TreeValue.{bound_trees}
use Rattle.dp_cert.specs.CertificateBytes.{children_bytes, node_bytes, three_bytes}

-- bytes behind bytes
pub behind : (x y z a b : List ℕ) → y ≡ x ++ a → z ≡ y ++ b → z ≡ x ++ (a ++ b)
behind x y z a b e f = f ∙ ap (λ l. l ++ b) e ∙ append_assoc x a b

pub one_child : (before after all : List ℕ) (t : BoundTree) (ts : List BoundTree)
    → after ≡ before ++ node_bytes t
    → before ++ children_bytes (bound_trees (t ∷ ts)) ≡ all → after ++ children_bytes (bound_trees ts) ≡ all
one_child before after all t ts e so_far =
    ap (λ l. l ++ children_bytes (bound_trees ts)) e ∙ append_assoc before (node_bytes t)
    (children_bytes (bound_trees ts)) ∙ so_far

-- a branch begins
pub branch_start : (old text : List ℕ) (i c n : ℕ) (ks : BoundTrees)
    → text ≡ old ++ three_bytes (codes "B ") i c n
    → n ≡ child_count ks
    → text ++ children_bytes ks ≡ old ++ node_bytes (branch i c ks)
branch_start old text i c n ks e count =
    ap (λ l. l ++ children_bytes ks) e
    ∙ append_assoc old (three_bytes (codes "B ") i c n) (children_bytes ks)
    ∙ ap (λ k. old ++ (three_bytes (codes "B ") i c k ++ children_bytes ks)) count

pub on_ok : {A B T E : Type 0} (r : Result T E) → (A → B) → OnOk r A → OnOk r B
on_ok (Ok x) f a = f a
on_ok (Err e) f a = tt

pub on_same : {B T E : Type 0} (r : Result T E) → B → OnOk r B
on_same (Ok x) b = b
on_same (Err e) b = tt

pub is_other : (v : ℕ) → (v ≡ 1 → ⊥) → (v == 1) ≡ false
is_other v differ = grind (arith, nat_tests)

-- what is still to be is written, from one on
pub step_on : (before after a rest all : List ℕ) → after ≡ before ++ a → before ++ (a ++ rest) ≡ all
    → after ++ rest ≡ all
step_on before after a rest all e so_far = ap (λ l. l ++ rest) e ∙ append_assoc before a rest ∙ so_far

pub mapped_twice : {X Y Z : Type 0} (f : X → Y) (g : Y → Z) (xs : List X)
    → map g (map f xs) ≡ map (λ x. g (f x)) xs
mapped_twice f g [] = refl
mapped_twice f g (x ∷ xs) = ap (λ l. g (f x) ∷ l) (mapped_twice f g xs)
