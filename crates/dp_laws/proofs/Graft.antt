-- trees below which new trees stand
use Rattle.std.proofs.Common.{◌≡◌, ℕ, zero, suc, ◌+◌, ◌*◌, ◌/◌, ◌%◌, ◌^◌, ◌<◌, refl, sym, ap, ◌∙◌, subst, arith}
use Rattle.std.proofs.Math.Nat.{pow-suc, pow-zero}
use Rattle.std.proofs.lemmas.Nat.{mod_below}
use Rattle.dp_laws.proofs.Trees.{subtree_fits, root_action_below}
use Rattle.dp_spec.specs.FullPolicy.{trees_from}
use Rattle.dp_spec.specs.Keeping.{tree_at}
use Rattle.dp_spec.specs.PolicyTree.{ArePolicyTrees, IsPolicyTree, PolicyTree, node, nth_tree, root_action, subtree}
use Rattle.dp_spec.proofs.JointNumberLaws.{part_below, positive_right, row_below}

-- the tree at place o
pub nth_tree-trees_from : (c : ℕ) (g : ℕ → PolicyTree) (o : ℕ) → o < c → nth_tree (trees_from c g) o ≡ g o
nth_tree-trees_from zero g o h = absurd (omega arith)
nth_tree-trees_from (suc c) g zero h = refl
nth_tree-trees_from (suc c) g (suc o) h = nth_tree-trees_from c (λ o. g (suc o)) o (omega arith)

-- The tree q below which, k steps on, new trees stand. The own history of q has number x, and `new` takes the numbers
-- of histories k steps longer.
abbrev pub graft : ℕ → ℕ → ℕ → PolicyTree → (ℕ → PolicyTree) → PolicyTree
graft n zero x q new = new x
graft n (suc k) x q new = node (root_action q) (trees_from n (λ o. graft n k (x * n + o) (subtree q o) new))

-- the number of a history one step longer
next_number : (n t y x : ℕ) → (x * n ^ t + y / n) * n + y % n ≡ x * n ^ suc t + y
next_number n t y x = rw pow-suc (omega arith)

-- what remains of a graft after fewer steps is a graft of what remains
pub tree_at-graft : (n : ℕ) (q : PolicyTree) (new : ℕ → PolicyTree) (t j k x y : ℕ) → t + j ≡ k → y < n ^ t
    → tree_at n (graft n k x q new) t y ≡ graft n j (x * n ^ t + y) (tree_at n q t y) new
tree_at-graft n q new zero j k x y e h =
    let one = pow-zero n in
    let h' : y < 1 = rw one at h in
    let e' : k ≡ j = omega arith in
    let at : x * n ^ 0 + y ≡ x = omega (arith, ap (λ (z : ℕ). x * z) one) in
    rw (e', at)
tree_at-graft n q new (suc t) j k x y e h =
    let h' : y < n ^ t * n = rw pow-suc at h in
    let h2 : y < n * n ^ t = omega arith in
    ap (λ z. subtree z (y % n)) (tree_at-graft n q new t (suc j) k x (y / n) (omega arith)
    (part_below (n ^ t) n y h'))
    ∙ nth_tree-trees_from n _ (y % n) (mod_below y n (positive_right (n ^ t) n y h'))
    ∙ ap (λ (z : ℕ). graft n j z (subtree (tree_at n q t (y / n)) (y % n)) new) (next_number n t y x)

-- they are trees of r steps where each is
pub trees_from_fit : (b n r c : ℕ) (g : ℕ → PolicyTree) → ((o : ℕ) → o < c → IsPolicyTree b n r (g o))
    → ArePolicyTrees b n r c (trees_from c g)
trees_from_fit b n r zero g h = tt
trees_from_fit b n r (suc c) g h = (
  h 0 (omega arith),
  trees_from_fit b n r c (λ o. g (suc o))
      (λ o p. h (suc o) (omega arith)),
)

-- the same where the first of k + 1 steps is o
grafted_number : (x n k o y : ℕ) → (x * n + o) * n ^ k + y ≡ x * n ^ suc k + (o * n ^ k + y)
grafted_number x n k o y = rw pow-suc (omega arith)

-- the new tree is one of as many steps, where steps are left below the graft
pub graft_fits : (b n r k j x : ℕ) (q : PolicyTree) (new : ℕ → PolicyTree) → k + suc r ≡ j
    → IsPolicyTree b n j q
    → ((y : ℕ) → y < n ^ k → IsPolicyTree b n (suc r) (new (x * n ^ k + y)))
    → IsPolicyTree b n j (graft n k x q new)
graft_fits b n r zero j x q new e fits news =
    let e' : suc r ≡ j = omega arith in
    let one = pow-zero n in
    let at : x * n ^ 0 + 0 ≡ x = omega (arith, ap (λ (z : ℕ). x * z) one) in
    subst (λ (i : ℕ). IsPolicyTree b n i (new x)) e' (subst (λ (z : ℕ). IsPolicyTree b n (suc r) (new z)) at
    (news 0 (omega arith)))
graft_fits b n r (suc k) zero x q new e fits news = absurd (omega arith)
graft_fits b n r (suc k) (suc zero) x q new e fits news = absurd (omega arith)
graft_fits b n r (suc k) (suc (suc j)) x q new e fits news = (
  root_action_below b n (suc j) q fits,
  trees_from_fit b n (suc j) n _ (λ o p.
      graft_fits b n r k (suc j) (x * n + o) (subtree q o) new (omega arith)
      (subtree_fits b n (suc j) q o p fits)
      (λ y u. subst (λ (z : ℕ). IsPolicyTree b n (suc r) (new z)) (sym (grafted_number x n k o y))
      (news (o * n ^ k + y) (rw pow-suc (let lt = row_below o n (n ^ k) y p u in omega arith))))),
)
