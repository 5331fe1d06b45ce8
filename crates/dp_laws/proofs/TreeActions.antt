-- Policy trees by their actions after own histories.
use Rattle.std.proofs.Common.{◌≡◌, ℕ, zero, suc, ◌+◌, ◌*◌, ◌-◌, ◌/◌, ◌%◌, ◌^◌, ◌<◌, refl, sym, ap, ◌∙◌, arith}
use Rattle.std.proofs.Math.Nat.{pow-suc, pow-zero}
use Rattle.std.proofs.lemmas.Nat.{div-mul-add, mod-mul-add, mod_below}
use Rattle.dp_laws.proofs.Graft.{nth_tree-trees_from, trees_from_fit}
use Rattle.dp_laws.proofs.Keeping.{tree_at_fits}
use Rattle.dp_laws.proofs.OwnHistories.{next_history_below}
use Rattle.dp_laws.proofs.Trees.{root_action_below}
use Rattle.dp_spec.specs.FullPolicy.{tree_doing, tree_doing_after}
use Rattle.dp_spec.specs.Keeping.{tree_at}
use Rattle.dp_spec.specs.PolicyTree.{ArePolicyTrees, IsPolicyTree, PolicyTree, PolicyTrees, more_trees, no_trees}
use Rattle.dp_spec.specs.PolicyTree.{node, nth_tree, root_action, subtree}
use Rattle.dp_spec.proofs.JointNumberLaws.{part_below, positive_right}

under_one : (n x : ℕ) → x < n ^ 0 → x ≡ 0
under_one n x h = omega (arith, pow-zero n)

-- lists of so many trees are equal where all their trees are
equal_lists : (b n r c : ℕ) (ks ls : PolicyTrees) → ArePolicyTrees b n r c ks → ArePolicyTrees b n r c ls
    → ((o : ℕ) → o < c → nth_tree ks o ≡ nth_tree ls o) → ks ≡ ls
equal_lists b n r zero no_trees no_trees k l same = refl
equal_lists b n r zero no_trees (more_trees q ls) k l same = absurd l
equal_lists b n r zero (more_trees p ks) ls k l same = absurd k
equal_lists b n r (suc c) no_trees ls k l same = absurd k
equal_lists b n r (suc c) (more_trees p ks) no_trees k l same = absurd l
equal_lists b n r (suc c) (more_trees p ks) (more_trees q ls) k l same =
    rw (same 0 (omega arith), equal_lists b n r c ks ls k.1 l.1 (λ o h. same (suc o) (omega arith))) refl

-- trees of one step are equal where their actions are
pub equal_leaves : (b n : ℕ) (p q : PolicyTree) → IsPolicyTree b n 1 p → IsPolicyTree b n 1 q
    → root_action p ≡ root_action q → p ≡ q
equal_leaves b n (node a ks) (node c ls) tp tq same = rw (same, tp.1, tq.1) refl

-- trees of more steps are equal where their actions and their subtrees are
pub equal_nodes : (b n r : ℕ) (p q : PolicyTree) → IsPolicyTree b n (suc (suc r)) p
    → IsPolicyTree b n (suc (suc r)) q
    → root_action p ≡ root_action q → ((o : ℕ) → o < n → subtree p o ≡ subtree q o) → p ≡ q
equal_nodes b n r (node a ks) (node c ls) tp tq same below =
    rw (same, equal_lists b n (suc r) n ks ls tp.1 tq.1 below) refl

-- what remains of a tree after an own history and one more observation
pub tree_at-next : (n : ℕ) (q : PolicyTree) (t x o : ℕ) → o < n
    → tree_at n q (suc t) (x * n + o) ≡ subtree (tree_at n q t x) o
tree_at-next n q t x o h = rw (div-mul-add x n o h, mod-mul-add x n o h) refl

-- what remains of trees that do the same is equal
equal_remains : (b n h : ℕ) (p q : PolicyTree) → IsPolicyTree b n h p → IsPolicyTree b n h q
    → ((t x : ℕ) → t < h → x < n ^ t → root_action (tree_at n p t x) ≡ root_action (tree_at n q t x)) →
    (r t x : ℕ) → t + suc r ≡ h → x < n ^ t → tree_at n p t x ≡ tree_at n q t x
equal_remains b n h p q tp tq same zero t x e u =
    equal_leaves b n _ _ (tree_at_fits b n p t 1 h x e u tp) (tree_at_fits b n q t 1 h x e u tq)
    (same t x (omega arith) u)
equal_remains b n h p q tp tq same (suc r) t x e u =
    equal_nodes b n r _ _ (tree_at_fits b n p t (suc (suc r)) h x e u tp)
    (tree_at_fits b n q t (suc (suc r)) h x e u tq) (same t x (omega arith) u)
    (λ o below. sym (tree_at-next n p t x o below) ∙ equal_remains b n h p q tp tq same r (suc t) (x * n + o)
    (omega arith) (next_history_below x n t o u below) ∙ tree_at-next n q t x o below)

-- two trees of r steps that do the same after each own history are equal
pub equal_by_actions : (b n r : ℕ) (p q : PolicyTree) → 0 < r → IsPolicyTree b n r p → IsPolicyTree b n r q →
    ((t x : ℕ) → t < r → x < n ^ t → root_action (tree_at n p t x) ≡ root_action (tree_at n q t x)) → p ≡ q
equal_by_actions b n zero p q some tp tq same = absurd (omega arith)
equal_by_actions b n (suc r) p q some tp tq same = equal_remains b n (suc r) p q tp tq same r 0 0 (omega arith)
    (omega (arith, pow-zero n))

-- ---- the tree of given actions
-- it is a tree where the actions exist
pub is-tree_doing_after : (b n h : ℕ) (act : ℕ → ℕ → ℕ) → ((t x : ℕ) → t < h → x < n ^ t → act t x < b)
    → (r t x : ℕ)
    → t + r ≡ h → x < n ^ t → IsPolicyTree b n r (tree_doing_after n act r t x)
is-tree_doing_after b n h act below zero t x e u = tt
is-tree_doing_after b n h act below (suc zero) t x e u = (below t x (omega arith) u, refl)
is-tree_doing_after b n h act below (suc (suc r)) t x e u = (
  below t x (omega arith) u,
  trees_from_fit b n (suc r) n _
      (λ o p. is-tree_doing_after b n h act below (suc r) (suc t) (x * n + o) (omega arith)
      (next_history_below x n t o u p)),
)

subtree-tree_doing_after : (n : ℕ) (act : ℕ → ℕ → ℕ) (r t x o : ℕ) → o < n
    → subtree (tree_doing_after n act (suc r) t x) o ≡ tree_doing_after n act r (suc t) (x * n + o)
subtree-tree_doing_after n act zero t x o p = refl
subtree-tree_doing_after n act (suc r) t x o p = nth_tree-trees_from n _ o p

-- what remains of it after an own history
pub tree_at-tree_doing : (n : ℕ) (act : ℕ → ℕ → ℕ) (t r h x : ℕ) → t + r ≡ h → x < n ^ t
    → tree_at n (tree_doing n act h) t x ≡ tree_doing_after n act r t x
tree_at-tree_doing n act zero r h x e u =
    let e' : h ≡ r = omega arith in
    let x' : x ≡ 0 = under_one n x u in rw (e', x')
tree_at-tree_doing n act (suc t) r h x e u =
    let u' : x < n ^ t * n = rw pow-suc at u in
    let place : x / n * n + x % n ≡ x = omega arith in
    ap (λ z. subtree z (x % n)) (tree_at-tree_doing n act t (suc r) h (x / n) (omega arith)
    (part_below (n ^ t) n x u'))
    ∙ subtree-tree_doing_after n act r t (x / n) (x % n) (mod_below x n (positive_right (n ^ t) n x u'))
    ∙ ap (tree_doing_after n act r (suc t)) place

root-tree_doing_after : (n : ℕ) (act : ℕ → ℕ → ℕ) (r t x : ℕ)
    → root_action (tree_doing_after n act (suc r) t x) ≡ act t x
root-tree_doing_after n act zero t x = refl
root-tree_doing_after n act (suc r) t x = refl

-- it does the actions
pub does-tree_doing : (n : ℕ) (act : ℕ → ℕ → ℕ) (h t x : ℕ) → t < h → x < n ^ t
    → root_action (tree_at n (tree_doing n act h) t x) ≡ act t x
does-tree_doing n act h t x p u = ap root_action (tree_at-tree_doing n act t (suc (h - suc t)) h x
    (omega arith) u)
    ∙ root-tree_doing_after n act (h - suc t) t x

-- the tree of given actions is a tree and does them
pub tree_of_actions : (b n r : ℕ) (act : ℕ → ℕ → ℕ) → ((t x : ℕ) → t < r → x < n ^ t → act t x < b) →
    IsPolicyTree b n r (tree_doing n act r) × ((t x : ℕ) → t < r → x < n ^ t
    → root_action (tree_at n (tree_doing n act r) t x) ≡ act t x)
tree_of_actions b n r act below = (
  is-tree_doing_after b n r act below r 0 0 (omega arith)
      (omega (arith, pow-zero n)),
  does-tree_doing n act r,
)

-- a tree of r steps does actions of its agent after each own history shorter than r
pub action_below : (b n r : ℕ) (q : PolicyTree) → IsPolicyTree b n r q → (t x : ℕ) → t < r → x < n ^ t
    → root_action (tree_at n q t x) < b
action_below b n r q tree t x p u = root_action_below b n (r - suc t) (tree_at n q t x)
    (tree_at_fits b n q t (suc (r - suc t)) r x (omega arith) u tree)
