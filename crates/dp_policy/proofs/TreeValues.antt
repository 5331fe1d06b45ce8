-- What the policy tree of a `PTree` has at its root, and when it is a tree of so many steps.
use Rattle.std.proofs.Common.{◌≡◌, ◌≢◌, ℕ, zero, suc, ◌-◌, ◌<◌, List, [], ◌∷◌, length, get_or, map, refl, sym, ap}
use Rattle.std.proofs.Common.{◌∙◌, arith}
use Rattle.std.specs.Prelude.{◌↔◌}
use Rattle.std.specs.List.{All}
use Rattle.std.proofs.lemmas.List.Elements.{All-nil, All-cons, All-head, All-tail}
use Rattle.dp_spec.specs.PolicyTree.{PolicyTree, node, no_trees, root_action, subtree, subtrees, nth_tree}
use Rattle.dp_spec.specs.PolicyTree.{IsPolicyTree, ArePolicyTrees}
use Rattle.dp_policy.specs.declared.tree.PTree.{PTree}
use Rattle.dp_policy.specs.declared.tree.PTree.TheOpen.{PTree-F}
use Rattle.dp_policy.specs.declared.tree.PTree.TheViews.{out-PTree, roll-PTree}
use Rattle.dp_policy.specs.declared.tree.PTree.TheFolds.{fold-roll-PTree, fold_out-PTree}
use Rattle.dp_policy.specs.TreeValue.{policy_tree, policy_tree_node, policy_trees}
use Rattle.dp_policy.specs.Trees.{tree_count}

pub policy_tree_is : (t : PTree)
    → policy_tree t ≡ node (out-PTree t).action (policy_trees (map policy_tree (out-PTree t).kids.items))
unfolding policy_tree
policy_tree_is t = fold_out-PTree PolicyTree policy_tree_node t

pub action_is : (t : PTree) → (out-PTree t).action ≡ root_action (policy_tree t)
action_is t = sym (ap root_action (policy_tree_is t))

pub trees_counted : (ts : List PTree) → tree_count (policy_trees (map policy_tree ts)) ≡ length ts
trees_counted [] = refl
trees_counted (t ∷ ts) = ap suc (trees_counted ts)

nth_of : (ts : List PTree) (o : ℕ) (d : PTree) → o < length ts
    → nth_tree (policy_trees (map policy_tree ts)) o ≡ policy_tree (get_or ts o d)
nth_of [] o d h = absurd (omega arith)
nth_of (t ∷ ts) zero d h = refl
nth_of (t ∷ ts) (suc o) d h = nth_of ts o d (omega arith)

pub kids_counted : (t : PTree) → length (out-PTree t).kids.items ≡ tree_count (subtrees (policy_tree t))
kids_counted t = sym (ap (λ (q : PolicyTree). tree_count (subtrees q)) (policy_tree_is t)
    ∙ trees_counted (out-PTree t).kids.items)

pub kid_is : (t : PTree) (o : ℕ) (d : PTree) → o < tree_count (subtrees (policy_tree t))
    → policy_tree (get_or (out-PTree t).kids.items o d) ≡ subtree (policy_tree t) o
kid_is t o d h =
    let e = kids_counted t in
    sym (ap (λ (q : PolicyTree). subtree q o) (policy_tree_is t)
    ∙ nth_of (out-PTree t).kids.items o d (omega arith))

-- ---- trees of so many steps, by the fields

trees_fit : (b n r c : ℕ) (ks : List PTree) → length ks ≡ c → All (λ k. IsPolicyTree b n r (policy_tree k)) ks
    → ArePolicyTrees b n r c (policy_trees (map policy_tree ks))
trees_fit b n r zero [] e h = tt
trees_fit b n r (suc c) [] e h = absurd (omega arith)
trees_fit b n r zero (k ∷ ks) e h = absurd (omega arith)
trees_fit b n r (suc c) (k ∷ ks) e h = (
  All-head (λ k. IsPolicyTree b n r (policy_tree k)) k ks h,
  trees_fit b n r c ks (omega arith)
      (All-tail (λ k. IsPolicyTree b n r (policy_tree k)) k ks h),
)

fitting_count : (b n r c : ℕ) (ks : List PTree) → ArePolicyTrees b n r c (policy_trees (map policy_tree ks))
    → length ks ≡ c
fitting_count b n r zero [] h = refl
fitting_count b n r (suc c) [] h = absurd h
fitting_count b n r zero (k ∷ ks) h = absurd h
fitting_count b n r (suc c) (k ∷ ks) h = ap suc (fitting_count b n r c ks h.1)

fitting_each : (b n r c : ℕ) (ks : List PTree) → ArePolicyTrees b n r c (policy_trees (map policy_tree ks))
    → All (λ k. IsPolicyTree b n r (policy_tree k)) ks
fitting_each b n r zero [] h = All-nil (λ k. IsPolicyTree b n r (policy_tree k))
fitting_each b n r (suc c) [] h = absurd h
fitting_each b n r zero (k ∷ ks) h = absurd h
fitting_each b n r (suc c) (k ∷ ks) h =
    All-cons (λ k. IsPolicyTree b n r (policy_tree k)) k ks h.0 (fitting_each b n r c ks h.1)

is_one : (b n : ℕ) (t : PTree)
    → IsPolicyTree b n 1 (policy_tree t) ↔ (((out-PTree t).action < b) × (length (out-PTree t).kids.items ≡ 0))
is_one b n t =
    let e = policy_tree_is t in
    rw e (
      λ h. (h.0, sym (trees_counted (out-PTree t).kids.items) ∙ ap tree_count h.1),
      λ h.
          (h.0, empty (out-PTree t).kids.items h.1),
    )
  where
    empty : (ks : List PTree) → length ks ≡ 0 → policy_trees (map policy_tree ks) ≡ no_trees
    empty [] h = refl
    empty (k ∷ ks) h = absurd (omega arith)

is_more : (b n r : ℕ) (t : PTree) → IsPolicyTree b n (suc (suc r)) (policy_tree t)
    ↔ (((out-PTree t).action < b) × (length (out-PTree t).kids.items ≡ n) × All
    (λ k. IsPolicyTree b n (suc r) (policy_tree k)) (out-PTree t).kids.items)
is_more b n r t =
    let e = policy_tree_is t in
    let ks = (out-PTree t).kids.items in
    rw e (
      λ h. (h.0, fitting_count b n (suc r) n ks h.1, fitting_each b n (suc r) n ks h.1),
      λ h.
          (h.0, trees_fit b n (suc r) n ks h.1 h.2),
    )

pub action_below : (b n r : ℕ) (t : PTree) → 0 < r → IsPolicyTree b n r (policy_tree t)
    → (out-PTree t).action < b
action_below b n zero t p h = absurd (omega arith)
action_below b n (suc zero) t p h = ((is_one b n t).0 h).0
action_below b n (suc (suc r)) t p h = ((is_more b n r t).0 h).0

pub one_step : (b n r : ℕ) (t : PTree) → r ≡ 1 → (out-PTree t).action < b
    → IsPolicyTree b n r (policy_tree t) ↔ (length (out-PTree t).kids.items ≡ 0)
one_step b n r t e h = rw e (λ is. ((is_one b n t).0 is).1, λ none. (is_one b n t).1 (h, none))

pub more_steps : (b n r : ℕ) (t : PTree) → 0 < r → r ≢ 1 → IsPolicyTree b n r (policy_tree t)
    ↔ (((out-PTree t).action < b) × (length (out-PTree t).kids.items ≡ n) × All
    (λ k. IsPolicyTree b n (r - 1) (policy_tree k)) (out-PTree t).kids.items)
more_steps b n zero t p ne = absurd (omega arith)
more_steps b n (suc zero) t p ne = absurd (ne refl)
more_steps b n (suc (suc r)) t p ne = let e : suc (suc r) - 1 ≡ suc r = omega arith in rw e (is_more b n r t)

-- of a tree that is made of its fields
pub made_is : (t : PTree-F PTree)
    → policy_tree (roll-PTree t) ≡ node t.action (policy_trees (map policy_tree t.kids.items))
unfolding policy_tree
made_is t = fold-roll-PTree PolicyTree policy_tree_node t
