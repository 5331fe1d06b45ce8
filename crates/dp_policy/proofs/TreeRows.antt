-- Policy trees by their actions, stage by stage: from rows to trees, and from trees to rows.
use Rattle.std.proofs.Common.{◌≡◌, ◌≢◌, ℕ, zero, suc, ◌+◌, ◌*◌, ◌-◌, ◌/◌, ◌%◌, ◌^◌, ◌<◌, List, ◌∷◌, ◌++◌, map, refl}
use Rattle.std.proofs.Common.{sym, ap, ◌∙◌, arith}
use Rattle.std.specs.List.{range_with_len}
use Rattle.std.proofs.Math.Nat.{pow-suc, pow-zero}
use Rattle.std.proofs.lemmas.Nat.{div-add-mod', div_below, mod_below}
use Rattle.dp_laws.proofs.TreeActions.{tree_at-next}
use Rattle.dp_spec.specs.FullPolicy.{trees_from, tree_doing_after}
use Rattle.dp_spec.specs.Keeping.{tree_at}
use Rattle.dp_spec.specs.PolicyText.{row_actions}
use Rattle.dp_spec.specs.PolicyTree.{PolicyTree, PolicyTrees, node, no_trees, more_trees, nth_tree, root_action}
use Rattle.dp_spec.specs.PolicyTree.{subtree, IsPolicyTree, ArePolicyTrees}
use Rattle.dp_policy.specs.declared.tree.PTree.{PTree}
use Rattle.dp_policy.specs.declared.tree.PTree.TheOpen.{PTree-F}
use Rattle.dp_policy.specs.declared.tree.PTree.TheViews.{out-PTree, roll-PTree}
use Rattle.dp_policy.specs.declared.tree.PTree.TheFolds.{fold-roll-PTree}
use Rattle.dp_policy.specs.ActionRows.{actions_below, actions_of_all}
use Rattle.dp_policy.specs.TreeValue.{policy_tree, policy_tree_node, policy_trees}
use Rattle.dp_policy.proofs.TreeValues.{policy_tree_is}

-- ---- from rows to trees

-- trees in a list are trees one after the other
pub made_trees : (g : ℕ → PolicyTree) (a c : ℕ) → policy_trees (map g (range_with_len a c))
    ≡ trees_from c (λ o. g (a + o))
made_trees g a zero = refl
made_trees g a (suc c) =
    let first : a ≡ a + 0 = omega arith in
    let later : (o : ℕ) → a + 1 + o ≡ a + suc o = λ o. omega arith in
    ap (λ ks. more_trees (g a) ks) (made_trees g (a + 1) c) ∙ (λ i. more_trees (g (first i))
    (trees_from c (λ o. g (later o i))))

-- a tree at the last stage, and one before it
pub last_tree : (n : ℕ) (act : ℕ → ℕ → ℕ) (r t x a : ℕ) → r ≡ 1 → a ≡ act t x
    → node a no_trees ≡ tree_doing_after n act r t x
last_tree n act r t x a last is = rw (last, is) refl

pub earlier_tree : (n : ℕ) (act : ℕ → ℕ → ℕ) (r s t x a : ℕ) (qs : List PolicyTree) → r ≡ suc (suc s)
    → a ≡ act t x
    → qs ≡ map (λ o. tree_doing_after n act (suc s) (t + 1) (x * n + o)) (range_with_len 0 n)
    → node a (policy_trees qs) ≡ tree_doing_after n act r t x
earlier_tree n act r s t x a qs steps is kids =
    let after : t + 1 ≡ suc t = omega arith in
    let none : (o : ℕ) → 0 + o ≡ o = λ o. omega arith in
    (λ i. node (is i) (policy_trees (kids i)))
    ∙ ap (node (act t x)) (made_trees (λ o. tree_doing_after n act (suc s) (t + 1) (x * n + o)) 0 n)
    ∙ (λ i. node (act t x) (trees_from n (λ o. tree_doing_after n act (suc s) (after i) (x * n + none o i))))
    ∙ ap (λ k. tree_doing_after n act k t x) (sym steps)

-- ---- from trees to rows

-- the actions below a node are those of its trees, one step less deep
pub actions_at_root : (s : ℕ) (t : PTree) → s ≢ 0
    → actions_of_all (s - 1) (policy_trees (map policy_tree (out-PTree t).kids.items))
    ≡ actions_below s (policy_tree t)
actions_at_root zero t some = absurd (some refl)
actions_at_root (suc s) t some =
    let less : suc s - 1 ≡ s = omega arith in
    ap (λ k. actions_of_all k (policy_trees (map policy_tree (out-PTree t).kids.items))) less
    ∙ ap (actions_below (suc s)) (sym (policy_tree_is t))

-- ranges one after the other
ranges : (f : ℕ → ℕ) (a c d : ℕ) → map f (range_with_len a (c + d)) ≡ map f (range_with_len a c)
    ++ map f (range_with_len (a + c) d)
ranges f a zero d =
    let none : 0 + d ≡ d = omega arith in
    let e : a ≡ a + 0 = omega arith in
    λ i. map f (range_with_len (e i) (none i))
ranges f a (suc c) d =
    let more : suc c + d ≡ suc (c + d) = omega arith in
    let e : a + 1 + c ≡ a + suc c = omega arith in
    ap (λ k. map f (range_with_len a k)) more
    ∙ ap (λ l. f a ∷ l) (ranges f (a + 1) c d)
    ∙ ap (λ b. f a ∷ (map f (range_with_len (a + 1) c) ++ map f (range_with_len b d))) e

pub shifted : {X : Type 0} (f g : ℕ → X) (a b c : ℕ) → ((x : ℕ) → x < c → f (a + x) ≡ g (b + x))
    → map f (range_with_len a c) ≡ map g (range_with_len b c)
shifted f g a b zero same = refl
shifted f g a b (suc c) same =
    let here : f a ≡ g b = (let e : a + 0 ≡ a = omega arith in let e' : b + 0 ≡ b = omega arith in ap f (sym e)
    ∙ same 0 (omega arith) ∙ ap g e') in
    let later = shifted f g (a + 1) (b + 1) c (λ x lt.
    let e : a + 1 + x ≡ a + suc x = omega arith in
    let e' : b + suc x ≡ b + 1 + x = omega arith in
    ap f e ∙ same (suc x) (omega arith) ∙ ap g e') in
    λ i. here i ∷ later i

-- what remains after an own history is what remains, after all but its first observation, of the tree after that
first_observation : (n : ℕ) (q : PolicyTree) (t o y : ℕ) → o < n → y < n ^ t
    → tree_at n q (suc t) (o * n ^ t + y) ≡ tree_at n (subtree q o) t y
first_observation n q zero o y seen lt =
    let one = pow-zero n in
    let at : o * n ^ 0 + y ≡ 0 * n + o = omega (arith, one, ap (λ z. o * z) one) in
    ap (λ x. tree_at n q 1 x) at ∙ tree_at-next n q 0 0 o seen
first_observation n q (suc t) o y seen lt =
    let power : n ^ suc t ≡ n ^ t * n = pow-suc n t in
    let lt' : y < n ^ t * n = rw (← power) lt in
    let some : 0 < n = omega arith in
    let place : y / n * n + y % n ≡ y = div-add-mod' y n in
    let at : o * n ^ suc t + y ≡ (o * n ^ t + y / n) * n + y % n = rw power (omega (arith, place)) in
    let row : y / n < n ^ t = div_below y n (n ^ t) some lt' in
    ap (λ x. tree_at n q (suc (suc t)) x) at
    ∙ tree_at-next n q (suc t) (o * n ^ t + y / n) (y % n) (mod_below y n some)
    ∙ ap (λ p. subtree p (y % n)) (first_observation n q t o (y / n) seen row)

-- the actions below trees are the rows of the tree that goes on with them
mutual
  pub actions_are_row : (b n h t : ℕ) (q : PolicyTree) → t < h → IsPolicyTree b n h q
      → actions_below t q ≡ row_actions n q t
  actions_are_row b n h zero q lt is = ap (λ k. map (λ x. root_action (tree_at n q 0 x)) (range_with_len 0 k))
      (sym (pow-zero n))
  actions_are_row b n zero (suc t) q lt is = absurd (omega arith)
  actions_are_row b n (suc zero) (suc t) q lt is = absurd (omega arith)
  actions_are_row b n (suc (suc h)) (suc t) (node a ks) lt is =
      let start : 0 * n ^ t ≡ 0 = omega arith in
      let size : n * n ^ t ≡ n ^ suc t = rw pow-suc (omega arith) in
      actions_are_rows b n h t (node a ks) 0 n ks (omega arith) (omega arith) is.1
      (λ i below. let at : i ≡ 0 + i = omega arith in ap (nth_tree ks) at)
      ∙ (λ i. map (λ x. root_action (tree_at n (node a ks) (suc t) x)) (range_with_len (start i) (size i)))

  actions_are_rows : (b n h t : ℕ) (q : PolicyTree) (o c : ℕ) (ks : PolicyTrees) → t < suc h → o + c ≡ n
      → ArePolicyTrees b n (suc h) c ks → ((i : ℕ) → i < c → nth_tree ks i ≡ subtree q (o + i))
      → actions_of_all t ks ≡ map (λ x. root_action (tree_at n q (suc t) x))
      (range_with_len (o * n ^ t) (c * n ^ t))
  actions_are_rows b n h t q o zero no_trees lt all are same =
      let none : 0 ≡ 0 * n ^ t = omega arith in
      ap (λ k. map (λ x. root_action (tree_at n q (suc t) x)) (range_with_len (o * n ^ t) k)) none
  actions_are_rows b n h t q o zero (more_trees k ks) lt all are same = absurd are
  actions_are_rows b n h t q o (suc c) no_trees lt all are same = absurd are
  actions_are_rows b n h t q o (suc c) (more_trees k ks) lt all are same =
      let f : ℕ → ℕ = λ x. root_action (tree_at n q (suc t) x) in
      let first : o + 0 ≡ o = omega arith in
      let this : k ≡ subtree q o = same 0 (omega arith) ∙ ap (subtree q) first in
      let row : actions_below t k ≡ map (λ x. root_action (tree_at n q (suc t) x))
      (range_with_len (o * n ^ t) (n ^ t)) =
      actions_are_row b n (suc h) t k lt are.0
      ∙ shifted (λ y. root_action (tree_at n k t y)) f 0 (o * n ^ t) (n ^ t)
      (λ y below.
      let none : 0 + y ≡ y = omega arith in
      (λ i. root_action (tree_at n (this i) t (none i)))
      ∙ ap root_action (sym (first_observation n q t o y (omega arith) below))) in
      let next : (o + 1) * n ^ t ≡ o * n ^ t + n ^ t = omega arith in
      let size : n ^ t + c * n ^ t ≡ suc c * n ^ t = omega arith in
      let others : actions_of_all t ks ≡ map (λ x. root_action (tree_at n q (suc t) x))
      (range_with_len (o * n ^ t + n ^ t) (c * n ^ t)) =
      actions_are_rows b n h t q (o + 1) c ks lt (omega arith) are.1
      (λ i below. let at : o + suc i ≡ o + 1 + i = omega arith in same (suc i) (omega arith)
      ∙ ap (subtree q) at)
      ∙ ap (λ a. map f (range_with_len a (c * n ^ t))) next in
      (λ i. row i ++ others i)
      ∙ sym (ranges f (o * n ^ t) (n ^ t) (c * n ^ t))
      ∙ ap (λ k. map f (range_with_len (o * n ^ t) k)) size

-- a tree that is put together of an action and trees
pub put_together : (t : PTree-F PTree) → policy_tree (roll-PTree t)
    ≡ node t.action (policy_trees (map policy_tree t.kids.items))
unfolding policy_tree
put_together t = fold-roll-PTree PolicyTree policy_tree_node t
