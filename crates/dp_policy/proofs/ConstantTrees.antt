-- The trees of a constant joint policy, made one after the other.
use Rattle.std.proofs.Common.{◌≡◌, ℕ, zero, suc, ◌-◌, ◌<◌, ◌≤◌, List, [], ◌∷◌, ◌++◌, length, get_or, drop, replicate}
use Rattle.std.proofs.Common.{refl, sym, ap, ◌∙◌, append_assoc, arith}
use Rattle.std.proofs.Math.Seq.{drop-cons}
use Rattle.dp_spec.specs.ConstantPolicy.{constant_policy, constant_tree, constant_trees, repeated_tree}
use Rattle.dp_spec.specs.JointNumbers.{parts_of}
use Rattle.dp_spec.specs.Model.{Model}
use Rattle.dp_spec.specs.PolicyTree.{PolicyTree, node, more_trees}
use Rattle.dp_policy.specs.TreeValue.{policy_trees}
use Rattle.dp_policy.proofs.Lists.{drop_all}

repeated : (n : ℕ) (q : PolicyTree) → policy_trees (replicate n q) ≡ repeated_tree n q
repeated zero q = refl
repeated (suc n) q = ap (more_trees q) (repeated n q)

-- a tree of more than one step, by its subtrees
pub constant_node : (n steps a k : ℕ) (qs : List PolicyTree) → 1 < steps
    → qs ≡ replicate k (constant_tree n (steps - 1) a) → k ≡ n
    → node a (policy_trees qs) ≡ constant_tree n steps a
constant_node n zero a k qs more are all = absurd (omega arith)
constant_node n (suc zero) a k qs more are all = absurd (omega arith)
constant_node n (suc (suc r)) a k qs more are all =
    let less : suc (suc r) - 1 ≡ suc r = omega arith in
    ap (λ (l : List PolicyTree). node a (policy_trees l))
    (are ∙ (λ i. replicate (all i) (constant_tree n (less i) a)))
    ∙ ap (node a) (repeated n (constant_tree n (suc r) a))

-- a tree of one step
pub constant_leaf : (n steps a : ℕ) (qs : List PolicyTree) → steps ≤ 1 → qs ≡ []
    → node a (policy_trees qs) ≡ constant_tree n steps a
constant_leaf n zero a qs one none = ap (λ (l : List PolicyTree). node a (policy_trees l)) none
constant_leaf n (suc zero) a qs one none = ap (λ (l : List PolicyTree). node a (policy_trees l)) none
constant_leaf n (suc (suc r)) a qs one none = absurd (omega arith)

-- the trees of one agent more
pub constant_tree_step : (ns as' : List ℕ) (h i : ℕ) (done whole : List PolicyTree) (q : PolicyTree)
    → i < length ns
    → i < length as'
    → done ++ constant_trees (drop i ns) h (drop i as') ≡ whole
    → q ≡ constant_tree (get_or ns i 0) h (get_or as' i 0)
    → (done ++ q ∷ []) ++ constant_trees (drop (suc i) ns) h (drop (suc i) as') ≡ whole
constant_tree_step ns as' h i done whole q ln la so_far here =
    append_assoc done (q ∷ []) _ ∙ ap
    (λ (p : PolicyTree). done ++ p ∷ constant_trees (drop (suc i) ns) h (drop (suc i) as')) here
    ∙ (λ j. done ++ constant_trees (sym (drop-cons ns i 0 ln) j) h (sym (drop-cons as' i 0 la) j))
    ∙ so_far

-- with all agents passed
pub constant_trees_end : (ns as' : List ℕ) (h i : ℕ) (done whole : List PolicyTree) → length ns ≤ i
    → done ++ constant_trees (drop i ns) h (drop i as') ≡ whole → done ≡ whole
constant_trees_end ns as' h i done whole le so_far =
    sym (append_none done) ∙ ap (λ (xs : List ℕ). done ++ constant_trees xs h (drop i as'))
    (sym (drop_all ns i le))
    ∙ so_far
  where
    append_none : (p : List PolicyTree) → p ++ [] ≡ p
    append_none [] = refl
    append_none (q ∷ p) = ap (λ (l : List PolicyTree). q ∷ l) (append_none p)

pub constant_policy_is : (m : Model) (h a : ℕ)
    → constant_trees m.observations h (parts_of m.actions a) ≡ constant_policy m h a
unfolding constant_policy
constant_policy_is m h a = refl
