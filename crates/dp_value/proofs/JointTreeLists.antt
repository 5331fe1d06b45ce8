-- The trees of a joint policy in an array: by agent, with the joint action at their roots, and after a joint
-- observation.
use Rattle.std.proofs.Common.{◌≡◌, ℕ, zero, suc, ◌<◌, ◌≤◌, List, [], ◌∷◌, length, get_or, map, take, refl, sym, ap}
use Rattle.std.proofs.Common.{◌∙◌, subst, arith, Bor}
use Rattle.std.proofs.lemmas.List.{length-map}
use Rattle.dp_spec.specs.JointNumbers.{joint_number, parts_of}
use Rattle.dp_spec.specs.Model.{Model, joint_actions, joint_observations}
use Rattle.dp_spec.specs.PolicyTree.{IsJointPolicy, IsPolicyOf, PolicyTree, root_action, subtree, subtrees}
use Rattle.dp_spec.specs.PolicyTree.IsJointPolicy.{and_agent, no_agents}
use Rattle.dp_spec.specs.Value.{joint_root_action, subtrees_at, trees_after}
use Rattle.dp_spec.proofs.JointNumberLaws.{below_at, length-parts_of, parts_below}
use Rattle.dp_laws.proofs.Trees.{joint_root_action_below, root_action_below}
use Rattle.dp_model.specs.Parts.{AreParts, part_of}
use Rattle.dp_policy.specs.declared.tree.PTree.{PTree}
use Rattle.dp_policy.specs.TreeValue.{policy_tree}
use Rattle.dp_policy.specs.Trees.{tree_count, tree_of}
use Rattle.dp_policy.proofs.JoinedTrees.{observations_counted, tree_of_agent, trees_alike}
use Rattle.dp_value.specs.JointTrees.{first_trees}

-- ---- by agent

pub tree_in : (n : ℕ) (ts : List (Bor PTree)) (i : ℕ) (d : Bor PTree) → i < n → i < length ts
    → policy_tree (get_or ts i d).now ≡ tree_of (first_trees n ts) i
tree_in n [] i d ln lt = absurd (omega arith)
tree_in zero (t ∷ ts) i d ln lt = absurd (omega arith)
tree_in (suc n) (t ∷ ts) zero d ln lt = refl
tree_in (suc n) (t ∷ ts) (suc i) d ln lt = tree_in n ts i d (omega arith) (omega arith)

-- an array holds trees where it does by agent
pub are_trees : (n : ℕ) (ts : List (Bor PTree)) (qs : List PolicyTree) → length qs ≡ n → n ≤ length ts
    → ((i : ℕ) → i < n → (d : Bor PTree) → policy_tree (get_or ts i d).now ≡ tree_of qs i)
    → first_trees n ts ≡ qs
are_trees zero ts [] e le each = refl
are_trees zero ts (q ∷ qs) e le each = absurd (omega arith)
are_trees (suc n) ts [] e le each = absurd (omega arith)
are_trees (suc n) [] (q ∷ qs) e le each = absurd (omega arith)
are_trees (suc n) (t ∷ ts) (q ∷ qs) e le each =
    let here : policy_tree t.now ≡ q = each 0 (omega arith) t in
    let rest : first_trees n ts ≡ qs =
    are_trees n ts qs (omega arith) (omega arith) (λ i lt. each (suc i) (omega arith)) in
    (λ j. here j ∷ rest j)

-- ---- the joint action

actions_are : (n : ℕ) (xs : List ℕ) (qs : List PolicyTree) → length qs ≡ n → n ≤ length xs
    → ((i : ℕ) → i < n → get_or xs i 0 ≡ root_action (tree_of qs i)) → take n xs ≡ map root_action qs
actions_are zero xs [] e le each = refl
actions_are zero xs (q ∷ qs) e le each = absurd (omega arith)
actions_are (suc n) xs [] e le each = absurd (omega arith)
actions_are (suc n) [] (q ∷ qs) e le each = absurd (omega arith)
actions_are (suc n) (x ∷ xs) (q ∷ qs) e le each =
    let here : x ≡ root_action q = each 0 (omega arith) in
    let rest : take n xs ≡ map root_action qs =
    actions_are n xs qs (omega arith) (omega arith) (λ i lt. each (suc i) (omega arith)) in
    (λ j. here j ∷ rest j)

roots_below : {r : ℕ} {bs ns : List ℕ} {qs : List PolicyTree} → IsJointPolicy (suc r) bs ns qs → (i : ℕ)
    → i < length bs
    → get_or (map root_action qs) i 0 < get_or bs i 0
roots_below no_agents i lt = absurd (omega arith)
roots_below (and_agent one others) zero lt = root_action_below _ _ _ _ one
roots_below (and_agent one others) (suc i) lt = roots_below others i (omega arith)

module _ (m : Model) (r : ℕ) (qs : List PolicyTree) (policy : IsPolicyOf m (suc r) qs) (xs : List ℕ)
    (le : length m.actions ≤ length xs) (each : (i : ℕ) → i < length m.actions
    → get_or xs i 0 ≡ root_action (tree_of qs i)) where
  actions : take (length m.actions) xs ≡ map root_action qs
  actions = actions_are (length m.actions) xs qs (trees_alike policy) le each

  pub actions_are_parts : AreParts m.actions (take (length m.actions) xs)
  actions_are_parts = subst (AreParts m.actions) (sym actions) (record {
    alike = length-map qs root_action ∙ trees_alike policy;
    below = roots_below policy;
  })

  pub root_actions : take (length m.actions) xs ≡ map root_action qs
  root_actions = actions

pub root_is : (m : Model) (qs : List PolicyTree) (xs : List ℕ) (a : ℕ) → a ≡ joint_number m.actions xs
    → xs ≡ map root_action qs
    → a ≡ joint_root_action m qs
unfolding joint_root_action
root_is m qs xs a is same = is ∙ ap (joint_number m.actions) same

pub root_below : (m : Model) (r : ℕ) (qs : List PolicyTree) → IsPolicyOf m (suc r) qs
    → joint_root_action m qs < joint_actions m
unfolding joint_root_action joint_actions
root_below m r qs policy = joint_root_action_below policy

-- ---- after a joint observation

subtrees_counted : (qs : List PolicyTree) (os : List ℕ) → length os ≡ length qs
    → length (subtrees_at qs os) ≡ length qs
subtrees_counted [] os e = refl
subtrees_counted (q ∷ qs) [] e = absurd (omega arith)
subtrees_counted (q ∷ qs) (o ∷ os) e = ap suc (subtrees_counted qs os (omega arith))

subtree_at : (qs : List PolicyTree) (os : List ℕ) (i : ℕ) → length os ≡ length qs → i < length qs
    → tree_of (subtrees_at qs os) i ≡ subtree (tree_of qs i) (get_or os i 0)
subtree_at [] os i e lt = absurd (omega arith)
subtree_at (q ∷ qs) [] i e lt = absurd (omega arith)
subtree_at (q ∷ qs) (o ∷ os) zero e lt = refl
subtree_at (q ∷ qs) (o ∷ os) (suc i) e lt = subtree_at qs os i (omega arith) (omega arith)

module _ (m : Model) (r : ℕ) (qs : List PolicyTree) (policy : IsPolicyOf m (suc r) qs)
    (alike : length m.actions ≡ length m.observations) (o : ℕ) where
  parts : length (parts_of m.observations o) ≡ length qs
  parts = let n = length-parts_of m.observations o in let e = trees_alike policy in omega arith

  -- an agent has a tree after its part
  pub has_subtree : (i : ℕ) → 0 < r → o < joint_observations m → i < length m.actions
      → part_of m.observations o i < tree_count (subtrees (tree_of qs i))
  unfolding joint_observations
  has_subtree i some lo li =
      let e = trees_alike policy in
      let below = below_at i m.observations (parts_of m.observations o) (omega arith)
      (parts_below m.observations o lo) in
      let count = observations_counted _ _ (suc r) (tree_of qs i) (omega arith)
      (tree_of_agent policy i (omega arith)) in
      omega arith

  -- an array holds the trees after it where it does by agent
  pub are_after : (ts : List (Bor PTree)) → length m.actions ≤ length ts
      → ((i : ℕ) → i < length m.actions → (d : Bor PTree)
      → policy_tree (get_or ts i d).now ≡ subtree (tree_of qs i) (part_of m.observations o i))
      → first_trees (length m.actions) ts ≡ trees_after m qs o
  unfolding trees_after
  are_after ts le each =
      let e = trees_alike policy in
      are_trees (length m.actions) ts (subtrees_at qs (parts_of m.observations o))
      (subtrees_counted qs (parts_of m.observations o) parts ∙ e) le
      (λ i lt d. each i lt d ∙ sym (subtree_at qs (parts_of m.observations o) i parts (omega arith)))
