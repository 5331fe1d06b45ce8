-- A joint policy along joint observations, and each of its trees along the agent's own.
use Rattle.std.proofs.Common.{◌≡◌, ℕ, zero, suc, ◌+◌, ◌<◌, List, [], ◌∷◌, ◌++◌, length, get_or, map, refl, sym, ap}
use Rattle.std.proofs.Common.{◌∙◌, subst, arith}
use Rattle.dp_spec.specs.JointNumbers.{parts_of}
use Rattle.dp_spec.specs.Model.{Model, joint_observations}
use Rattle.dp_spec.specs.PolicyTree.{IsPolicyOf, IsPolicyTree, PolicyTree, node, subtree, subtrees}
use Rattle.dp_spec.specs.Value.{subtrees_at, trees_after}
use Rattle.dp_spec.proofs.JointNumberLaws.{length-parts_of}
use Rattle.dp_laws.proofs.Trees.{subtree_fits, subtrees_fit}
use Rattle.dp_model.specs.Parts.{part_of}
use Rattle.dp_policy.specs.SharedRows.{remaining_after}
use Rattle.dp_policy.specs.Trees.{tree_count, tree_of}
use Rattle.dp_policy.proofs.JoinedTrees.{observations_counted}
use Rattle.dp_sim.specs.Acting.{HasActionAfter}
use Rattle.dp_sim.specs.Along.{trees_along}

-- ---- one tree

-- a tree of more steps than there are own observations has an action after them
pub has_action_after : (b n r : ℕ) (q : PolicyTree) (os : List ℕ) → length os < r
    → ((t : ℕ) → t < length os → get_or os t 0 < n) → IsPolicyTree b n r q → HasActionAfter q os
has_action_after b n r q [] short below is = tt
has_action_after b n zero q (o ∷ os) short below is = absurd (omega arith)
has_action_after b n (suc r) q (o ∷ os) short below is =
    let counted : tree_count (subtrees q) ≡ n = observations_counted b n (suc r) q (omega arith) is in
    let first : o < n = below 0 (omega arith) in (
      omega arith,
      has_action_after b n r (subtree q o) os (omega arith) (λ t lt. below (suc t) (omega arith))
          (subtree_fits b n r q o first is),
    )

-- and where it has one, there are fewer of them than steps, and each is an observation
pub history_within : (b n r : ℕ) (q : PolicyTree) (os : List ℕ) → 0 < r → IsPolicyTree b n r q → HasActionAfter q os
    → (length os < r) × ((t : ℕ) → t < length os → get_or os t 0 < n)
history_within b n r q [] some is has = (some, λ t lt. absurd (omega arith))
history_within b n zero q (o ∷ os) some is has = absurd (omega arith)
history_within b n (suc zero) (node a ks) (o ∷ os) some is has =
    let none : tree_count ks ≡ 0 = ap tree_count is.1 in absurd (omega (arith, none, has.0))
history_within b n (suc (suc r)) q (o ∷ os) some is has =
    let counted : tree_count (subtrees q) ≡ n = observations_counted b n (suc (suc r)) q (omega arith) is in
    let first : o < n = omega (arith, counted, has.0) in
    let rest = history_within b n (suc r) (subtree q o) os (omega arith)
    (subtree_fits b n (suc r) q o first is) has.1 in
    (omega (arith, rest.0), each first rest.1)
  where
    each : o < n → ((t : ℕ) → t < length os → get_or os t 0 < n) → (t : ℕ) → t < suc (length os)
        → get_or (o ∷ os) t 0 < n
    each first rest zero lt = first
    each first rest (suc t) lt = rest t (omega arith)

-- ---- all trees

-- what remains of the trees after one observation more
pub trees_along-append : (m : Model) (qs : List PolicyTree) (os : List ℕ) (o : ℕ)
    → trees_along m qs (os ++ o ∷ []) ≡ trees_after m (trees_along m qs os) o
trees_along-append m qs [] o = refl
trees_along-append m qs (p ∷ os) o = trees_along-append m (trees_after m qs p) os o

-- it is a joint policy over the steps that are left
pub along_fits : (m : Model) (r : ℕ) (qs : List PolicyTree) (os : List ℕ)
    → ((t : ℕ) → t < length os → get_or os t 0 < joint_observations m) → IsPolicyOf m (length os + r) qs
    → IsPolicyOf m r (trees_along m qs os)
unfolding joint_observations trees_after
along_fits m r qs [] below policy = subst (λ (k : ℕ). IsPolicyOf m k qs) (omega arith) policy
along_fits m r qs (o ∷ os) below policy =
    let more : suc (length os) + r ≡ suc (length os + r) = omega arith in
    along_fits m r (trees_after m qs o) os (λ t lt. below (suc t) (omega arith))
    (subtrees_fit o (below 0 (omega arith)) (subst (λ (k : ℕ). IsPolicyOf m k qs) more policy))

-- there are as many trees as before
subtrees_counted : (qs : List PolicyTree) (os : List ℕ) → length os ≡ length qs
    → length (subtrees_at qs os) ≡ length qs
subtrees_counted [] os e = refl
subtrees_counted (q ∷ qs) [] e = absurd (omega arith)
subtrees_counted (q ∷ qs) (o ∷ os) e = ap suc (subtrees_counted qs os (omega arith))

subtree_at : (qs : List PolicyTree) (os : List ℕ) (i : ℕ) → length os ≡ length qs → i < length qs
    → tree_of (subtrees_at qs os) i ≡ subtree (tree_of qs i) (get_or os i 0)
subtree_at [] os i e lt = absurd (omega arith)
subtree_at (q ∷ qs) [] i e lt = absurd (omega arith)
subtree_at (q ∷ qs) (o ∷ os) zero e lt = refl
subtree_at (q ∷ qs) (o ∷ os) (suc i) e lt = subtree_at qs os i (omega arith) (omega arith)

pub along_counted : (m : Model) (qs : List PolicyTree) (os : List ℕ) → length qs ≡ length m.observations
    → length (trees_along m qs os) ≡ length m.observations
unfolding trees_after
along_counted m qs [] alike = alike
along_counted m qs (o ∷ os) alike =
    let parts : length (parts_of m.observations o) ≡ length qs = length-parts_of m.observations o ∙ sym alike in
    along_counted m (trees_after m qs o) os (subtrees_counted qs (parts_of m.observations o) parts ∙ alike)

-- an agent's tree along joint observations is its tree along its own parts of them
pub tree_along : (m : Model) (qs : List PolicyTree) (os : List ℕ) (i : ℕ) → length qs ≡ length m.observations
    → i < length qs
    → tree_of (trees_along m qs os) i ≡ remaining_after (tree_of qs i) (map (λ o. part_of m.observations o i) os)
unfolding trees_after
tree_along m qs [] i alike lt = refl
tree_along m qs (o ∷ os) i alike lt =
    let parts : length (parts_of m.observations o) ≡ length qs = length-parts_of m.observations o ∙ sym alike in
    let counted = subtrees_counted qs (parts_of m.observations o) parts in
    tree_along m (trees_after m qs o) os i (counted ∙ alike) (omega arith)
    ∙ ap (λ (q : PolicyTree). remaining_after q (map (λ o. part_of m.observations o i) os))
    (subtree_at qs (parts_of m.observations o) i parts lt)
