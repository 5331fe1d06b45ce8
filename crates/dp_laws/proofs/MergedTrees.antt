-- The trees of all agents where the classes a < b of agent i were merged.
use Rattle.std.proofs.Common.{◌≡◌, ◌⊎◌, ℕ, zero, suc, ◌+◌, ◌<◌, List, [], ◌∷◌, length, get_or, refl, ap, ◌∙◌}
use Rattle.dp_laws.proofs.OwnHistories.{Within}
use Rattle.dp_laws.proofs.FollowedFronts.{trees_of}
use Rattle.dp_laws.proofs.MergedAgents.{joined_trees, replaced_trees, joined_trees-renumbered, grafted_tree}
use Rattle.dp_laws.proofs.MergedAgents.{grafted_tree_fits, merged_agent_follows, get_or-renumbered}
use Rattle.dp_spec.specs.Front.{AgentFront, Front, fixed_actions, fixed_joint_action, own_classes, own_histories}
use Rattle.dp_spec.specs.JointNumbers.{joint_number}
use Rattle.dp_laws.specs.Following.{FollowsAgentFronts}
use Rattle.dp_laws.specs.Following.FollowsAgentFronts.{and_agent, no_agents}
use Rattle.dp_spec.specs.Merge.{inserted, merged_agents, merged_front, without}
use Rattle.dp_spec.specs.Model.{Model}
use Rattle.dp_spec.specs.PolicyTree.IsJointPolicy.{and_agent as and_policy}
use Rattle.dp_spec.specs.PolicyTree.{IsJointPolicy, IsPolicyTree, PolicyTree, node, no_trees}
use Rattle.dp_spec.specs.Steps.{IsUnassigned}

-- the tree of class c of agent i
abbrev pub tree_for : ℕ → List (ℕ → PolicyTree) → ℕ → PolicyTree
tree_for i [] c = node 0 no_trees
tree_for zero (us ∷ uss) c = us c
tree_for (suc i) (us ∷ uss) c = tree_for i uss c

-- the trees of the merged classes for agent i, and the same trees for the others
abbrev pub joined_trees_of : ℕ → ℕ → ℕ → PolicyTree → List (ℕ → PolicyTree) → List (ℕ → PolicyTree)
joined_trees_of i a b y [] = []
joined_trees_of zero a b y (us ∷ uss) = joined_trees a b y us ∷ uss
joined_trees_of (suc i) a b y (us ∷ uss) = us ∷ joined_trees_of i a b y uss

-- the trees of a joint policy one by one
first_fits : {h b n : ℕ} {bs ns : List ℕ} {q : PolicyTree} {qs : List PolicyTree}
    → IsJointPolicy h (b ∷ bs) (n ∷ ns) (q ∷ qs) → IsPolicyTree b n h q × IsJointPolicy h bs ns qs
first_fits (and_policy fits more) = (fits, more)

-- Some trees follow the merged front, and where steps are left they are a joint policy if the old ones are.
pub merged_agents_follow : {f r : ℕ} {bs ns : List ℕ} {ds : List AgentFront} {qs : List PolicyTree}
    {uss : List (ℕ → PolicyTree)} → FollowsAgentFronts f r bs ns ds qs uss → (i a b : ℕ) → a < b
    → IsUnassigned i a ds
    → IsUnassigned i b ds → (y : PolicyTree) → (y ≡ tree_for i uss a) ⊎ (y ≡ tree_for i uss b) →
    (qs' : List PolicyTree) × FollowsAgentFronts f r bs ns (merged_agents i a b ds) qs'
    (joined_trees_of i a b y uss) × ((h : ℕ) → f + r ≡ h → 0 < r → IsJointPolicy h bs ns qs
    → IsJointPolicy h bs ns qs')
merged_agents_follow no_agents i a b lt free free' y is = absurd free
merged_agents_follow {f} {r} (and_agent {b = bb} {n = n} {d = d} {q = q} {qs = qs} {us = us} k ks)
    zero a b lt free free' y is = (
      grafted_tree n f d a b y q us ∷ qs,
      and_agent (merged_agent_follows bb n f r d q us k a b lt free'.0 free.1 y is) ks,
      λ h e some fits. let both = first_fits fits in and_policy
          (grafted_tree_fits bb n f r h d q us k a b lt free'.0 y
          is e some both.0) both.1,
    )
merged_agents_follow (and_agent {q = q} k ks) (suc i) a b lt free free' y is =
    let more = merged_agents_follow ks i a b lt free free' y is in (
      q ∷ more.0,
      and_agent k more.1,
      λ h e some fits. let both = first_fits fits in
          and_policy both.0 (more.2 h e some both.1),
    )

-- merging changes no fixed action
fixed_actions_merged : (i a b : ℕ) (ds : List AgentFront) (t : ℕ) (xs : List ℕ)
    → fixed_actions (merged_agents i a b ds) t xs ≡ fixed_actions ds t xs
fixed_actions_merged i a b [] t xs = refl
fixed_actions_merged zero a b (d ∷ ds) t [] = refl
fixed_actions_merged (suc i) a b (d ∷ ds) t [] = refl
fixed_actions_merged zero a b (d ∷ ds) t (x ∷ xs) = refl
fixed_actions_merged (suc i) a b (d ∷ ds) t (x ∷ xs) = ap (λ z. get_or (get_or d.fixed t []) x 0 ∷ z)
    (fixed_actions_merged i a b ds t xs)

-- and no joint one
pub fixed_joint_action_merged : (m : Model) (F : Front) (i a b : ℕ)
    → fixed_joint_action m (merged_front F i a b) ≡ fixed_joint_action m F
unfolding fixed_joint_action
fixed_joint_action_merged m F i a b = λ j H. joint_number m.actions
    (fixed_actions_merged i a b F.agents (length H) (own_histories m.observations H) j)

-- the trees of a joint class, by agent i and the others
pub trees_by_agent : {f r : ℕ} {bs ns : List ℕ} {ds : List AgentFront} {qs : List PolicyTree}
    {uss : List (ℕ → PolicyTree)} → FollowsAgentFronts f r bs ns ds qs uss → (i c : ℕ) → IsUnassigned i c ds
    → (xs : List ℕ) → Within ns f xs →
    trees_of uss (own_classes ds xs) ≡ inserted i (tree_for i uss (get_or (own_classes ds xs) i 0))
    (trees_of (without i uss) (without i (own_classes ds xs)))
trees_by_agent no_agents i c free xs h = absurd free
trees_by_agent (and_agent k ks) i c free [] h = absurd h
trees_by_agent (and_agent k ks) zero c free (x ∷ xs) h = refl
trees_by_agent (and_agent {d = d} {us = us} k ks) (suc i) c free (x ∷ xs) h = ap
    (λ z. us (get_or d.class_of x 0) ∷ z) (trees_by_agent ks i c free xs h.1)

-- the same after the merge
pub joined_trees_by_agent : {f r : ℕ} {bs ns : List ℕ} {ds : List AgentFront} {qs : List PolicyTree}
    {uss : List (ℕ → PolicyTree)} → FollowsAgentFronts f r bs ns ds qs uss → (i a b : ℕ) → a < b
    → IsUnassigned i b ds
    → (y : PolicyTree) (xs : List ℕ) → Within ns f xs →
    trees_of (joined_trees_of i a b y uss) (own_classes (merged_agents i a b ds) xs)
    ≡ inserted i (replaced_trees a b y (tree_for i uss) (get_or (own_classes ds xs) i 0))
    (trees_of (without i uss) (without i (own_classes ds xs)))
joined_trees_by_agent no_agents i a b lt free y xs h = absurd free
joined_trees_by_agent (and_agent k ks) i a b lt free y [] h = absurd h
joined_trees_by_agent (and_agent {d = d} {ds = ds} {us = us} {uss = uss} k ks) zero a b lt free y (x ∷ xs) h =
    ap (λ z. z ∷ trees_of uss (own_classes ds xs)) (ap (joined_trees a b y us)
    (get_or-renumbered a b d.class_of x lt) ∙ joined_trees-renumbered a b y us (get_or d.class_of x 0) lt)
joined_trees_by_agent (and_agent {d = d} {us = us} k ks) (suc i) a b lt free y (x ∷ xs) h = ap
    (λ z. us (get_or d.class_of x 0) ∷ z) (joined_trees_by_agent ks i a b lt free y xs h.1)
