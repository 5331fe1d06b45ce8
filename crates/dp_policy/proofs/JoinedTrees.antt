-- Trees that are tested, agent by agent, and what is kept of a joint policy.
use Rattle.std.proofs.Common.{◌≡◌, ℕ, zero, suc, ◌+◌, ◌^◌, ◌<◌, ◌≤◌, List, ◌∷◌, length, get_or, drop, refl, sym, ap}
use Rattle.std.proofs.Common.{◌∙◌, subst, arith}
use Rattle.std.specs.Prelude.{◌↔◌}
use Rattle.std.proofs.Math.Seq.{drop-cons}
use Rattle.dp_spec.specs.Model.{IsModel, Model, joint_actions}
use Rattle.dp_spec.specs.PolicyTree.{IsJointPolicy, IsPolicyOf, IsPolicyTree, ArePolicyTrees, PolicyTree, PolicyTrees}
use Rattle.dp_spec.specs.PolicyTree.{node, no_trees, more_trees, subtree, subtrees}
use Rattle.dp_spec.specs.PolicyTree.IsJointPolicy.{and_agent, no_agents}
use Rattle.dp_laws.proofs.Trees.{subtree_fits}
use Rattle.dp_policy.specs.SharedRows.{remaining_after}
use Rattle.dp_policy.specs.Trees.{AreKeptTrees, tree_count, tree_of}
use Rattle.dp_policy.proofs.JoinedRows.{size_most}
use Rattle.dp_policy.proofs.Lists.{drop_all, iff_trans}

pub trees_alike : {h : ℕ} {bs ns : List ℕ} {qs : List PolicyTree} → IsJointPolicy h bs ns qs
    → length qs ≡ length bs
trees_alike no_agents = refl
trees_alike (and_agent one others) = let e = trees_alike others in omega arith

heads : {h b n : ℕ} {bs ns : List ℕ} {q : PolicyTree} {qs : List PolicyTree}
    → IsJointPolicy h (b ∷ bs) (n ∷ ns) (q ∷ qs)
    → IsPolicyTree b n h q × IsJointPolicy h bs ns qs
heads (and_agent one others) = (one, others)

-- the tree of an agent
pub tree_of_agent : {h : ℕ} {bs ns : List ℕ} {qs : List PolicyTree} → IsJointPolicy h bs ns qs → (i : ℕ)
    → i < length qs
    → IsPolicyTree (get_or bs i 0) (get_or ns i 0) h (tree_of qs i)
tree_of_agent no_agents i lt = absurd (omega arith)
tree_of_agent (and_agent one others) zero lt = one
tree_of_agent (and_agent one others) (suc i) lt = tree_of_agent others i (omega arith)

module _ (h : ℕ) (bs ns : List ℕ) (qs : List PolicyTree) (i : ℕ) (lb : i < length bs) (ln : i < length ns)
    (lq : i < length qs) (so_far : IsJointPolicy h bs ns qs ↔ IsJointPolicy h (drop i bs) (drop i ns)
    (drop i qs))
  where
    -- one agent more has a tree
    pub tree_step : IsPolicyTree (get_or bs i 0) (get_or ns i 0) h (tree_of qs i)
        → IsJointPolicy h bs ns qs ↔ IsJointPolicy h (drop (suc i) bs) (drop (suc i) ns) (drop (suc i) qs)
    tree_step one =
        let d : PolicyTree = node 0 no_trees in
        let parts : IsJointPolicy h (drop i bs) (drop i ns) (drop i qs) ↔ IsJointPolicy h (drop (suc i) bs)
        (drop (suc i) ns) (drop (suc i) qs) =
        subst (λ (xs : List ℕ). IsJointPolicy h xs (drop i ns) (drop i qs) ↔ IsJointPolicy h (drop (suc i) bs)
        (drop (suc i) ns) (drop (suc i) qs)) (sym (drop-cons bs i 0 lb))
        (subst (λ (ys : List ℕ). IsJointPolicy h (get_or bs i 0 ∷ drop (suc i) bs) ys (drop i qs)
        ↔ IsJointPolicy h
        (drop (suc i) bs) (drop (suc i) ns) (drop (suc i) qs)) (sym (drop-cons ns i 0 ln))
        (subst (λ (ps : List PolicyTree). IsJointPolicy h (get_or bs i 0 ∷ drop (suc i) bs)
        (get_or ns i 0 ∷ drop (suc i) ns) ps ↔ IsJointPolicy h (drop (suc i) bs) (drop (suc i) ns)
        (drop (suc i) qs))
        (sym (drop-cons qs i d lq))
        (λ all. (heads all).1, λ rest. and_agent one rest))) in
        iff_trans so_far parts

-- an agent has not
pub tree_fails : (h : ℕ) (bs ns : List ℕ) (qs : List PolicyTree) (i : ℕ) → i < length qs
    → (IsPolicyTree (get_or bs i 0) (get_or ns i 0) h (tree_of qs i) → ⊥) → IsJointPolicy h bs ns qs → ⊥
tree_fails h bs ns qs i lt none all = none (tree_of_agent all i lt)

-- with all agents passed
pub trees_end : (h : ℕ) (bs ns : List ℕ) (qs : List PolicyTree) (i : ℕ) → length bs ≤ i → length ns ≤ i
    → length qs ≤ i
    → IsJointPolicy h bs ns qs ↔ IsJointPolicy h (drop i bs) (drop i ns) (drop i qs) → IsJointPolicy h bs ns qs
trees_end h bs ns qs i lb ln lq so_far =
    so_far.1 (rw (drop_all bs i lb, drop_all ns i ln, drop_all qs i lq) no_agents)

-- ---- what is kept

mutual
  -- a tree over some actions is one over more
  pub more_actions : (b c n r : ℕ) (q : PolicyTree) → b ≤ c → IsPolicyTree b n r q → IsPolicyTree c n r q
  more_actions b c n zero q le is = tt
  more_actions b c n (suc zero) (node a ks) le is = (omega (arith, is.0), is.1)
  more_actions b c n (suc (suc r)) (node a ks) le is =
      (omega (arith, is.0), all_more_actions b c n (suc r) n ks le is.1)

  all_more_actions : (b c n r k : ℕ) (ks : PolicyTrees) → b ≤ c → ArePolicyTrees b n r k ks
      → ArePolicyTrees c n r k ks
  all_more_actions b c n r zero no_trees le is = tt
  all_more_actions b c n r zero (more_trees q ks) le is = absurd is
  all_more_actions b c n r (suc k) no_trees le is = absurd is
  all_more_actions b c n r (suc k) (more_trees q ks) le is =
      (more_actions b c n r q le is.0, all_more_actions b c n r k ks le is.1)

pub counted_trees : (b n r k : ℕ) (ks : PolicyTrees) → ArePolicyTrees b n r k ks → tree_count ks ≡ k
counted_trees b n r zero no_trees is = refl
counted_trees b n r zero (more_trees q ks) is = absurd is
counted_trees b n r (suc k) no_trees is = absurd is
counted_trees b n r (suc k) (more_trees q ks) is = ap suc (counted_trees b n r k ks is.1)

-- a tree goes on everywhere as its root does
pub as_root : (b n r : ℕ) (q : PolicyTree) → IsPolicyTree b n r q → IsPolicyTree b (tree_count (subtrees q)) r q
as_root b n zero q is = tt
as_root b n (suc zero) (node a ks) is = is
as_root b n (suc (suc r)) (node a ks) is =
    let e = counted_trees b n (suc r) n ks is.1 in
    subst (λ (k : ℕ). IsPolicyTree b k (suc (suc r)) (node a ks)) (sym e) is

-- an agent has few actions
pub few_actions : (m : Model) → IsModel m → (i : ℕ) → get_or m.actions i 0 ≤ 256
unfolding joint_actions
few_actions m is i = size_most m.actions i is.sizes.some_action is.sizes.joint_actions_limit

-- what is kept of a joint policy of a model
pub kept_trees : (m : Model) → IsModel m → (h : ℕ) → 0 < h → h ≤ 24 → (qs : List PolicyTree) → IsPolicyOf m h qs
    → AreKeptTrees h qs
kept_trees m is h some limit qs policy = record {
  some_step = some;
  horizon = limit;
  agents = let e = trees_alike policy in let few = is.sizes.agents_limit in omega arith;
  whole = λ i lt.
      let few = few_actions m is i in
      let one = tree_of_agent policy i lt in
      as_root (2 ^ 32) (get_or m.observations i 0) h (tree_of qs i)
      (more_actions (get_or m.actions i 0) (2 ^ 32) (get_or m.observations i 0) h (tree_of qs i)
      (omega arith) one);
}

-- ---- own observations that are followed

-- a node before the last step has a tree for each observation
pub observations_counted : (b n r : ℕ) (q : PolicyTree) → 1 < r → IsPolicyTree b n r q
    → tree_count (subtrees q) ≡ n
observations_counted b n zero q lt is = absurd (omega arith)
observations_counted b n (suc zero) q lt is = absurd (omega arith)
observations_counted b n (suc (suc r)) (node a ks) lt is = counted_trees b n (suc r) n ks is.1

pub next_whole : (b n r s : ℕ) (q : PolicyTree) (o : ℕ) → s + 1 ≡ r → o < n → IsPolicyTree b n r q
    → IsPolicyTree b n s (subtree q o)
next_whole b n zero s q o e lt is = absurd (omega arith)
next_whole b n (suc r) s q o e lt is =
    let same : r ≡ s = omega arith in
    subst (λ (k : ℕ). IsPolicyTree b n k (subtree q o)) same (subtree_fits b n r q o lt is)

-- one observation more
pub followed_step : (H : List ℕ) (p q k : PolicyTree) (t : ℕ) → t < length H → p ≡ remaining_after q (drop t H)
    → k ≡ subtree q (get_or H t 0) → p ≡ remaining_after k (drop (suc t) H)
followed_step H p q k t lt so_far next =
    so_far ∙ ap (remaining_after q) (drop-cons H t 0 lt)
    ∙ ap (λ (x : PolicyTree). remaining_after x (drop (suc t) H)) (sym next)

-- with all observations followed
pub followed_end : (H : List ℕ) (p q : PolicyTree) (t : ℕ) → length H ≤ t → p ≡ remaining_after q (drop t H)
    → q ≡ p
followed_end H p q t le so_far = sym (so_far ∙ ap (remaining_after q) (drop_all H t le))
