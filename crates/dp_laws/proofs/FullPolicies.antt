-- A full front is kept by exactly one joint policy.
use Rattle.std.proofs.Common.{◌≡◌, ℕ, ◌<◌, List, [], get_or, None, refl, sym, ◌∙◌, subst, arith}
use Rattle.dp_laws.proofs.TreeActions.{does-tree_doing, equal_by_actions, tree_at-tree_doing, tree_of_actions}
use Rattle.dp_spec.specs.Front.{AgentFront, Front}
use Rattle.dp_spec.specs.FullPolicy.{full_policy, tree_doing, trees_doing_fixed}
use Rattle.dp_spec.specs.Keeping.{KeepAgentFronts, KeepsAgentFront, KeepsFront}
use Rattle.dp_spec.specs.Keeping.KeepAgentFronts.{and_agent as and_keeps, no_agents as none_keep}
use Rattle.dp_spec.specs.Model.{Model}
use Rattle.dp_spec.specs.PolicyTree.{IsJointPolicy, IsPolicyOf, IsPolicyTree, PolicyTree}
use Rattle.dp_spec.specs.PolicyTree.IsJointPolicy.{and_agent as and_policy, no_agents as no_policies}
use Rattle.dp_spec.specs.WellFormed.{AreAgentFronts, IsAgentFront, IsFront, NoneChosen}
use Rattle.dp_spec.specs.WellFormed.AreAgentFronts.{and_agent as and_front, no_agents as no_fronts}

-- the action that is fixed after an own history
abbrev fixed_at : AgentFront → ℕ → ℕ → ℕ
fixed_at d t x = get_or (get_or d.fixed t []) x 0

full_tree : (b n f : ℕ) (d : AgentFront) → IsAgentFront b n f d
    → IsPolicyTree b n f (tree_doing n (fixed_at d) f)
full_tree b n f d front = (tree_of_actions b n f (fixed_at d) front.fixed_below).0

full_tree_keeps : (n f : ℕ) (d : AgentFront) → ((c : ℕ) → get_or d.chosen c None ≡ None)
    → KeepsAgentFront n f d (tree_doing n (fixed_at d) f)
full_tree_keeps n f d none = record {
  does_fixed = does-tree_doing n (fixed_at d) f;
  alike = λ x y p s e. tree_at-tree_doing n (fixed_at d) f 0 f x (omega arith) p
      ∙ sym (tree_at-tree_doing n (fixed_at d) f 0 f y (omega arith) s);
  does_chosen = λ x a p e. let nothing = none (get_or d.class_of x 0) in cc;
}

full_trees : {f : ℕ} {bs ns : List ℕ} {ds : List AgentFront} → AreAgentFronts f bs ns ds
    → IsJointPolicy f bs ns (trees_doing_fixed f ns ds)
full_trees no_fronts = no_policies
full_trees {f} (and_front {b = b} {n = n} {d = d} front fronts) = and_policy (full_tree b n f d front)
    (full_trees fronts)

full_trees_keep : {f : ℕ} {bs ns : List ℕ} {ds : List AgentFront} → AreAgentFronts f bs ns ds → NoneChosen ds
    → KeepAgentFronts f ns ds (trees_doing_fixed f ns ds)
full_trees_keep no_fronts none = none_keep
full_trees_keep {f} (and_front {n = n} {d = d} front fronts) none = and_keeps (full_tree_keeps n f d none.0)
    (full_trees_keep fronts none.1)

-- the policy that a full front fixes is a joint policy and keeps the front
pub full_policy_keeps : (m : Model) (h : ℕ) (F : Front) → IsFront m h F → F.stage ≡ h
    → IsPolicyOf m h (full_policy m F) × KeepsFront m F (full_policy m F)
unfolding full_policy
full_policy_keeps m h F front e = (
  subst (λ (f : ℕ). IsPolicyOf m f (trees_doing_fixed F.stage m.observations F.agents)) e
      (full_trees front.agents),
  full_trees_keep front.agents (front.none_at_end e),
)

equal_policies : {h : ℕ} {bs ns : List ℕ} {ds : List AgentFront} {ps qs : List PolicyTree} → 0 < h
    → IsJointPolicy h bs ns ps → IsJointPolicy h bs ns qs → KeepAgentFronts h ns ds ps
    → KeepAgentFronts h ns ds qs
    → ps ≡ qs
equal_policies some no_policies no_policies none_keep none_keep = refl
equal_policies {h} some (and_policy {b = b} {n = n} {q = p} {qs = ps} tp tps)
    (and_policy {q = q} {qs = qs} tq tqs)
    (and_keeps kp kps) (and_keeps kq kqs) =
    let first : p ≡ q = equal_by_actions b n h p q some tp tq
    (λ t x u v. kp.does_fixed t x u v ∙ sym (kq.does_fixed t x u v)) in
    let rest : ps ≡ qs = equal_policies some tps tqs kps kqs in cc

-- two joint policies that keep a full front are equal
pub full_front_keepers_equal : (m : Model) (h : ℕ) (F : Front) (ps qs : List PolicyTree) → 0 < h → F.stage ≡ h
    → IsPolicyOf m h ps → IsPolicyOf m h qs → KeepsFront m F ps → KeepsFront m F qs → ps ≡ qs
full_front_keepers_equal m h F ps qs some e pp pq kp kq =
    equal_policies some pp pq (subst (λ (f : ℕ). KeepAgentFronts f m.observations F.agents ps) e kp)
    (subst (λ (f : ℕ). KeepAgentFronts f m.observations F.agents qs) e kq)
