-- A joint policy keeps a well-formed front exactly where it follows the front with some trees at its classes.
use Rattle.std.proofs.Common.{◌≡◌, inl, inr, ℕ, zero, suc, ◌+◌, ◌*◌, ◌/◌, ◌%◌, ◌^◌, ◌<◌, true, false, cond, eqb, List}
use Rattle.std.proofs.Common.{[], ◌∷◌, length, get_or, None, sym, ap, ◌∙◌, subst, arith}
use Rattle.std.proofs.lemmas.Bool.Decides.{nat_tests}
use Rattle.std.proofs.lemmas.Nat.{mod_below}
use Rattle.std.proofs.Math.Nat.{pow-suc}
use Rattle.dp_base.proofs.Order.{last_or_before}
use Rattle.dp_laws.proofs.Trees.{subtree_fits}
use Rattle.dp_laws.specs.Following.{FollowsAgentFront, FollowsAgentFronts}
use Rattle.dp_laws.specs.Following.FollowsAgentFronts.{and_agent as and_follows, no_agents as none_follow}
use Rattle.dp_spec.specs.Front.{AgentFront, Front}
use Rattle.dp_spec.specs.Keeping.{KeepAgentFronts, KeepsAgentFront, KeepsFront, tree_at}
use Rattle.dp_spec.specs.Keeping.KeepAgentFronts.{and_agent as and_keeps, no_agents as none_keep}
use Rattle.dp_spec.specs.Model.{Model}
use Rattle.dp_spec.specs.PolicyTree.{IsJointPolicy, IsPolicyOf, IsPolicyTree, PolicyTree, root_action}
use Rattle.dp_spec.specs.PolicyTree.IsJointPolicy.{and_agent as and_policy, no_agents as no_policies}
use Rattle.dp_spec.specs.WellFormed.{AreAgentFronts, IsAgentFront, IsFront}
use Rattle.dp_spec.specs.WellFormed.AreAgentFronts.{and_agent as and_front, no_agents as no_fronts}
use Rattle.dp_spec.proofs.JointNumberLaws.{part_below, positive_right}
use Rattle.std.proofs.lemmas.Bool.{cases_eq}

-- what remains of a tree of k steps after an own history of length t is a tree of the other r steps
pub tree_at_fits : (b n : ℕ) (q : PolicyTree) (t r k x : ℕ) → t + r ≡ k → x < n ^ t → IsPolicyTree b n k q
    → IsPolicyTree b n r (tree_at n q t x)
tree_at_fits b n q zero r k x e h is = let e' : k ≡ r = omega arith in
    subst (λ (z : ℕ). IsPolicyTree b n z q) e' is
tree_at_fits b n q (suc t) r k x e h is =
    let h' : x < n ^ t * n = rw pow-suc at h in
    subtree_fits b n r (tree_at n q t (x / n)) (x % n) (mod_below x n (positive_right (n ^ t) n x h'))
    (tree_at_fits b n q t (suc r) k (x / n) (omega arith) (part_below (n ^ t) n x h') is)

-- the last number below k that is of class c
abbrev pub last_member : (ℕ → ℕ) → ℕ → ℕ → ℕ
last_member class c zero = 0
last_member class c (suc k) = cond (eqb (class k) c) k (last_member class c k)

-- where there is one
pub last_member_is : (class : ℕ → ℕ) (c k x : ℕ) → x < k → class x ≡ c
    → (last_member class c k < k) × (class (last_member class c k) ≡ c)
last_member_is class c zero x h e = absurd (omega arith)
last_member_is class c (suc k) x h e =
    elim (cases_eq (class k) c) [
      | inl same ↦ let t : eqb (class k) c ≡ true = grind (arith, nat_tests) in rw t (omega arith, same)
      | inr other ↦ let t : eqb (class k) c ≡ false = grind (arith, nat_tests) in
          elim (last_or_before x k h) [
            | inl last ↦ absurd (other (ap class (sym last) ∙ e))
            | inr below ↦ let rest = last_member_is class c k x below e in rw t (omega (arith, rest.0), rest.1)
          ]
    ]

-- a tree that keeps an agent's part of a front follows it with what remains of the tree after the last history of
-- each class
follows_agent : (b n f r h : ℕ) (d : AgentFront) (q : PolicyTree) → f + r ≡ h → IsAgentFront b n f d
    → IsPolicyTree b n h q → KeepsAgentFront n f d q → (us : ℕ → PolicyTree) × FollowsAgentFront b n f r d q us
follows_agent b n f r h d q e front tree keeps =
    let class : ℕ → ℕ = λ x. get_or d.class_of x 0 in
    let last : (c : ℕ) → c < length d.chosen → (last_member class c (n ^ f) < n ^ f)
    × (class (last_member class c (n ^ f)) ≡ c) =
    λ c p. let some = front.member c p in last_member_is class c (n ^ f) some.0 some.1 some.2 in (
      λ c. tree_at n q f (last_member class c (n ^ f)),
      record {
        does_fixed = keeps.does_fixed;
        remains = λ x p. let l = last (class x) (front.class_below x p) in keeps.alike x _ p l.0 (sym l.1);
        does_chosen = λ c a p s. let l = last c p in keeps.does_chosen _ a l.0
            (ap (λ (z : ℕ). get_or d.chosen z None) l.1 ∙ s);
        are_trees = λ c p. tree_at_fits b n q f r h _ e (last c p).0 tree;
        in_range = front.class_below;
        of_stage = front.of_stage;
      },
    )

keeps_agent : (b n f r : ℕ) (d : AgentFront) (q : PolicyTree) (us : ℕ → PolicyTree)
    → FollowsAgentFront b n f r d q us
    → KeepsAgentFront n f d q
keeps_agent b n f r d q us follows = record {
  does_fixed = follows.does_fixed;
  alike = λ x y p s e. follows.remains x p ∙ ap us e ∙ sym (follows.remains y s);
  does_chosen = λ x a p e. ap root_action (follows.remains x p)
      ∙ follows.does_chosen _ a (follows.in_range x p) e;
}

-- the same for all agents
pub follow_agents : {f h : ℕ} {bs ns : List ℕ} {ds : List AgentFront} {qs : List PolicyTree} (r : ℕ) → f + r ≡ h
    → AreAgentFronts f bs ns ds → IsJointPolicy h bs ns qs → KeepAgentFronts f ns ds qs
    → (uss : List (ℕ → PolicyTree)) × FollowsAgentFronts f r bs ns ds qs uss
follow_agents r e no_fronts no_policies none_keep = ([], none_follow)
follow_agents {f} {h} r e (and_front {b = b} {n = n} {d = d} front fronts) (and_policy {q = q} tree trees)
    (and_keeps keeps all_keep) =
    let first = follows_agent b n f r h d q e front tree keeps in
    let rest = follow_agents r e fronts trees all_keep in (first.0 ∷ rest.0, and_follows first.1 rest.1)

pub keep_agents : {f r : ℕ} {bs ns : List ℕ} {ds : List AgentFront} {qs : List PolicyTree}
    {uss : List (ℕ → PolicyTree)} → FollowsAgentFronts f r bs ns ds qs uss → KeepAgentFronts f ns ds qs
keep_agents none_follow = none_keep
keep_agents (and_follows follows rest) = and_keeps (keeps_agent _ _ _ _ _ _ _ follows) (keep_agents rest)

-- a joint policy that keeps a well-formed front follows it with some trees at its classes
pub follows_of_keeps : (m : Model) (h r : ℕ) (F : Front) (qs : List PolicyTree) → F.stage + r ≡ h
    → IsFront m h F
    → IsPolicyOf m h qs → KeepsFront m F qs
    → (uss : List (ℕ → PolicyTree)) × FollowsAgentFronts F.stage r m.actions m.observations F.agents qs uss
follows_of_keeps m h r F qs e front policy keeps = follow_agents r e front.agents policy keeps

-- a joint policy that follows a front with any trees at its classes keeps the front
pub keeps_of_follows : (m : Model) (r : ℕ) (F : Front) (qs : List PolicyTree) (uss : List (ℕ → PolicyTree))
    → FollowsAgentFronts F.stage r m.actions m.observations F.agents qs uss → KeepsFront m F qs
keeps_of_follows m r F qs uss follows = keep_agents follows
