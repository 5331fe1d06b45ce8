-- The recursion along the trees of a joint policy: what it asks, and what it has earned.
use Rattle.std.proofs.Common.{◌≡◌, ℕ, zero, suc, ◌+◌, ◌^◌, ◌<◌, ◌≤◌, List, [], ◌∷◌, Bor, length, take, refl, sym, ap}
use Rattle.std.proofs.Common.{◌∙◌, subst, arith}
use Rattle.dp_spec.specs.declared.span.Span.{Span}
use Rattle.dp_spec.specs.Arithmetic.{Arithmetic, span_add}
use Rattle.dp_spec.specs.Calls.{Calls, size}
use Rattle.dp_spec.specs.Model.{IsModel, Model, joint_observations, obs_at, reward_at, start_at, trans_at}
use Rattle.dp_spec.specs.PolicyTree.{IsPolicyOf, PolicyTree}
use Rattle.dp_spec.specs.Quantities.{forward_worth_in, recursive_worth_in, span_sum, weighted_reward_in}
use Rattle.dp_spec.specs.Quantities.{weights_after_in}
use Rattle.dp_spec.specs.SizesOfEarnings.{worth_size}
use Rattle.dp_spec.specs.Value.{joint_root_action, trees_after}
use Rattle.dp_spec.specs.Zeros.{KeepsZero, nothing}
use Rattle.dp_base.proofs.NaturalSumLaws.{nat_sum_le, nat_sum_part}
use Rattle.std.proofs.lemmas.List.{length-map}
use Rattle.dp_laws.proofs.Recursion.{recursive_worth_is_forward}
use Rattle.dp_laws.proofs.SizeSums.{reward_size_le, span_sum_size, worth_size_le}
use Rattle.dp_laws.proofs.SpanSums.{span_add_assoc, span_add_none, span_sum_ext, span_sum_none}
use Rattle.dp_laws.proofs.Trees.{subtrees_fit}
use Rattle.dp_policy.specs.declared.tree.PTree.{PTree}
use Rattle.dp_policy.specs.TreeValue.{policy_tree}
use Rattle.dp_policy.specs.Trees.{HorizonTrees, joint_policy}
use Rattle.dp_policy.proofs.JoinedTrees.{trees_alike}
use Rattle.dp_value.specs.JointTrees.{IsEvaluable, first_trees}
use Rattle.dp_value.specs.Rewards.{IsRewardable}
use Rattle.dp_value.specs.WeightUpdates.{AreUpdatable, weights_of}
use Rattle.dp_value.proofs.JointTreeLists.{root_below}
use Rattle.dp_value.proofs.RowUpdates.{rewarded_alike, size_add, updated_alike, weights_alike}

-- ---- weights that are alike for each state, and weights that are 0

pub taken_at : (xs : List Span) (n s : ℕ) → s < n → weights_of (take n xs) s ≡ weights_of xs s
taken_at [] zero s lt = absurd (omega arith)
taken_at [] (suc n) s lt = refl
taken_at (x ∷ xs) zero s lt = absurd (omega arith)
taken_at (x ∷ xs) (suc n) zero lt = refl
taken_at (x ∷ xs) (suc n) (suc s) lt = taken_at xs n s (omega arith)

pub recursion_alike : (A : Arithmetic) (m : Model) (r : ℕ) (v w : ℕ → Span) (qs : List PolicyTree)
    → ((s : ℕ) → s < m.states → v s ≡ w s)
    → recursive_worth_in A m r v qs ≡ recursive_worth_in A m r w qs
recursion_alike A m zero v w qs alike = refl
recursion_alike A m (suc r) v w qs alike =
    let a = joint_root_action m qs in
    let reward = rewarded_alike A m r v w a alike in
    let after = span_sum_ext (joint_observations m)
    (λ o. recursive_worth_in A m r (weights_after_in A m v a o) (trees_after m qs o))
    (λ o. recursive_worth_in A m r (weights_after_in A m w a o) (trees_after m qs o))
    (λ o lo. recursion_alike A m r (weights_after_in A m v a o) (weights_after_in A m w a o)
    (trees_after m qs o)
    (λ s ls. updated_alike A m v w a o s alike)) in
    (λ i. span_add (reward i) (after i))

none_rewarded : (A : Arithmetic) → KeepsZero A → (m : Model) (r : ℕ) (w : ℕ → Span) (a : ℕ)
    → ((s : ℕ) → s < m.states → w s ≡ nothing)
    → weighted_reward_in A m r w a ≡ nothing
unfolding weighted_reward_in
none_rewarded A z m r w a none =
    span_sum_none m.states _ (λ s ls. span_sum_none m.states _
    (λ t lt. span_sum_none (joint_observations m) _ (λ o lo.
    ap (λ (x : Span). A.gain (A.chance x (trans_at m a s t) (obs_at m a t o)) (reward_at m a s t o) r)
    (none s ls)
    ∙ ap (λ (x : Span). A.gain x (reward_at m a s t o) r) (z.no_weight (trans_at m a s t) (obs_at m a t o))
    ∙ z.gain (reward_at m a s t o) r)))

none_updated : (A : Arithmetic) → KeepsZero A → (m : Model) (w : ℕ → Span) (a o t : ℕ)
    → ((s : ℕ) → s < m.states → w s ≡ nothing)
    → weights_after_in A m w a o t ≡ nothing
unfolding weights_after_in
none_updated A z m w a o t none =
    span_sum_none m.states _ (λ s ls.
    ap (λ (x : Span). A.later (A.chance x (trans_at m a s t) (obs_at m a t o))) (none s ls)
    ∙ ap A.later (z.no_weight (trans_at m a s t) (obs_at m a t o)) ∙ z.later)

-- from weights of 0 nothing is earned
pub none_earned : (A : Arithmetic) → KeepsZero A → (m : Model) (r : ℕ) (w : ℕ → Span) (qs : List PolicyTree)
    → ((s : ℕ) → s < m.states → w s ≡ nothing) → recursive_worth_in A m r w qs ≡ nothing
none_earned A z m zero w qs none = refl
none_earned A z m (suc r) w qs none =
    let a = joint_root_action m qs in
    let reward = none_rewarded A z m r w a none in
    let after = span_sum_none (joint_observations m)
    (λ o. recursive_worth_in A m r (weights_after_in A m w a o) (trees_after m qs o))
    (λ o lo. none_earned A z m r (weights_after_in A m w a o) (trees_after m qs o)
    (λ s ls. none_updated A z m w a o s none)) in
    (λ i. span_add (reward i) (after i)) ∙ span_add_none nothing

-- ---- what is earned

-- from joint observation o on
abbrev pub after_part : Arithmetic → Model → ℕ → (ℕ → Span) → List PolicyTree → ℕ → Span
after_part A m r ws qs o = recursive_worth_in A m r (weights_after_in A m ws (joint_root_action m qs) o)
    (trees_after m qs o)

-- now, and from the first k joint observations on
abbrev pub earned_after : Arithmetic → Model → ℕ → (ℕ → Span) → List PolicyTree → ℕ → Span
earned_after A m r ws qs k = span_add (weighted_reward_in A m r ws (joint_root_action m qs))
    (span_sum k (after_part A m r ws qs))

module _ (A : Arithmetic) (m : Model) (r : ℕ) (ws : ℕ → Span) (qs : List PolicyTree) where
  -- at first only what is earned now
  pub earned_first : earned_after A m r ws qs 0 ≡ weighted_reward_in A m r ws (joint_root_action m qs)
  earned_first = span_add_none _

  -- one joint observation more
  pub earned_step : (k : ℕ) (total part : Span) → total ≡ earned_after A m r ws qs k
      → part ≡ after_part A m r ws qs k
      → span_add total part ≡ earned_after A m r ws qs (suc k)
  earned_step k total part so_far here =
      (λ i. span_add (so_far i) (here i))
      ∙ span_add_assoc (weighted_reward_in A m r ws (joint_root_action m qs))
      (span_sum k (after_part A m r ws qs))
      (after_part A m r ws qs k)

  pub skipped_step : (k : ℕ) (total : Span) → total ≡ earned_after A m r ws qs k
      → after_part A m r ws qs k ≡ nothing
      → total ≡ earned_after A m r ws qs (suc k)
  skipped_step k total so_far none = sym (span_add_none total) ∙ earned_step k total nothing so_far (sym none)

  -- at the last step nothing is earned after it
  pub earned_last : r ≡ 0 → (total : Span) → total ≡ weighted_reward_in A m r ws (joint_root_action m qs)
      → total ≡ recursive_worth_in A m (suc r) ws qs
  earned_last e total is =
      let none = span_sum_none (joint_observations m) (after_part A m r ws qs)
      (λ o lo. ap (λ (k : ℕ). recursive_worth_in A m k (weights_after_in A m ws (joint_root_action m qs) o)
      (trees_after m qs o)) e) in
      is ∙ sym (span_add_none _) ∙ ap (span_add (weighted_reward_in A m r ws (joint_root_action m qs)))
      (sym none)

  pub earned_all : (k : ℕ) (total : Span) → total ≡ earned_after A m r ws qs k → k ≡ joint_observations m
      → total ≡ recursive_worth_in A m (suc r) ws qs
  earned_all k total is all = is ∙ ap (earned_after A m r ws qs) all

-- ---- what the recursion asks

module _ (A : Arithmetic) (C : Calls) (m : Model) (r : ℕ) (ws : ℕ → Span) (qs : List PolicyTree)
    (is : IsEvaluable A C m (suc r) ws qs) where
  module _ (v : ℕ → Span) (alike : (s : ℕ) → s < m.states → v s ≡ ws s) where
    pub now_rewardable : IsRewardable A C m r v
    now_rewardable = record {
      horizon = is.horizon;
      update = is.update;
      can = is.reward;
      time = is.time;
      left = is.left;
      weights = weights_alike A.is_exact m is.time v ws alike is.weights;
    }

    pub now_updatable : AreUpdatable A C m v
    now_updatable = record {
      horizon = is.horizon;
      can = is.update;
      time = is.time;
      early = let left = is.left in omega arith;
      weights = weights_alike A.is_exact m is.time v ws alike is.weights;
    }

  -- a sum that is formed
  pub earned_room : (k : ℕ) → k ≤ joint_observations m → size (earned_after A m r ws qs k) < 2 ^ 127
  earned_room k le =
      let O = joint_observations m in
      let a = joint_root_action m qs in
      let whole = is.evaluate.add is.time (suc r) ws qs is.left is.weights is.policy in
      let f = λ (o : ℕ). worth_size A m r (weights_after_in A m ws a o) (trees_after m qs o) in
      let now = reward_size_le A m r ws a in
      let sum = span_sum_size k (after_part A m r ws qs) in
      let parts = nat_sum_le k (λ o. size (after_part A m r ws qs o)) f
      (λ o lo. worth_size_le A m r (weights_after_in A m ws a o) (trees_after m qs o)) in
      let most = nat_sum_part k O f le in
      let both = size_add (weighted_reward_in A m r ws a) (span_sum k (after_part A m r ws qs)) in
      omega arith

  -- the same at the next time
  pub next_evaluable : (s o : ℕ) → suc s ≡ r → o < joint_observations m → (v : ℕ → Span)
      → ((t : ℕ) → t < m.states → v t ≡ weights_after_in A m ws (joint_root_action m qs) o t)
      → IsEvaluable A C m (suc s) v (trees_after m qs o)
  unfolding trees_after joint_observations
  next_evaluable s o e lo v alike =
      let left = is.left in
      record {
        model = is.model;
        zeros = is.zeros;
        horizon = is.horizon;
        update = is.update;
        reward = is.reward;
        evaluate = is.evaluate;
        time = suc is.time;
        left = omega arith;
        weights = weights_alike A.is_exact m (suc is.time) v
            (weights_after_in A m ws (joint_root_action m qs) o) alike
            (is.update.updated is.time ws (joint_root_action m qs) o (omega arith) is.weights
            (root_below m r qs is.policy) lo);
        policy = subst (λ (k : ℕ). IsPolicyOf m k (trees_after m qs o)) (sym e) (subtrees_fit o lo is.policy);
      }

-- ---- from the start

-- the same with weights that are alike, of trees and steps that are the same
pub same_evaluable : (A : Arithmetic) (C : Calls) (m : Model) (h k : ℕ) (ws v : ℕ → Span)
    (qs ps : List PolicyTree)
    → IsEvaluable A C m h ws qs
    → ((s : ℕ) → s < m.states → v s ≡ ws s) → h ≡ k → qs ≡ ps → IsEvaluable A C m k v ps
same_evaluable A C m h k ws v qs ps is alike steps trees = record {
  model = is.model;
  zeros = is.zeros;
  horizon = is.horizon;
  update = is.update;
  reward = is.reward;
  evaluate = is.evaluate;
  time = is.time;
  left = ap (λ (r : ℕ). is.time + r) (sym steps) ∙ is.left;
  weights = weights_alike A.is_exact m is.time v ws alike is.weights;
  policy = subst (λ (r : ℕ). IsPolicyOf m r ps) steps (subst (IsPolicyOf m h) trees is.policy);
}

-- what the recursion gives from there
pub worth_from_start : (A : Arithmetic) (m : Model) (h k : ℕ) (v : ℕ → Span) (qs ps : List PolicyTree)
    (w : Span)
    → w ≡ recursive_worth_in A m k v ps → ((s : ℕ) → s < m.states → v s ≡ A.start (start_at m s)) → k ≡ h
    → ps ≡ qs
    → w ≡ forward_worth_in A m h qs
worth_from_start A m h k v qs ps w is alike steps trees =
    is ∙ recursion_alike A m k v (λ s. A.start (start_at m s)) ps alike
    ∙ (λ i. recursive_worth_in A m (steps i) (λ s. A.start (start_at m s)) (trees i))
    ∙ recursive_worth_is_forward A m h qs

-- the trees of a joint policy, as many as the model has agents
pub trees_held : (m : Model) (h : ℕ) (p : HorizonTrees) (ts : List (Bor PTree))
    → IsPolicyOf m h (joint_policy p)
    → first_trees (length p.trees) ts ≡ joint_policy p → first_trees (length m.actions) ts ≡ joint_policy p
trees_held m h p ts policy is =
    let same : length m.actions ≡ length p.trees = sym (sym (length-map p.trees policy_tree)
    ∙ trees_alike policy) in
    ap (λ (n : ℕ). first_trees n ts) same ∙ is

pub some_trees : (m : Model) → IsModel m → (h : ℕ) (p : HorizonTrees) → IsPolicyOf m h (joint_policy p)
    → 0 < length p.trees
some_trees m is h p policy =
    let e = trees_alike policy in
    let n = length-map p.trees policy_tree in
    let some = is.sizes.some_agent in
    omega arith
