-- Only the weights of the states count, in any arithmetic.
use Rattle.std.proofs.Common.{◌≡◌, ℕ, zero, suc, ◌<◌, ◌≤◌, ◌-◌, Bool, pos, ◌+ℤ◌, ◌≤ℤ◌, List, refl, ap, ◌∙◌, subst}
use Rattle.std.specs.Int.{int_min}
use Rattle.dp_spec.specs.declared.span.Span.{Span}
use Rattle.dp_laws.proofs.SpanSums.{span_sum_ext}
use Rattle.dp_base.proofs.Sums.{int_sum_ext}
use Rattle.dp_spec.specs.Arithmetic.{Arithmetic, span_add}
use Rattle.dp_spec.specs.Calls.{IsPoint, size}
use Rattle.dp_spec.specs.Model.{Model, joint_actions, joint_observations, obs_at, reward_at, trans_at}
use Rattle.dp_spec.specs.PolicyTree.{PolicyTree}
use Rattle.dp_spec.specs.Quantities.{action_look_ahead_in, look_ahead_in, mdp_table_in, recursive_worth_in}
use Rattle.dp_spec.specs.Quantities.{span_sum, weighted_reward_in, weighted_table_in, weights_after_in}
use Rattle.dp_spec.specs.Sizes.{AreWeights, weight_limit}
use Rattle.dp_base.specs.Sums.{greatest, int_sum, numbers_below}
use Rattle.dp_spec.specs.Value.{joint_root_action, trees_after}
use Rattle.dp_base.proofs.GreatestValues.{greatest_ext}
use Rattle.dp_base.proofs.NaturalSumLaws.{nat_sum_ext}

module _ (A : Arithmetic) (m : Model) where
  -- the next weights
  pub weights_after_in_ext : (ws vs : ℕ → Span) (a o t : ℕ) → ((s : ℕ) → s < m.states → ws s ≡ vs s)
      → weights_after_in A m ws a o t ≡ weights_after_in A m vs a o t
  unfolding weights_after_in
  weights_after_in_ext ws vs a o t h = span_sum_ext m.states _ _
      (λ s p. ap (λ (w : Span). A.later (A.chance w (trans_at m a s t) (obs_at m a t o))) (h s p))

  -- the reward of a joint action
  pub weighted_reward_in_ext : (r : ℕ) (ws vs : ℕ → Span) (a : ℕ) → ((s : ℕ) → s < m.states → ws s ≡ vs s)
      → weighted_reward_in A m r ws a ≡ weighted_reward_in A m r vs a
  unfolding weighted_reward_in
  weighted_reward_in_ext r ws vs a h =
      span_sum_ext m.states _ _ (λ s p. ap (λ (w : Span). span_sum m.states
      (λ t. span_sum (joint_observations m) (λ o. A.gain (A.chance w (trans_at m a s t) (obs_at m a t o))
      (reward_at m a s t o) r))) (h s p))

  -- weights against the table
  pub weighted_table_in_ext : (r : ℕ) (ws vs : ℕ → Span) → ((s : ℕ) → s < m.states → ws s ≡ vs s)
      → weighted_table_in A m r ws ≡ weighted_table_in A m r vs
  unfolding weighted_table_in
  weighted_table_in_ext r ws vs h = int_sum_ext m.states _ _
      (λ s p. ap (λ (w : Span). A.tail w (mdp_table_in A m r s)) (h s p))

  -- look-ahead
  pub look_ahead_in_ext : (r k : ℕ) (ws vs : ℕ → Span) → ((s : ℕ) → s < m.states → ws s ≡ vs s)
      → look_ahead_in A m r ws k ≡ look_ahead_in A m r vs k
  look_ahead_in_ext zero k ws vs h = refl
  look_ahead_in_ext (suc r) zero ws vs h = weighted_table_in_ext (suc r) ws vs h
  look_ahead_in_ext (suc r) (suc k) ws vs h =
      let best = λ (us : ℕ → Span). greatest (λ a. (weighted_reward_in A m r us a).high +ℤ int_sum
      (joint_observations m) (λ o. look_ahead_in A m r (weights_after_in A m us a o) k))
      (numbers_below (joint_actions m)) in
      ap (λ x. int_min x (weighted_table_in A m (suc r) ws))
      (greatest_ext _ _ (numbers_below (joint_actions m)) (λ a i.
      ap (λ (w : Span). w.high +ℤ int_sum (joint_observations m)
      (λ o. look_ahead_in A m r (weights_after_in A m ws a o) k)) (weighted_reward_in_ext r ws vs a h)
      ∙ ap (λ x. (weighted_reward_in A m r vs a).high +ℤ x) (int_sum_ext (joint_observations m) _ _
      (λ o p. look_ahead_in_ext r k (weights_after_in A m ws a o) (weights_after_in A m vs a o)
      (λ t q. weights_after_in_ext ws vs a o t h)))))
      ∙ ap (λ x. int_min (best vs) x) (weighted_table_in_ext (suc r) ws vs h)

  -- look-ahead after a joint action
  pub action_look_ahead_in_ext : (r k : ℕ) (ws vs : ℕ → Span) (a : ℕ) → ((s : ℕ) → s < m.states → ws s ≡ vs s)
      → action_look_ahead_in A m r ws a k ≡ action_look_ahead_in A m r vs a k
  unfolding action_look_ahead_in
  action_look_ahead_in_ext r k ws vs a h =
      let later = λ (us : ℕ → Span). int_sum (joint_observations m)
      (λ o. look_ahead_in A m r (weights_after_in A m us a o) (k - 1)) in
      ap (λ (w : Span). w.high +ℤ later ws) (weighted_reward_in_ext r ws vs a h)
      ∙ ap (λ x. (weighted_reward_in A m r vs a).high +ℤ x) (int_sum_ext (joint_observations m) _ _
      (λ o p. look_ahead_in_ext r (k - 1) (weights_after_in A m ws a o) (weights_after_in A m vs a o)
      (λ t q. weights_after_in_ext ws vs a o t h)))

  -- the worth of a joint policy by the recursion
  pub recursive_worth_in_ext : (r : ℕ) (ws vs : ℕ → Span) (qs : List PolicyTree)
      → ((s : ℕ) → s < m.states → ws s ≡ vs s) → recursive_worth_in A m r ws qs ≡ recursive_worth_in A m r vs qs
  recursive_worth_in_ext zero ws vs qs h = refl
  recursive_worth_in_ext (suc r) ws vs qs h =
      let a = joint_root_action m qs in
      ap (λ (w : Span). span_add w (span_sum (joint_observations m)
      (λ o. recursive_worth_in A m r (weights_after_in A m ws a o) (trees_after m qs o))))
      (weighted_reward_in_ext r ws vs a h)
      ∙ ap (λ (w : Span). span_add (weighted_reward_in A m r vs a) w)
      (span_sum_ext (joint_observations m) _ _ (λ o p. recursive_worth_in_ext r (weights_after_in A m ws a o)
      (weights_after_in A m vs a o) (trees_after m qs o) (λ t q. weights_after_in_ext ws vs a o t h)))

-- equal spans are weights too
pub weights_same : (e : Bool) (m : Model) (t : ℕ) (ws vs : ℕ → Span) → ((s : ℕ) → s < m.states → ws s ≡ vs s)
    → AreWeights e m t ws → AreWeights e m t vs
weights_same e m t ws vs h are = record {
  from = λ s p. subst (λ (w : Span). pos 0 ≤ℤ w.low) (h s p) (are.from s p);
  order = λ s p. subst (λ (w : Span). w.low ≤ℤ w.high) (h s p) (are.order s p);
  points = λ i s p. subst IsPoint (h s p) (are.points i s p);
  limit = subst (λ (n : ℕ). n ≤ weight_limit e m t) (nat_sum_ext m.states (λ s. size (ws s)) (λ s. size (vs s))
      (λ s p. ap size (h s p))) are.limit;
}
