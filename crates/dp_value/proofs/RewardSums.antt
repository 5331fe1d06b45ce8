-- What rewardable weights allow: each call for a part of the reward, and each partial sum.
use Rattle.std.proofs.Common.{◌≡◌, ℕ, ◌^◌, ◌<◌, ◌≤◌, ap, ◌∙◌, arith}
use Rattle.dp_spec.specs.declared.span.Span.{Span}
use Rattle.dp_spec.specs.Arithmetic.{Arithmetic}
use Rattle.dp_spec.specs.Calls.{Calls, size}
use Rattle.dp_spec.specs.Model.{Model, joint_actions, joint_observations, obs_at, reward_at, trans_at}
use Rattle.dp_spec.specs.Quantities.{span_sum, weighted_reward_in}
use Rattle.dp_spec.specs.Sizes.{reward_size}
use Rattle.dp_base.specs.Sums.{nat_sum}
use Rattle.dp_base.proofs.NaturalSumLaws.{nat_sum_le}
use Rattle.dp_laws.proofs.SizeSums.{reward_next_le, reward_state_le, span_sum_part, span_sum_size}
use Rattle.dp_value.specs.Rewards.{IsRewardable, reward_arriving, reward_from, reward_part}

-- a whole sum
pub whole_sum : (k n : ℕ) (f : ℕ → Span) (total : Span) → total ≡ span_sum k f → k ≡ n → total ≡ span_sum n f
whole_sum k n f total is all = is ∙ ap (λ (z : ℕ). span_sum z f) all

pub reward_is : (A : Arithmetic) (m : Model) (r : ℕ) (ws : ℕ → Span) (a k : ℕ) (total : Span)
    → total ≡ span_sum k (λ s. reward_from A m r (ws s) a s) → k ≡ m.states
    → total ≡ weighted_reward_in A m r ws a
unfolding weighted_reward_in
reward_is A m r ws a k total is all = is ∙ ap (λ (z : ℕ). span_sum z (λ s. reward_from A m r (ws s) a s)) all

module _ (A : Arithmetic) (C : Calls) (m : Model) (r : ℕ) (ws : ℕ → Span) (p : IsRewardable A C m r ws) (a : ℕ)
    (pa : a < joint_actions m) where
  pub whole : reward_size A m r ws a < 2 ^ 127
  whole = p.can.add p.time r ws a p.left p.weights pa

  -- partial sums over the states
  pub may_add_states : (k : ℕ) → k ≤ m.states → size (span_sum k (λ s. reward_from A m r (ws s) a s)) < 2 ^ 127
  unfolding reward_size
  may_add_states k le =
      let O = joint_observations m in
      let S = m.states in
      let part = span_sum_part k S (λ s. reward_from A m r (ws s) a s) le in
      let inner = nat_sum_le S (λ s. size (reward_from A m r (ws s) a s))
      (λ s. nat_sum S (λ t. nat_sum O (λ o. size (reward_part A m r (ws s) a s t o))))
      (λ s q.
      let first = span_sum_size S (reward_arriving A m r (ws s) a s) in
      let second = nat_sum_le S (λ t. size (reward_arriving A m r (ws s) a s t))
      (λ t. nat_sum O (λ o. size (reward_part A m r (ws s) a s t o)))
      (λ t u. span_sum_size O (reward_part A m r (ws s) a s t)) in omega arith) in
      let all = whole in omega arith

  module _ (s : ℕ) (ps : s < m.states) where
    -- over the next states
    pub may_add_nexts : (k : ℕ) → k ≤ m.states → size (span_sum k (reward_arriving A m r (ws s) a s)) < 2 ^ 127
    may_add_nexts k le =
        let O = joint_observations m in
        let S = m.states in
        let part = span_sum_part k S (reward_arriving A m r (ws s) a s) le in
        let inner = nat_sum_le S (λ t. size (reward_arriving A m r (ws s) a s t))
        (λ t. nat_sum O (λ o. size (reward_part A m r (ws s) a s t o)))
        (λ t u. span_sum_size O (reward_part A m r (ws s) a s t)) in
        let most = reward_state_le A m r ws a s ps in
        let all = whole in omega arith

    module _ (t : ℕ) (pt : t < m.states) where
      -- over the joint observations
      pub may_add_seen : (k : ℕ) → k ≤ joint_observations m → size (span_sum k (reward_part A m r (ws s) a s t))
          < 2 ^ 127
      may_add_seen k le =
          let part = span_sum_part k (joint_observations m) (reward_part A m r (ws s) a s t) le in
          let most = reward_next_le A m r ws a s t ps pt in
          let all = whole in omega arith

      -- the calls
      pub may_reach : (o : ℕ) → o < joint_observations m → C.Chance (ws s) (trans_at m a s t) (obs_at m a t o)
      may_reach o po = let left = p.left in p.update.chance p.time ws a s t o (omega arith) p.weights
          (record { action = pa; state = ps; next = pt; seen = po })

      pub may_gain : (o : ℕ) → o < joint_observations m → C.Gain
          (A.chance (ws s) (trans_at m a s t) (obs_at m a t o)) (reward_at m a s t o) r
      may_gain o po = p.can.gain p.time r ws a s t o p.left p.weights
          (record { action = pa; state = ps; next = pt; seen = po })
