-- The reward of a joint action from weights, state by state.
use Rattle.std.proofs.Common.{◌≡◌, ℕ, suc, ◌^◌, ◌<◌, ◌≤◌, pos, ℤ, List, refl, sym, ap, ◌∙◌, arith}
use Rattle.dp_spec.specs.declared.span.Span.{Span}
use Rattle.dp_base.specs.Sums.{nat_sum}
use Rattle.dp_spec.specs.Model.{Model, joint_actions, joint_observations, obs_at, reward_at, trans_at}
use Rattle.dp_spec.specs.Arithmetic.{Arithmetic, span_add}
use Rattle.dp_spec.specs.Calls.{Calls, size}
use Rattle.dp_spec.specs.Quantities.{span_sum, weighted_reward_in}
use Rattle.dp_spec.specs.Sizes.{reward_size}
use Rattle.dp_spec.specs.Zeros.{KeepsZero, nothing}
use Rattle.dp_base.proofs.NaturalSumLaws.{nat_sum_at, nat_sum_le}
use Rattle.dp_laws.proofs.SizeSums.{span_sum_part, span_sum_size}
use Rattle.dp_laws.proofs.SpanSums.{span_add_none, span_sum_none}
use Rattle.dp_mdp.specs.StepRewards.{AllowsReward, arrival_reward, reward_part, state_reward}
use Rattle.dp_pomdp.proofs.Pushes.{no_weight}
use Rattle.dp_pomdp.specs.Looking.{IsLooking, weights_of}

-- the reward from state s
abbrev pub reward_from : Arithmetic → Model → ℕ → List Span → ℕ → ℕ → Span
reward_from A m r ws a s = state_reward A m r (weights_of ws s) a s

-- no weight earns nothing
none_gained : (A : Arithmetic) → KeepsZero A → (w : Span) (p z : ℕ) (x : ℤ) (r : ℕ) → w ≡ nothing
    → A.gain (A.chance w p z) x r ≡ nothing
none_gained A keeps w p z x r none = rw (none, keeps.no_weight p z) (keeps.gain x r)

none_earned : (A : Arithmetic) → KeepsZero A → (m : Model) (r : ℕ) (w : Span) (a s : ℕ) → w ≡ nothing
    → state_reward A m r w a s ≡ nothing
unfolding state_reward
none_earned A keeps m r w a s none =
    span_sum_none m.states (arrival_reward A m r w a s) (λ t p.
    span_sum_none (joint_observations m) (reward_part A m r w a s t) (λ o q.
    none_gained A keeps w (trans_at m a s t) (obs_at m a t o) (reward_at m a s t o) r none))

-- the magnitudes of its parts
abbrev pub parts_from : Arithmetic → Model → ℕ → List Span → ℕ → ℕ → ℕ
parts_from A m r ws a s =
    nat_sum m.states (λ t. nat_sum (joint_observations m) (λ o. size
    (reward_part A m r (weights_of ws s) a s t o)))

pub from_state : (A : Arithmetic) (m : Model) (r : ℕ) (ws : List Span) (a s : ℕ)
    → size (reward_from A m r ws a s) ≤ parts_from A m r ws a s
unfolding state_reward
from_state A m r ws a s =
    let w = weights_of ws s in
    let sum = span_sum_size m.states (arrival_reward A m r w a s) in
    let each =
    nat_sum_le m.states (λ t. size (arrival_reward A m r w a s t))
    (λ t. nat_sum (joint_observations m) (λ o. size (reward_part A m r w a s t o)))
    (λ t p. span_sum_size (joint_observations m) (reward_part A m r w a s t)) in
    omega arith

-- the sum with one state more
pub one_more_reward : (A : Arithmetic) (m : Model) (r : ℕ) (ws : List Span) (a k : ℕ) (total part : Span)
    → total ≡ span_sum k (reward_from A m r ws a) → part ≡ reward_from A m r ws a k
    → span_add total part ≡ span_sum (suc k) (reward_from A m r ws a)
one_more_reward A m r ws a k total part sum is_part = rw (sum, is_part) refl

module _ (A : Arithmetic) (C : Calls) (m : Model) (r : ℕ) (ws : List Span) (is : IsLooking A C m (suc r) ws)
    (a : ℕ) (pa : a < joint_actions m) where
  -- a state without weight may be left out
  pub skip_reward : (k : ℕ) (total : Span) → k < m.states → (weights_of ws k).high ≡ pos 0
      → total ≡ span_sum k (reward_from A m r ws a) → total ≡ span_sum (suc k) (reward_from A m r ws a)
  skip_reward k total state e so_far =
      let none = none_earned A is.zero m r (weights_of ws k) a k (no_weight A C m (suc r) ws is k state e) in
      so_far ∙ sym (ap (span_add (span_sum k (reward_from A m r ws a))) none ∙ span_add_none _)

  -- all parts together
  pub parts_fit : nat_sum m.states (parts_from A m r ws a) < 2 ^ 127
  unfolding reward_size
  parts_fit = is.reward.add is.time r (weights_of ws) a is.left is.weights pa

  -- the reward from a state can be computed
  pub reward_allowed : (s : ℕ) → s < m.states → AllowsReward A C m r (weights_of ws s) a s
  unfolding reward_size
  reward_allowed s ps = record {
    chance = λ t o step. is.push.chance is.time (weights_of ws) a s t o (let left = is.left in omega arith)
        is.weights step;
    gain = λ t o step. is.reward.gain is.time r (weights_of ws) a s t o is.left is.weights step;
    add =
        let one = nat_sum_at m.states (parts_from A m r ws a) s ps in
        let all = parts_fit in omega arith;
  }

  -- the sum over the first states
  pub rewards_fit : (k : ℕ) → k ≤ m.states → size (span_sum k (reward_from A m r ws a)) < 2 ^ 127
  unfolding reward_size
  rewards_fit k le =
      let part = span_sum_part k m.states (reward_from A m r ws a) le in
      let each =
      nat_sum_le m.states (λ s. size (reward_from A m r ws a s)) (parts_from A m r ws a)
      (λ s p. from_state A m r ws a s) in
      let all = parts_fit in omega arith

  -- one state more
  pub reward_room : (k : ℕ) (total part : Span) → k < m.states → total ≡ span_sum k (reward_from A m r ws a)
      → part ≡ reward_from A m r ws a k → size (span_add total part) < 2 ^ 127
  reward_room k total part state sum is_part = rw (sum, is_part) (rewards_fit (suc k) state)

  -- the reward is the sum over all states
  pub rewards_are_all : (k : ℕ) (total : Span) → k ≡ m.states → total ≡ span_sum k (reward_from A m r ws a)
      → total.high ≡ (weighted_reward_in A m r (weights_of ws) a).high
  unfolding weighted_reward_in state_reward
  rewards_are_all k total all sum =
      ap (λ (x : Span). x.high) sum ∙ ap (λ (n : ℕ). (span_sum n (reward_from A m r ws a)).high) all
