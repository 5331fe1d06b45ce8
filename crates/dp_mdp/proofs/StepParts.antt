-- The parts of a reward of one step: which are nothing, and how far their sums reach.
use Rattle.std.proofs.Common.{◌≡◌, ℕ, suc, ◌^◌, ◌<◌, ◌≤◌, ℤ, pos, ◌+ℤ◌, ◌*ℤ◌, unsigned_abs, refl, sym, arith}
use Rattle.std.proofs.lemmas.Int.{ints}
use Rattle.dp_spec.specs.declared.span.Span.{Span}
use Rattle.dp_base.specs.Sums.{greatest, int_sum, nat_sum, numbers_below}
use Rattle.dp_spec.specs.Model.{Model, joint_actions, joint_observations, obs_at, reward_at, trans_at}
use Rattle.dp_spec.specs.Arithmetic.{Arithmetic}
use Rattle.dp_spec.specs.Quantities.{mdp_table_in, span_sum}
use Rattle.dp_spec.specs.Calls.{Calls, size}
use Rattle.dp_spec.specs.SizesOfTable.{table_later_size, table_reward_size}
use Rattle.dp_laws.proofs.SpanSums.{span_add_none, span_sum_none}
use Rattle.dp_laws.proofs.SizeSums.{int_sum_part, span_sum_part, span_sum_size, table_action_le}
use Rattle.dp_base.proofs.NaturalSumLaws.{nat_sum_at, nat_sum_le}
use Rattle.dp_mdp.specs.Building.{AllowsRow, action_value, later_value}
use Rattle.dp_mdp.specs.StepRewards.{AllowsReward, arrival_reward, reward_part, state_reward}
use Rattle.dp_spec.specs.Zeros.{KeepsZero, nothing}

-- ---- nothing adds nothing

add_zero : (x : ℤ) → x +ℤ pos 0 ≡ x
add_zero x = omega (arith, ints)

-- a term of nothing may be left out of a sum of spans
pub skip_nothing : (k : ℕ) (f : ℕ → Span) (total : Span) → total ≡ span_sum k f → f k ≡ nothing
    → total ≡ span_sum (suc k) f
skip_nothing k f total e none = rw (e, none, span_add_none (span_sum k f)) refl

-- and of numbers
pub skip_zero : (k : ℕ) (f : ℕ → ℤ) (total : ℤ) → total ≡ int_sum k f → f k ≡ pos 0 → total ≡ int_sum (suc k) f
skip_zero k f total e none = rw (e, none, add_zero (int_sum k f)) refl

-- a next state of chance 0 earns nothing
none_gained : (A : Arithmetic) → KeepsZero A → (w : Span) (p z : ℕ) (x : ℤ) (r : ℕ) → p ≡ 0
    → A.gain (A.chance w p z) x r ≡ nothing
none_gained A k w p z x r e = rw (e, k.no_next w z, k.gain x r) refl

-- not from any joint observation
pub no_arrival : (A : Arithmetic) → KeepsZero A → (m : Model) (r : ℕ) (w : Span) (a s t : ℕ)
    → trans_at m a s t ≡ 0
    → arrival_reward A m r w a s t ≡ nothing
no_arrival A z m r w a s t e = span_sum_none (joint_observations m) (reward_part A m r w a s t)
    (λ o p. none_gained A z w (trans_at m a s t) (obs_at m a t o) (reward_at m a s t o) r e)

-- a joint observation of chance 0 earns nothing
none_seen : (A : Arithmetic) → KeepsZero A → (w : Span) (p z : ℕ) (x : ℤ) (r : ℕ) → z ≡ 0
    → A.gain (A.chance w p z) x r ≡ nothing
none_seen A k w p z x r e = rw (e, k.no_seen w p, k.gain x r) refl

pub none_observed : (A : Arithmetic) → KeepsZero A → (m : Model) (r : ℕ) (w : Span) (a s t o : ℕ)
    → obs_at m a t o ≡ 0 → reward_part A m r w a s t o ≡ nothing
none_observed A z m r w a s t o e =
    none_seen A z w (trans_at m a s t) (obs_at m a t o) (reward_at m a s t o) r e

-- a next state of chance 0 carries nothing
pub no_carry : (A : Arithmetic) → KeepsZero A → (v : ℤ) (p : ℕ) → p ≡ 0 → A.carry v p ≡ pos 0
no_carry A z v p e = rw (e, z.carry v) refl

-- ---- sizes of partial sums

module _ (A : Arithmetic) (C : Calls) (m : Model) (r : ℕ) (w : Span) (a s : ℕ)
    (h : AllowsReward A C m r w a s) where
  -- the first parts of one next state
  pub arrival_part_fits : (t k : ℕ) → t < m.states → k ≤ joint_observations m
      → size (span_sum k (reward_part A m r w a s t)) < 2 ^ 127
  arrival_part_fits t k p le =
      let part = span_sum_part k (joint_observations m) (reward_part A m r w a s t) le in
      let one = nat_sum_at m.states (λ t. nat_sum (joint_observations m)
      (λ o. size (reward_part A m r w a s t o)))
      t p in
      let all = h.add in omega arith

  -- the first next states
  pub state_part_fits : (k : ℕ) → k ≤ m.states → size (span_sum k (arrival_reward A m r w a s)) < 2 ^ 127
  state_part_fits k le =
      let part = span_sum_part k m.states (arrival_reward A m r w a s) le in
      let each = nat_sum_le m.states (λ t. size (arrival_reward A m r w a s t))
      (λ t. nat_sum (joint_observations m) (λ o. size (reward_part A m r w a s t o)))
      (λ t p. span_sum_size (joint_observations m) (reward_part A m r w a s t)) in
      let all = h.add in omega arith

-- the first parts of a later value
pub later_part_fits : (A : Arithmetic) (C : Calls) (m : Model) (r : ℕ) (power : ℤ) → AllowsRow A C m r power
    → (a s k : ℕ) → a < joint_actions m → s < m.states → k ≤ m.states
    → unsigned_abs (int_sum k (λ t. A.carry (mdp_table_in A m r t) (trans_at m a s t))) < 2 ^ 127
unfolding table_later_size
later_part_fits A C m r power h a s k pa ps le =
    let part = int_sum_part k m.states (λ t. A.carry (mdp_table_in A m r t) (trans_at m a s t)) le in
    let all = h.add a s pa ps in omega arith

-- ---- as loops form them

-- a reward is the sum over all next states
pub sum_is_reward : (A : Arithmetic) (m : Model) (r : ℕ) (w : Span) (a s k : ℕ) (total : Span)
    → total ≡ span_sum k (arrival_reward A m r w a s) → k ≡ m.states → total ≡ state_reward A m r w a s
unfolding state_reward
sum_is_reward A m r w a s k total is all = rw (is, all) refl

-- what is carried
pub carried_is : (A : Arithmetic) (x v v2 : ℤ) (p p2 : ℕ) → x ≡ A.carry v p → v ≡ v2 → p ≡ p2
    → x ≡ A.carry v2 p2
carried_is A x v v2 p p2 e f g = rw (sym f, sym g) e

-- a later value is the sum over all next states
pub sum_is_later : (A : Arithmetic) (m : Model) (r a s k : ℕ) (total : ℤ)
    → total ≡ int_sum k (λ t. A.carry (mdp_table_in A m r t) (trans_at m a s t)) → k ≡ m.states
    → total ≡ later_value A m r a s
sum_is_later A m r a s k total is all = rw (is, all) refl

-- ---- the value of a joint action

module _ (A : Arithmetic) (C : Calls) (m : Model) (r : ℕ) (power : ℤ) (h : AllowsRow A C m r power) (a s : ℕ)
    (pa : a < joint_actions m) (ps : s < m.states) where
  -- its reward from that of the last step
  pub now_is : (x : ℤ) → x ≡ (state_reward A m 0 A.one a s).high
      → x *ℤ power ≡ (state_reward A m r A.one a s).high
  now_is x e = rw e (sym (h.reward.grows A.one a s))

  pub now_small : unsigned_abs (state_reward A m r A.one a s).high < 2 ^ 127
  unfolding state_reward table_reward_size
  now_small =
      let first = span_sum_size m.states (arrival_reward A m r A.one a s) in
      let each = nat_sum_le m.states (λ t. size (arrival_reward A m r A.one a s t))
      (λ t. nat_sum (joint_observations m) (λ o. size (reward_part A m r A.one a s t o)))
      (λ t p. span_sum_size (joint_observations m) (reward_part A m r A.one a s t)) in
      let all = h.add a s pa ps in omega arith

  -- it fits
  pub value_small : unsigned_abs (action_value A m r s a) < 2 ^ 127
  unfolding state_reward
  value_small = let parts = table_action_le A m r a s in let all = h.add a s pa ps in omega arith

-- the greatest of all is the table's value
pub greatest_is_table : (A : Arithmetic) (m : Model) (r s k : ℕ) (x : ℤ) → k ≡ joint_actions m
    → x ≡ greatest (action_value A m r s) (numbers_below k) → x ≡ mdp_table_in A m (suc r) s
unfolding state_reward
greatest_is_table A m r s k x all e = rw (e, all) refl
