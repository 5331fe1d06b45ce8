-- Magnitudes of sums: no part of a sum and no order of adding is larger than the magnitudes of all parts together.
use Rattle.std.proofs.Common.{ℕ, zero, suc, ◌+◌, ◌-◌, ◌<◌, ◌≤◌, ℤ, ◌+ℤ◌, unsigned_abs, List, ◌∷◌, arith}
use Rattle.std.proofs.lemmas.Int.{ints, clamps}
use Rattle.std.specs.Int.{int_min}
use Rattle.dp_spec.specs.declared.span.Span.{Span}
use Rattle.dp_spec.specs.Arithmetic.{Arithmetic, span_add}
use Rattle.dp_spec.specs.Bound.{agreeing_actions}
use Rattle.dp_spec.specs.Calls.{size}
use Rattle.dp_spec.specs.Front.{Front}
use Rattle.dp_spec.specs.JointHistory.{nat_history_sum}
use Rattle.dp_spec.specs.Model.{Model, joint_actions, joint_observations, obs_at, reward_at, trans_at}
use Rattle.dp_spec.specs.Quantities.{action_look_ahead_in, earned_reward_in, look_ahead_in, history_weight_in}
use Rattle.dp_spec.specs.Quantities.{mdp_table_in, span_history_sum, span_sum, weighted_reward_in, weights_after_in}
use Rattle.dp_spec.specs.Quantities.{recursive_worth_in}
use Rattle.dp_spec.specs.Sizes.{reward_size}
use Rattle.dp_spec.specs.PolicyTree.{PolicyTree}
use Rattle.dp_spec.specs.SizesOfEarnings.{earned_size, worth_size}
use Rattle.dp_spec.specs.Value.{joint_root_action, trees_after}
use Rattle.dp_spec.specs.SizesOfLookAhead.{next_look_size}
use Rattle.dp_spec.specs.SizesOfTable.{table_later_size, table_reward_size}
use Rattle.dp_base.specs.Sums.{int_sum, nat_sum, numbers_below}
use Rattle.dp_base.proofs.Members.{IsIn, below-IsIn, filter-IsIn}
use Rattle.dp_base.proofs.NaturalSumLaws.{nat_sum_at, nat_sum_le, nat_sum_part}
use Rattle.dp_laws.proofs.HistorySums.{nat_history_sum_le}

-- ---- sums of whole numbers

-- the magnitude of a sum of two
pub abs_add : (a b : ℤ) → unsigned_abs (a +ℤ b) ≤ unsigned_abs a + unsigned_abs b
abs_add a b = omega (arith, ints)

-- the magnitude of a sum
pub int_sum_abs : (n : ℕ) (f : ℕ → ℤ) → unsigned_abs (int_sum n f) ≤ nat_sum n (λ i. unsigned_abs (f i))
int_sum_abs zero f = omega arith
int_sum_abs (suc n) f = let rest = int_sum_abs n f in let both = abs_add (int_sum n f) (f n) in omega arith

-- the smaller of two
pub abs_min : (a b : ℤ) (c : ℕ) → unsigned_abs a ≤ c → unsigned_abs b ≤ c → unsigned_abs (int_min a b) ≤ c
abs_min a b c p q = omega (arith, ints, clamps)

-- ---- sums of spans
-- the magnitude of a sum of two spans
pub size_add : (a b : Span) → size (span_add a b) ≤ size a + size b
size_add a b = let low = abs_add a.low b.low in let high = abs_add a.high b.high in omega arith

-- a sum of spans is no larger than its parts
pub span_sum_size : (n : ℕ) (f : ℕ → Span) → size (span_sum n f) ≤ nat_sum n (λ i. size (f i))
span_sum_size zero f = omega arith
span_sum_size (suc n) f = let here = size_add (span_sum n f) (f n) in let rest = span_sum_size n f in
    omega arith

-- the same over joint histories
pub span_history_sum_size : (n t : ℕ) (v : List ℕ → Span)
    → size (span_history_sum n t v) ≤ nat_history_sum n t (λ H. size (v H))
span_history_sum_size n zero v = omega arith
span_history_sum_size n (suc t) v =
    let outer = span_history_sum_size n t (λ H. span_sum n (λ o. v (o ∷ H))) in
    let inner = nat_history_sum_le n t (λ H. size (span_sum n (λ o. v (o ∷ H))))
    (λ H. nat_sum n (λ o. size (v (o ∷ H)))) (λ H p. span_sum_size n (λ o. v (o ∷ H))) in omega arith

-- a reward is no larger than its parts
pub reward_size_le : (A : Arithmetic) (m : Model) (r : ℕ) (ws : ℕ → Span) (a : ℕ)
    → size (weighted_reward_in A m r ws a) ≤ reward_size A m r ws a
unfolding weighted_reward_in reward_size
reward_size_le A m r ws a =
    let S = m.states in
    let O = joint_observations m in
    let G = λ (s t o : ℕ). A.gain (A.chance (ws s) (trans_at m a s t) (obs_at m a t o)) (reward_at m a s t o)
    r in
    let first = span_sum_size S (λ s. span_sum S (λ t. span_sum O (λ o. G s t o))) in
    let second = nat_sum_le S (λ s. size (span_sum S (λ t. span_sum O (λ o. G s t o))))
    (λ s. nat_sum S (λ t. size (span_sum O (λ o. G s t o))))
    (λ s p. span_sum_size S (λ t. span_sum O (λ o. G s t o))) in
    let third = nat_sum_le S (λ s. nat_sum S (λ t. size (span_sum O (λ o. G s t o))))
    (λ s. nat_sum S (λ t. nat_sum O (λ o. size (G s t o))))
    (λ s p. nat_sum_le S _ _ (λ t q. span_sum_size O (λ o. G s t o))) in
    omega arith

-- a next weight is no larger than its parts
pub updated_size_le : (A : Arithmetic) (m : Model) (ws : ℕ → Span) (a o t : ℕ)
    → size (weights_after_in A m ws a o t)
    ≤ nat_sum m.states (λ s. size (A.later (A.chance (ws s) (trans_at m a s t) (obs_at m a t o))))
unfolding weights_after_in
updated_size_le A m ws a o t = span_sum_size m.states (λ s. A.later
    (A.chance (ws s) (trans_at m a s t) (obs_at m a t o)))

-- what is earned is no larger than its parts
pub earned_size_le : (A : Arithmetic) (m : Model) (act : List ℕ → ℕ) (h f : ℕ)
    → size (earned_reward_in A m act h f) ≤ earned_size A m act h f
earned_size_le A m act h zero = omega arith
earned_size_le A m act h (suc f) =
    let O = joint_observations m in
    let V = λ (H : List ℕ). weighted_reward_in A m (h - suc f) (history_weight_in A m act H) (act H) in
    let before = earned_size_le A m act h f in
    let now = span_history_sum_size O f V in
    let parts = nat_history_sum_le O f (λ H. size (V H)) (λ H. reward_size A m (h - suc f)
    (history_weight_in A m act H) (act H)) (λ H p. reward_size_le A m (h - suc f) (history_weight_in A m act H)
    (act H)) in
    let both = size_add (earned_reward_in A m act h f) (span_history_sum O f V) in omega arith

-- look-ahead of a joint action is no larger than its parts
pub action_look_le : (A : Arithmetic) (m : Model) (r : ℕ) (ws : ℕ → Span) (a k : ℕ)
    → unsigned_abs (action_look_ahead_in A m r ws a k) ≤ reward_size A m r ws a + next_look_size A m r ws a
    (k - 1)
unfolding action_look_ahead_in next_look_size
action_look_le A m r ws a k =
    let V = λ (o : ℕ). look_ahead_in A m r (weights_after_in A m ws a o) (k - 1) in
    let now = reward_size_le A m r ws a in
    let after = int_sum_abs (joint_observations m) V in
    let both = abs_add (weighted_reward_in A m r ws a).high (int_sum (joint_observations m) V) in omega arith

-- a joint action that agrees with a joint class exists
pub agreeing_below : (m : Model) (F : Front) (C a : ℕ) → IsIn a (agreeing_actions m F C) → a < joint_actions m
unfolding agreeing_actions
agreeing_below m F C a h = below-IsIn (joint_actions m) a (filter-IsIn _ a (numbers_below (joint_actions m))
    h).0

-- a value of the table is no larger than its parts
pub table_action_le : (A : Arithmetic) (m : Model) (r a s : ℕ) →
    unsigned_abs ((span_sum m.states (λ t. span_sum (joint_observations m)
    (λ o. A.gain (A.chance A.one (trans_at m a s t) (obs_at m a t o)) (reward_at m a s t o) r))).high +ℤ
    int_sum m.states (λ t. A.carry (mdp_table_in A m r t) (trans_at m a s t)))
    ≤ table_reward_size A m r a s + table_later_size A m r a s
unfolding table_reward_size table_later_size
table_action_le A m r a s =
    let S = m.states in
    let O = joint_observations m in
    let G = λ (t o : ℕ). A.gain (A.chance A.one (trans_at m a s t) (obs_at m a t o)) (reward_at m a s t o) r in
    let V = λ (t : ℕ). A.carry (mdp_table_in A m r t) (trans_at m a s t) in
    let first = span_sum_size S (λ t. span_sum O (λ o. G t o)) in
    let second = nat_sum_le S (λ t. size (span_sum O (λ o. G t o))) (λ t. nat_sum O (λ o. size (G t o)))
    (λ t p. span_sum_size O (λ o. G t o)) in
    let third = int_sum_abs S V in
    let both = abs_add (span_sum S (λ t. span_sum O (λ o. G t o))).high (int_sum S V) in
    omega arith

-- ---- partial sums, as loops form them

-- a partial sum of spans
pub span_sum_part : (k n : ℕ) (f : ℕ → Span) → k ≤ n → size (span_sum k f) ≤ nat_sum n (λ i. size (f i))
span_sum_part k n f le = let part = span_sum_size k f in let more = nat_sum_part k n (λ i. size (f i)) le in
    omega arith

-- a partial sum of numbers
pub int_sum_part : (k n : ℕ) (f : ℕ → ℤ) → k ≤ n → unsigned_abs (int_sum k f)
    ≤ nat_sum n (λ i. unsigned_abs (f i))
int_sum_part k n f le = let part = int_sum_abs k f in let more = nat_sum_part k n (λ i. unsigned_abs (f i))
    le in
    omega arith

-- the parts of a reward from one state, and those for one next state
pub reward_state_le : (A : Arithmetic) (m : Model) (r : ℕ) (ws : ℕ → Span) (a s : ℕ) → s < m.states →
    nat_sum m.states (λ t. nat_sum (joint_observations m) (λ o. size
    (A.gain (A.chance (ws s) (trans_at m a s t) (obs_at m a t o)) (reward_at m a s t o) r)))
    ≤ reward_size A m r ws a
unfolding reward_size
reward_state_le A m r ws a s p = nat_sum_at m.states (λ s. nat_sum m.states
    (λ t. nat_sum (joint_observations m) (λ o. size (A.gain (A.chance (ws s) (trans_at m a s t)
    (obs_at m a t o))
    (reward_at m a s t o) r)))) s p

-- those of one next state
pub reward_next_le : (A : Arithmetic) (m : Model) (r : ℕ) (ws : ℕ → Span) (a s t : ℕ) → s < m.states
    → t < m.states →
    nat_sum (joint_observations m) (λ o. size (A.gain (A.chance (ws s) (trans_at m a s t) (obs_at m a t o))
    (reward_at m a s t o) r)) ≤ reward_size A m r ws a
reward_next_le A m r ws a s t p q =
    let state = reward_state_le A m r ws a s p in
    let next = nat_sum_at m.states (λ t. nat_sum (joint_observations m)
    (λ o. size (A.gain (A.chance (ws s) (trans_at m a s t) (obs_at m a t o)) (reward_at m a s t o) r))) t q in
    omega arith

-- the worth of a joint policy is no larger than its parts
pub worth_size_le : (A : Arithmetic) (m : Model) (r : ℕ) (ws : ℕ → Span) (qs : List PolicyTree)
    → size (recursive_worth_in A m r ws qs) ≤ worth_size A m r ws qs
worth_size_le A m zero ws qs = omega arith
worth_size_le A m (suc r) ws qs =
    let O = joint_observations m in
    let a = joint_root_action m qs in
    let V = λ (o : ℕ). recursive_worth_in A m r (weights_after_in A m ws a o) (trees_after m qs o) in
    let now = reward_size_le A m r ws a in
    let after = span_sum_size O V in
    let parts = nat_sum_le O (λ o. size (V o)) (λ o. worth_size A m r (weights_after_in A m ws a o)
    (trees_after m qs o)) (λ o p. worth_size_le A m r (weights_after_in A m ws a o) (trees_after m qs o)) in
    let both = size_add (weighted_reward_in A m r ws a) (span_sum O V) in omega arith
