-- Weights, rewards, the table, look-ahead and bounds, computed in an arithmetic. The exact definitions are what these
-- numbers mean.
use Rattle.std.specs.Prelude.{ℕ, zero, suc, ◌+◌, ◌-◌, cond, ◌==◌, ℤ, pos, ◌+ℤ◌, List, [], ◌∷◌}
use Rattle.std.specs.Int.{int_min}
use Rattle.dp_spec.specs.declared.span.Span.{Span}
use Rattle.dp_base.specs.Sums.{int_sum, greatest, numbers_below}
use Rattle.dp_spec.specs.JointNumbers.{product}
use Rattle.dp_spec.specs.Model.{Model, joint_observations, joint_actions, trans_at, obs_at, reward_at, start_at}
use Rattle.dp_spec.specs.PolicyTree.{PolicyTree}
use Rattle.dp_spec.specs.Value.{joint_root_action, trees_after}
use Rattle.dp_spec.specs.JointHistory.{trees_after_history}
use Rattle.dp_spec.specs.Front.{Front, class_counts, fixed_joint_action, joint_class}
use Rattle.dp_spec.specs.Bound.{agreeing_actions}
use Rattle.dp_spec.specs.Arithmetic.{Arithmetic, point, span_add}

-- f 0 + .. + f (n - 1)
abbrev pub span_sum : ℕ → (ℕ → Span) → Span
span_sum zero f = point (pos 0)
span_sum (suc n) f = span_add (span_sum n f) (f n)

-- a sum over the joint histories of length t
abbrev pub span_history_sum : ℕ → ℕ → (List ℕ → Span) → Span
span_history_sum n zero v = v []
span_history_sum n (suc t) v = span_history_sum n t (λ H. span_sum n (λ o. v (o ∷ H)))

-- the weights after joint action a and joint observation o
unfoldable pub weights_after_in : Arithmetic → Model → (ℕ → Span) → ℕ → ℕ → ℕ → Span
weights_after_in A m w a o t = span_sum m.states (λ s. A.later (A.chance (w s) (trans_at m a s t) (obs_at m a t o)))

-- the reward of joint action a from weights w, where r steps are left after this one
unfoldable pub weighted_reward_in : Arithmetic → Model → ℕ → (ℕ → Span) → ℕ → Span
weighted_reward_in A m r w a =
    span_sum m.states (λ s. span_sum m.states (λ t. span_sum (joint_observations m) (λ o.
    A.gain (A.chance (w s) (trans_at m a s t) (obs_at m a t o)) (reward_at m a s t o) r)))

-- the weight of a joint history and a state
abbrev pub history_weight_in : Arithmetic → Model → (List ℕ → ℕ) → List ℕ → ℕ → Span
history_weight_in A m act [] s = A.start (start_at m s)
history_weight_in A m act (o ∷ H) s = weights_after_in A m (history_weight_in A m act H) (act H) o s

-- what is earned before time f, of a horizon of h steps
abbrev pub earned_reward_in : Arithmetic → Model → (List ℕ → ℕ) → ℕ → ℕ → Span
earned_reward_in A m act h zero = point (pos 0)
earned_reward_in A m act h (suc f) =
    span_add (earned_reward_in A m act h f)
    (span_history_sum (joint_observations m) f (λ H.
    weighted_reward_in A m (h - suc f) (history_weight_in A m act H) (act H)))

-- the worth of a joint policy of h steps, computed forwards
unfoldable pub forward_worth_in : Arithmetic → Model → ℕ → List PolicyTree → Span
forward_worth_in A m h qs = earned_reward_in A m (λ H. joint_root_action m (trees_after_history m qs H)) h h

-- the same by a recursion that updates weights along the trees
abbrev pub recursive_worth_in : Arithmetic → Model → ℕ → (ℕ → Span) → List PolicyTree → Span
recursive_worth_in A m zero w qs = point (pos 0)
recursive_worth_in A m (suc r) w qs =
    span_add (weighted_reward_in A m r w (joint_root_action m qs))
    (span_sum (joint_observations m) (λ o.
    recursive_worth_in A m r (weights_after_in A m w (joint_root_action m qs) o) (trees_after m qs o)))

-- the table of the Markov decision process, from above
abbrev pub mdp_table_in : Arithmetic → Model → ℕ → ℕ → ℤ
mdp_table_in A m zero s = pos 0
mdp_table_in A m (suc r) s =
    greatest (λ a. (span_sum m.states (λ t. span_sum (joint_observations m) (λ o.
    A.gain (A.chance A.one (trans_at m a s t) (obs_at m a t o)) (reward_at m a s t o) r))).high
    +ℤ int_sum m.states (λ t. A.carry (mdp_table_in A m r t) (trans_at m a s t))) (numbers_below (joint_actions m))

-- weights against the table where r steps are left
unfoldable pub weighted_table_in : Arithmetic → Model → ℕ → (ℕ → Span) → ℤ
weighted_table_in A m r w = int_sum m.states (λ s. A.tail (w s) (mdp_table_in A m r s))

-- Look-ahead from weights w with look k, capped by the weights against the table. (In exact numbers the cap changes
-- nothing.)
abbrev pub look_ahead_in : Arithmetic → Model → ℕ → (ℕ → Span) → ℕ → ℤ
look_ahead_in A m zero w k = pos 0
look_ahead_in A m (suc r) w zero = weighted_table_in A m (suc r) w
look_ahead_in A m (suc r) w (suc k) =
    int_min (greatest (λ a. (weighted_reward_in A m r w a).high
    +ℤ int_sum (joint_observations m) (λ o. look_ahead_in A m r (weights_after_in A m w a o) k))
    (numbers_below (joint_actions m)))
    (weighted_table_in A m (suc r) w)

-- the same where joint action a is done now, with look k of at least 1, and without the cap
unfoldable pub action_look_ahead_in : Arithmetic → Model → ℕ → (ℕ → Span) → ℕ → ℕ → ℤ
action_look_ahead_in A m r w a k =
    (weighted_reward_in A m r w a).high
    +ℤ int_sum (joint_observations m) (λ o. look_ahead_in A m r (weights_after_in A m w a o) (k - 1))

-- the weight of a joint class and a state
unfoldable pub class_weight_in : Arithmetic → Model → Front → ℕ → ℕ → Span
class_weight_in A m F C s =
    span_history_sum (joint_observations m) F.stage (λ H.
    cond (joint_class m F H == C) (history_weight_in A m (fixed_joint_action m F) H s) (point (pos 0)))

-- the bound of a front from whose stage on r steps are left, with look k
abbrev pub bound_in : Arithmetic → Model → ℕ → Front → ℕ → ℤ
bound_in A m zero F k = (earned_reward_in A m (fixed_joint_action m F) (F.stage + 0) F.stage).high
bound_in A m (suc r) F k =
    (earned_reward_in A m (fixed_joint_action m F) (F.stage + suc r) F.stage).high
    +ℤ int_sum (product (class_counts F.agents)) (λ C.
    greatest (λ a. action_look_ahead_in A m r (class_weight_in A m F C) a k) (agreeing_actions m F C))
