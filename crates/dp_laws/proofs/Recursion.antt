-- The recursion that updates weights along the trees gives the forward worth, in any arithmetic.
use Rattle.std.proofs.Common.{◌≡◌, ℕ, zero, suc, ◌+◌, List, ◌∷◌, sym, ap, ◌∙◌, arith}
use Rattle.dp_spec.specs.declared.span.Span.{Span}
use Rattle.dp_laws.proofs.SpanSums.{span_add_assoc, span_add_none, span_history_sum_add, span_history_sum_zero}
use Rattle.dp_laws.proofs.SpanSums.{span_none_add}
use Rattle.dp_spec.specs.Arithmetic.{Arithmetic, span_add}
use Rattle.dp_spec.specs.JointHistory.{trees_after_history}
use Rattle.dp_spec.specs.Model.{Model, joint_observations, start_at}
use Rattle.dp_spec.specs.PolicyTree.{PolicyTree}
use Rattle.dp_spec.specs.Quantities.{earned_reward_in, forward_worth_in, history_weight_in, recursive_worth_in}
use Rattle.dp_spec.specs.Quantities.{span_history_sum, span_sum, weighted_reward_in}
use Rattle.dp_spec.specs.Value.{joint_root_action}

-- the recursion is what is earned before time f, and the recursions from there on
recursive_worth_at_stage : (A : Arithmetic) (m : Model) (qs : List PolicyTree) (h f r : ℕ) → f + r ≡ h →
    recursive_worth_in A m h (λ s. A.start (start_at m s)) qs
    ≡ span_add (earned_reward_in A m (λ H. joint_root_action m (trees_after_history m qs H)) h f)
    (span_history_sum (joint_observations m) f (λ H. recursive_worth_in A m r
    (history_weight_in A m (λ H. joint_root_action m (trees_after_history m qs H)) H)
    (trees_after_history m qs H)))
recursive_worth_at_stage A m qs h zero r e = let e' : r ≡ h = omega arith in rw e' (sym (span_none_add _))
recursive_worth_at_stage A m qs h (suc f) r e =
    let O = joint_observations m in
    let act = λ (H : List ℕ). joint_root_action m (trees_after_history m qs H) in
    let P = λ (k : ℕ) (H : List ℕ). weighted_reward_in A m k (history_weight_in A m act H) (act H) in
    let Q = λ (H : List ℕ). span_sum O (λ o. recursive_worth_in A m r (history_weight_in A m act (o ∷ H))
    (trees_after_history m qs (o ∷ H))) in
    recursive_worth_at_stage A m qs h f (suc r) (omega arith)
    ∙ ap (λ (x : Span). span_add (earned_reward_in A m act h f) x) (span_history_sum_add O f (P r) Q)
    ∙ sym (span_add_assoc (earned_reward_in A m act h f) (span_history_sum O f (P r)) (span_history_sum O f Q))
    ∙ ap (λ (k : ℕ). span_add (span_add (earned_reward_in A m act h f) (span_history_sum O f (P k)))
    (span_history_sum O f Q)) (omega arith)

-- and at the horizon it is what is earned
pub recursive_worth_is_forward : (A : Arithmetic) (m : Model) (h : ℕ) (qs : List PolicyTree)
    → recursive_worth_in A m h (λ s. A.start (start_at m s)) qs ≡ forward_worth_in A m h qs
unfolding forward_worth_in
recursive_worth_is_forward A m h qs =
    recursive_worth_at_stage A m qs h h 0 (omega arith)
    ∙ ap (λ (x : Span). span_add (earned_reward_in A m (λ H. joint_root_action m
    (trees_after_history m qs H)) h h)
    x) (span_history_sum_zero (joint_observations m) h)
    ∙ span_add_none _
