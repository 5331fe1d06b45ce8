-- The table and the look-ahead bound every joint policy, and more look never raises the look-ahead.
use Rattle.std.specs.Prelude.{ℕ, suc, ◌<◌, ◌≤◌, ◌≡◌, pos, ◌*ℤ◌, ◌≤ℤ◌, List, ◌*◌}
use Rattle.dp_base.specs.Sums.{int_sum}
use Rattle.dp_spec.specs.Model.{Model, IsModel}
use Rattle.dp_spec.specs.PolicyTree.{PolicyTree, IsPolicyOf}
use Rattle.dp_spec.specs.Value.{backward_value, joint_root_action}
use Rattle.dp_spec.specs.MdpTable.{mdp_table}
use Rattle.dp_spec.specs.LookAhead.{look_ahead, action_look_ahead}
use Rattle.dp_spec.specs.declared.span.Span.{Span}
use Rattle.dp_spec.specs.Arithmetic.{exact, point}
use Rattle.dp_spec.specs.Quantities.{action_look_ahead_in, look_ahead_in}

-- no joint policy of r steps is worth more from a state than the table says
abbrev pub TableBoundsEveryPolicy : Type 0
TableBoundsEveryPolicy =
    (m : Model) → IsModel m → (r s : ℕ) (qs : List PolicyTree) → s < m.states → IsPolicyOf m r qs →
    backward_value m r s qs ≤ℤ mdp_table m r s

-- no joint policy of r steps earns more from weights than the look-ahead says
abbrev pub LookAheadBoundsEveryPolicy : Type 0
LookAheadBoundsEveryPolicy =
    (m : Model) → IsModel m → (r k : ℕ) (w : ℕ → ℕ) (qs : List PolicyTree) → IsPolicyOf m r qs →
    int_sum m.states (λ s. pos (w s) *ℤ backward_value m r s qs) ≤ℤ look_ahead m r w k

-- the same of the joint policies that begin with joint action a
abbrev pub ActionLookAheadBoundsEveryPolicy : Type 0
ActionLookAheadBoundsEveryPolicy =
    (m : Model) → IsModel m → (r k : ℕ) (w : ℕ → ℕ) (a : ℕ) (qs : List PolicyTree) → IsPolicyOf m (suc r) qs →
    joint_root_action m qs ≡ a →
    int_sum m.states (λ s. pos (w s) *ℤ backward_value m (suc r) s qs) ≤ℤ action_look_ahead m r w a k

-- a longer look gives no greater look-ahead
abbrev pub MoreLookNeverRaises : Type 0
MoreLookNeverRaises =
    (m : Model) → IsModel m → (r k l : ℕ) (w : ℕ → ℕ) → k ≤ l → look_ahead m r w l ≤ℤ look_ahead m r w k

-- the same where a joint action is done first
abbrev pub MoreLookNeverRaisesAction : Type 0
MoreLookNeverRaisesAction =
    (m : Model) → IsModel m → (r k l : ℕ) (w : ℕ → ℕ) (a : ℕ) → k ≤ l →
    action_look_ahead m r w a l ≤ℤ action_look_ahead m r w a k

-- ---- weights times a factor

-- k times the weights have k times the look-ahead ..
abbrev pub LookAheadScales : Type 0
LookAheadScales =
    (m : Model) (r look k : ℕ) (w : ℕ → ℕ) → look_ahead m r (λ s. k * w s) look ≡ pos k *ℤ look_ahead m r w look

-- .. and after each joint action
abbrev pub ActionLookAheadScales : Type 0
ActionLookAheadScales =
    (m : Model) (r look k : ℕ) (w : ℕ → ℕ) (a : ℕ) →
    action_look_ahead m r (λ s. k * w s) a look ≡ pos k *ℤ action_look_ahead m r w a look

-- the same in the exact arithmetic, where ws are the weights w and vs those times k
abbrev pub ExactLookAheadScales : Type 0
ExactLookAheadScales =
    (m : Model) → IsModel m → (r look k : ℕ) (w : ℕ → ℕ) (ws vs : ℕ → Span) →
    ((s : ℕ) → s < m.states → ws s ≡ point (pos (w s))) → ((s : ℕ) → s < m.states
    → vs s ≡ point (pos (k * w s))) →
    look_ahead_in (exact m.scales) m r vs look ≡ pos k *ℤ look_ahead_in (exact m.scales) m r ws look

abbrev pub ExactActionLookAheadScales : Type 0
ExactActionLookAheadScales =
    (m : Model) → IsModel m → (r look k a : ℕ) (w : ℕ → ℕ) (ws vs : ℕ → Span) →
    ((s : ℕ) → s < m.states → ws s ≡ point (pos (w s))) → ((s : ℕ) → s < m.states
    → vs s ≡ point (pos (k * w s))) →
    action_look_ahead_in (exact m.scales) m r vs a look ≡ pos k *ℤ action_look_ahead_in (exact m.scales)
    m r ws a look
