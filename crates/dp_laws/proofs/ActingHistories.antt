-- The joint actions that a well-formed front has fixed and those of a joint policy exist, and the weights of joint
-- histories and classes are weights where weights can be updated.
use Rattle.std.proofs.Common.{◌≡◌, ℕ, zero, suc, ◌+◌, ◌-◌, ◌<◌, ◌≤◌, pos, cond, eqb, List, [], ◌∷◌, sym, subst, arith}
use Rattle.dp_laws.proofs.KeptActions.{history_length}
use Rattle.dp_laws.proofs.OwnHistories.{Within, own_histories_within}
use Rattle.dp_laws.proofs.OneStep.{trees_after_fit, root_joint_action_below}
use Rattle.dp_laws.proofs.OrderedSpans.{IsOrdered, history_sum_ordered, history_sum_point, total_size, weight_ordered}
use Rattle.dp_laws.proofs.OrderedSpans.{where_ordered, where_point}
use Rattle.dp_spec.specs.Arithmetic.{Arithmetic, point}
use Rattle.dp_spec.specs.Calls.{Calls}
use Rattle.dp_spec.specs.Front.{AgentFront, Front, fixed_actions, fixed_joint_action, joint_class, own_histories}
use Rattle.dp_spec.specs.JointHistory.{IsJointHistory, trees_after_history}
use Rattle.dp_spec.specs.Model.{Model, joint_actions, joint_observations}
use Rattle.dp_spec.specs.PolicyTree.{IsPolicyOf, PolicyTree}
use Rattle.dp_spec.specs.Quantities.{class_weight_in, history_weight_in}
use Rattle.dp_spec.specs.Sizes.{AreWeights, CanUpdateWeights, weight_limit}
use Rattle.dp_spec.specs.SizesOfEarnings.{IsActing}
use Rattle.dp_spec.specs.Value.{joint_root_action}
use Rattle.dp_spec.specs.WellFormed.{AreAgentFronts, IsFront}
use Rattle.dp_spec.specs.WellFormed.AreAgentFronts.{and_agent, no_agents}
use Rattle.dp_spec.proofs.JointNumberLaws.{AreBelow, joint_number_below}

-- the fixed actions after own histories are actions of the agents
fixed_below : {f : ℕ} {bs ns : List ℕ} {ds : List AgentFront} → AreAgentFronts f bs ns ds
    → (t : ℕ) (xs : List ℕ)
    → t < f → Within ns t xs → AreBelow bs (fixed_actions ds t xs)
fixed_below no_agents t xs lt inside = tt
fixed_below (and_agent k ks) t [] lt inside = absurd inside
fixed_below (and_agent k ks) t (x ∷ xs) lt inside = (
  k.fixed_below t x lt inside.0,
  fixed_below ks t xs lt inside.1,
)

-- the joint actions that a well-formed front has fixed exist
pub front_acting : (m : Model) (h : ℕ) (F : Front) → IsFront m h F → IsActing m F.stage (fixed_joint_action m F)
unfolding fixed_joint_action joint_actions joint_observations
front_acting m h F front i H lt hist =
    joint_number_below m.actions _
    (subst (λ (t : ℕ). AreBelow m.actions (fixed_actions F.agents t (own_histories m.observations H)))
    (sym (history_length _ i H hist)) (fixed_below front.agents i (own_histories m.observations H) lt
    (own_histories_within m.observations i H hist)))

-- what remains of a joint policy after a joint history is a joint policy of the steps that are left
trees_after_history_fit : (m : Model) (h : ℕ) (qs : List PolicyTree) → IsPolicyOf m h qs
    → (t r : ℕ) (H : List ℕ)
    → t + r ≡ h → IsJointHistory (joint_observations m) t H → IsPolicyOf m r (trees_after_history m qs H)
trees_after_history_fit m h qs p zero r [] e hist = let same : r ≡ h = omega arith in
    subst (λ (n : ℕ). IsPolicyOf m n qs) (sym same) p
trees_after_history_fit m h qs p zero r (o ∷ H) e hist = absurd hist
trees_after_history_fit m h qs p (suc t) r [] e hist = absurd hist
trees_after_history_fit m h qs p (suc t) r (o ∷ H) e hist = trees_after_fit m r (trees_after_history m qs H)
    o hist.0 (trees_after_history_fit m h qs p t (suc r) H (omega arith) hist.1)

-- and so do those of a joint policy
pub policy_acting : (m : Model) (h : ℕ) (qs : List PolicyTree) → IsPolicyOf m h qs
    → IsActing m h (λ H. joint_root_action m (trees_after_history m qs H))
policy_acting m h qs p t H lt hist = root_joint_action_below m (h - suc t) (trees_after_history m qs H)
    (trees_after_history_fit m h qs p t (suc (h - suc t)) H (omega arith) hist)

-- where weights can be updated the weights of a joint history are weights of its time
pub history_weights : (A : Arithmetic) (C : Calls) (m : Model) (h : ℕ) → CanUpdateWeights A C m h
    → (act : List ℕ → ℕ) (t : ℕ) (H : List ℕ) → t ≤ h → IsActing m t act
    → IsJointHistory (joint_observations m) t H
    → AreWeights A.is_exact m t (history_weight_in A m act H)
history_weights A C m h can act zero [] le acts hist = can.started
history_weights A C m h can act zero (o ∷ H) le acts hist = absurd hist
history_weights A C m h can act (suc t) [] le acts hist = absurd hist
history_weights A C m h can act (suc t) (o ∷ H) le acts hist =
    can.updated t (history_weight_in A m act H) (act H) o le
    (history_weights A C m h can act t H (omega arith) (λ i H lt p. acts i H (omega arith) p) hist.1)
    (acts t H (omega arith) hist.1) hist.0

-- and within their limit so are those of a joint class
pub class_weights : (A : Arithmetic) (C : Calls) (m : Model) (h : ℕ) → CanUpdateWeights A C m h
    → (F : Front) (c : ℕ)
    → IsFront m h F → F.stage < h → total_size m (class_weight_in A m F c) ≤ weight_limit A.is_exact m F.stage
    → AreWeights A.is_exact m F.stage (class_weight_in A m F c)
unfolding class_weight_in
class_weights A C m h can F c front lt small =
    let O = joint_observations m in
    let W = λ (H : List ℕ). history_weight_in A m (fixed_joint_action m F) H in
    let test = λ (H : List ℕ). eqb (joint_class m F H) c in
    let each : (H : List ℕ) → IsJointHistory O F.stage H → AreWeights A.is_exact m F.stage (W H) = λ H hist.
    history_weights A C m h can (fixed_joint_action m F) F.stage H (omega arith) (front_acting m h F front)
    hist in
    let ordered : (s : ℕ) → s < m.states → IsOrdered (class_weight_in A m F c s) = λ s p.
    history_sum_ordered O F.stage (λ H. cond (test H) (W H s) (point (pos 0)))
    (λ H hist. where_ordered (test H) (W H s) (weight_ordered (each H hist) s p)) in
    record {
      from = λ s p. (ordered s p).from;
      order = λ s p. (ordered s p).order;
      points = λ e s p. history_sum_point O F.stage (λ H. cond (test H) (W H s) (point (pos 0)))
          (λ H hist. where_point (test H) (W H s) ((each H hist).points e s p));
      limit = small;
    }
