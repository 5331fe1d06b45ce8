-- Joint classes one step on: the joint action that is chosen for each, and when their weights can be taken a step
-- further in place of those of joint histories.
use Rattle.std.specs.Prelude.{ℕ, ◌*◌, ◌<◌, ◌≡◌, cond, ◌==◌, pos, List, [], ◌∷◌, get_or, None, unwrap_or}
use Rattle.dp_spec.specs.JointNumbers.{joint_number, parts_of, product}
use Rattle.dp_spec.specs.Model.{Model, joint_observations}
use Rattle.dp_spec.specs.Front.{AgentFront, Front, class_counts, fixed_joint_action, joint_class, next_own_histories}
use Rattle.dp_spec.specs.Arithmetic.{Arithmetic, point}
use Rattle.dp_spec.specs.Quantities.{class_weight_in, history_weight_in, span_history_sum, weighted_reward_in}
use Rattle.dp_spec.specs.Quantities.{weights_after_in}

-- the actions that are chosen for classes cs, and 0 where none is
abbrev pub actions_for : List AgentFront → List ℕ → List ℕ
actions_for [] cs = []
actions_for (d ∷ ds) [] = []
actions_for (d ∷ ds) (c ∷ cs) = unwrap_or (get_or d.chosen c None) 0 ∷ actions_for ds cs

-- the joint action that is chosen for joint class C, with 0 for each class that has none
unfoldable pub chosen_joint_action : Model → Front → ℕ → ℕ
chosen_joint_action m F C = joint_number m.actions (actions_for F.agents (parts_of (class_counts F.agents) C))

-- for each agent as many as its classes cs times its observations ns
abbrev pub pair_counts : List ℕ → List ℕ → List ℕ
pair_counts [] ns = []
pair_counts (c ∷ cs) [] = []
pair_counts (c ∷ cs) (n ∷ ns) = c * n ∷ pair_counts cs ns

-- the joint class of the advanced front to which joint class C followed by joint observation o leads
abbrev pub pair_number : List ℕ → List ℕ → ℕ → ℕ → ℕ
pair_number cs ns C o = joint_number (pair_counts cs ns) (next_own_histories ns (parts_of cs C) (parts_of ns o))

-- A step from the weights of a joint class is the sum of the steps from the weights of its joint histories.
pub record StepsByClass (A : Arithmetic) (m : Model) (F : Front) : Type 0 where
  -- the weights after a joint action and a joint observation
  pub weights : (C a o t : ℕ) → C < product (class_counts F.agents) →
      weights_after_in A m (class_weight_in A m F C) a o t
      ≡ span_history_sum (joint_observations m) F.stage (λ H.
      cond (joint_class m F H == C)
      (weights_after_in A m (history_weight_in A m (fixed_joint_action m F) H) a o t) (point (pos 0)))
  -- the reward of a joint action, where r steps are left after this one
  pub rewards : (C a r : ℕ) → C < product (class_counts F.agents) →
      weighted_reward_in A m r (class_weight_in A m F C) a
      ≡ span_history_sum (joint_observations m) F.stage (λ H.
      cond (joint_class m F H == C)
      (weighted_reward_in A m r (history_weight_in A m (fixed_joint_action m F) H) a) (point (pos 0)))
