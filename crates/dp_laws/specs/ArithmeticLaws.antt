-- What the numbers of the two arithmetics say of the exact definitions.
use Rattle.std.specs.Prelude.{ℕ, suc, ◌+◌, ◌*◌, ◌^◌, ◌<◌, ◌≤◌, ◌≡◌, Bool, List}
use Rattle.dp_spec.specs.declared.scales.Scales.{Scales}
use Rattle.dp_spec.specs.declared.span.Span.{Span}
use Rattle.dp_spec.specs.Calls.{AreInRange}
use Rattle.dp_spec.specs.Model.{IsModel, Model, joint_observations, start_at, step_scale, value_scale}
use Rattle.dp_spec.specs.PolicyTree.{PolicyTree}
use Rattle.dp_spec.specs.Value.{policy_value}
use Rattle.dp_spec.specs.MdpTable.{mdp_table}
use Rattle.dp_spec.specs.LookAhead.{action_look_ahead, look_ahead, weighted_reward, weights_after}
use Rattle.dp_spec.specs.JointHistory.{IsJointHistory, earned_reward, history_weight}
use Rattle.dp_spec.specs.Front.{Front, class_weight}
use Rattle.dp_spec.specs.Bound.{bound_of}
use Rattle.dp_spec.specs.Arithmetic.{Arithmetic, arithmetic, exact, outward}
use Rattle.dp_spec.specs.Quantities.{action_look_ahead_in, bound_in, class_weight_in, earned_reward_in}
use Rattle.dp_spec.specs.Quantities.{forward_worth_in, history_weight_in, look_ahead_in, mdp_table_in}
use Rattle.dp_spec.specs.Quantities.{recursive_worth_in, weighted_reward_in, weights_after_in}
use Rattle.dp_spec.specs.Enclosure.{Enclosure, IsSound, containment, enclosure, equality}
use Rattle.dp_spec.specs.Zeros.{KeepsZero}

-- ---- the operations, over any scales, or over those in range (as the scales of a model are)

-- each operation of the exact arithmetic gives the true number
abbrev pub ExactArithmeticIsSound : Type 0
ExactArithmeticIsSound = (c : Scales) → IsSound c (exact c) equality

-- each operation of the outward arithmetic gives a span round it
abbrev pub OutwardArithmeticIsSound : Type 0
OutwardArithmeticIsSound = (c : Scales) → AreInRange c → IsSound c (outward c) containment

-- the same of either mode
abbrev pub ArithmeticIsSound : Type 0
ArithmeticIsSound = (c : Scales) → AreInRange c → (e : Bool) → IsSound c (arithmetic e c) (enclosure e)

-- what has weight 0 or chance 0 adds nothing, over any scales
abbrev pub ArithmeticKeepsZero : Type 0
ArithmeticKeepsZero = (e : Bool) (c : Scales) → KeepsZero (arithmetic e c)

-- ---- the quantities

-- spans of weights over the scale T, one for each state
abbrev pub WeighEach : Model → Enclosure → ℕ → (ℕ → ℕ) → (ℕ → Span) → Type 0
WeighEach m R T w spans = (s : ℕ) → s < m.states → R.Weighs T (w s) (spans s)

-- What an arithmetic computes for each quantity encloses its exact definition. (Under `equality` it is the exact
-- number; under `containment` a span round it or a number above it, weights in 10^-12 and values in 10^-9.)
pub record EnclosesQuantities (m : Model) (A : Arithmetic) (R : Enclosure) : Type 0 where
  -- weights of joint histories and of joint classes, and the weights one step on
  pub history_weights : (act : List ℕ → ℕ) (t : ℕ) (H : List ℕ) (s : ℕ)
      → IsJointHistory (joint_observations m) t H
      → R.Weighs (m.scales.start * step_scale m ^ t) (history_weight m act H s) (history_weight_in A m act H s)
  pub class_weights : (F : Front) (C s : ℕ)
      → R.Weighs (m.scales.start * step_scale m ^ F.stage) (class_weight m F C s) (class_weight_in A m F C s)
  pub next_weights : (T : ℕ) (w : ℕ → ℕ) (spans : ℕ → Span) (a o t : ℕ) → WeighEach m R T w spans
      → R.Weighs (T * step_scale m) (weights_after m w a o t) (weights_after_in A m spans a o t)
  -- the reward of a joint action, what is earned before a stage, and the worth of a joint policy
  pub rewards : (T r : ℕ) (w : ℕ → ℕ) (spans : ℕ → Span) (a : ℕ) → WeighEach m R T w spans
      → R.Earns (T * (m.scales.reward * step_scale m ^ suc r)) (weighted_reward m r w a)
      (weighted_reward_in A m r spans a)
  pub earned_rewards : (act : List ℕ → ℕ) (h f : ℕ) → f ≤ h
      → R.Earns (value_scale m h) (earned_reward m act h f) (earned_reward_in A m act h f)
  pub worths : (h : ℕ) (qs : List PolicyTree)
      → R.Earns (value_scale m h) (policy_value m h qs) (forward_worth_in A m h qs)
  -- the table, look-ahead, look-ahead of a joint action, and the bound of a front
  pub tables : (r s : ℕ) → R.IsUpperBound (m.scales.reward * step_scale m ^ r) (mdp_table m r s)
      (mdp_table_in A m r s)
  pub look_aheads : (T r k : ℕ) (w : ℕ → ℕ) (spans : ℕ → Span) → WeighEach m R T w spans
      → R.IsUpperBound (T * (m.scales.reward * step_scale m ^ r)) (look_ahead m r w k)
      (look_ahead_in A m r spans k)
  pub action_look_aheads : (T r k : ℕ) (w : ℕ → ℕ) (spans : ℕ → Span) (a : ℕ) → WeighEach m R T w spans
      → R.IsUpperBound (T * (m.scales.reward * step_scale m ^ suc r)) (action_look_ahead m r w a k)
      (action_look_ahead_in A m r spans a k)
  pub bounds : (r : ℕ) (F : Front) (look : ℕ)
      → R.IsUpperBound (value_scale m (F.stage + r)) (bound_of m r F look) (bound_in A m r F look)

-- the exact arithmetic gives the number of each exact definition
abbrev pub ExactArithmeticGivesTheNumbers : Type 0
ExactArithmeticGivesTheNumbers = (m : Model) → IsModel m → EnclosesQuantities m (exact m.scales) equality

-- the outward arithmetic encloses the number of each exact definition
abbrev pub OutwardArithmeticEnclosesTheNumbers : Type 0
OutwardArithmeticEnclosesTheNumbers = (m : Model) → IsModel m
    → EnclosesQuantities m (outward m.scales) containment

-- the same of either mode
abbrev pub ArithmeticEnclosesTheNumbers : Type 0
ArithmeticEnclosesTheNumbers =
    (m : Model) → IsModel m → (e : Bool) → EnclosesQuantities m (arithmetic e m.scales) (enclosure e)

-- ---- the recursion that updates weights along the trees

-- it gives the forward worth, in any arithmetic
abbrev pub RecursionGivesForwardWorth : Type 0
RecursionGivesForwardWorth =
    (A : Arithmetic) (m : Model) (h : ℕ) (qs : List PolicyTree) →
    recursive_worth_in A m h (λ s. A.start (start_at m s)) qs ≡ forward_worth_in A m h qs
