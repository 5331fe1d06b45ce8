-- In exact arithmetic joint classes step as the sums of their joint histories, however many they hold.
use Rattle.std.proofs.Common.{◌≡◌, ℕ, ◌*◌, ◌^◌, Bool, true, false, cond, eqb, ℤ, pos, List, refl, sym, ap, ◌∙◌}
use Rattle.dp_spec.specs.declared.span.Span.{Span}
use Rattle.dp_spec.specs.Arithmetic.{Arithmetic, arithmetic, exact, point}
use Rattle.dp_spec.specs.Front.{Front, class_weight, fixed_joint_action, joint_class}
use Rattle.dp_spec.specs.JointHistory.{IsJointHistory, history_weight, nat_history_sum}
use Rattle.dp_spec.specs.LookAhead.{weighted_reward, weights_after}
use Rattle.dp_spec.specs.Model.{IsModel, Model, joint_observations, step_scale}
use Rattle.dp_spec.specs.Quantities.{class_weight_in, history_weight_in, span_history_sum, weighted_reward_in}
use Rattle.dp_spec.specs.Quantities.{weights_after_in}
use Rattle.dp_spec.specs.WellFormed.{IsFront, KeepsHistoriesApart}
use Rattle.dp_laws.proofs.LinearSteps.{reward_of_histories, weights_after_histories}
use Rattle.dp_laws.proofs.QuantityLaws.{exact_quantities}
use Rattle.dp_spec.specs.ClassSteps.{StepsByClass}
use Rattle.dp_laws.proofs.LoneHistories.{lone_steps}
use Rattle.dp_laws.proofs.SpanSums.{history_points, nat_history_points, span_history_sum_ext}

point_where : (b : Bool) (x : ℕ) → cond b (point (pos x)) (point (pos 0)) ≡ point (pos (cond b x 0))
point_where true x = refl
point_where false x = refl

int_point_where : (b : Bool) (x : ℤ) → cond b (point x) (point (pos 0)) ≡ point (cond b x (pos 0))
int_point_where true x = refl
int_point_where false x = refl

module _ (m : Model) (is : IsModel m) (F : Front) where
  abbrev A : Arithmetic
  A = exact m.scales

  abbrev W : List ℕ → ℕ → ℕ
  W = history_weight m (fixed_joint_action m F)

  abbrev WA : List ℕ → ℕ → Span
  WA = history_weight_in A m (fixed_joint_action m F)

  -- the weights after a step, from a class
  weights_of_class : (C a o t : ℕ) → weights_after_in A m (class_weight_in A m F C) a o t
      ≡ point (pos (weights_after m (class_weight m F C) a o t))
  weights_of_class C a o t =
      (exact_quantities m is).next_weights (m.scales.start * step_scale m ^ F.stage) (class_weight m F C)
      (class_weight_in A m F C) a o t
      (λ s p. (exact_quantities m is).class_weights F C s)

  weights_of_history : (H : List ℕ) (a o t : ℕ) → IsJointHistory (joint_observations m) F.stage H
      → weights_after_in A m (WA H) a o t ≡ point (pos (weights_after m (W H) a o t))
  weights_of_history H a o t p =
      (exact_quantities m is).next_weights (m.scales.start * step_scale m ^ F.stage) (W H) (WA H) a o t
      (λ s q. (exact_quantities m is).history_weights (fixed_joint_action m F) F.stage H s p)

  rewards_of_class : (C a r : ℕ) → weighted_reward_in A m r (class_weight_in A m F C) a
      ≡ point (weighted_reward m r (class_weight m F C) a)
  rewards_of_class C a r =
      (exact_quantities m is).rewards (m.scales.start * step_scale m ^ F.stage) r (class_weight m F C)
      (class_weight_in A m F C) a
      (λ s p. (exact_quantities m is).class_weights F C s)

  rewards_of_history : (H : List ℕ) (a r : ℕ) → IsJointHistory (joint_observations m) F.stage H
      → weighted_reward_in A m r (WA H) a ≡ point (weighted_reward m r (W H) a)
  rewards_of_history H a r p =
      (exact_quantities m is).rewards (m.scales.start * step_scale m ^ F.stage) r (W H) (WA H) a
      (λ s q. (exact_quantities m is).history_weights (fixed_joint_action m F) F.stage H s p)

  class_weights_are : (C : ℕ) → class_weight m F C
      ≡ (λ s. nat_history_sum (joint_observations m) F.stage (λ H. cond (eqb (joint_class m F H) C) (W H s) 0))
  unfolding class_weight
  class_weights_are C = refl

  exact_weights : (C a o t : ℕ) → weights_after_in A m (class_weight_in A m F C) a o t
      ≡ span_history_sum (joint_observations m) F.stage (λ H. cond (eqb (joint_class m F H) C)
      (weights_after_in A m (WA H) a o t) (point (pos 0)))
  exact_weights C a o t =
      let O = joint_observations m in
      weights_of_class C a o t
      ∙ ap (λ (w : ℕ → ℕ). point (pos (weights_after m w a o t))) (class_weights_are C)
      ∙ ap (λ (x : ℕ). point (pos x)) (weights_after_histories m O F.stage a o t
      (λ H. eqb (joint_class m F H) C) W)
      ∙ sym (nat_history_points O F.stage (λ H. cond (eqb (joint_class m F H) C)
      (weights_after m (W H) a o t) 0))
      ∙ span_history_sum_ext O F.stage _ _ (λ H p.
      sym (point_where (eqb (joint_class m F H) C) (weights_after m (W H) a o t))
      ∙ ap (λ (x : Span). cond (eqb (joint_class m F H) C) x (point (pos 0)))
      (sym (weights_of_history H a o t p)))

  exact_rewards : (C a r : ℕ) → weighted_reward_in A m r (class_weight_in A m F C) a
      ≡ span_history_sum (joint_observations m) F.stage (λ H. cond (eqb (joint_class m F H) C)
      (weighted_reward_in A m r (WA H) a) (point (pos 0)))
  exact_rewards C a r =
      let O = joint_observations m in
      rewards_of_class C a r
      ∙ ap (λ (w : ℕ → ℕ). point (weighted_reward m r w a)) (class_weights_are C)
      ∙ ap (λ (x : ℤ). point x) (sym (reward_of_histories m r O F.stage a (λ H. eqb (joint_class m F H) C) W))
      ∙ sym (history_points O F.stage (λ H. cond (eqb (joint_class m F H) C) (weighted_reward m r (W H) a)
      (pos 0)))
      ∙ span_history_sum_ext O F.stage _ _ (λ H p.
      sym (int_point_where (eqb (joint_class m F H) C) (weighted_reward m r (W H) a))
      ∙ ap (λ (x : Span). cond (eqb (joint_class m F H) C) x (point (pos 0)))
      (sym (rewards_of_history H a r p)))

  exact_steps : StepsByClass (exact m.scales) m F
  exact_steps = record {
    weights = λ C a o t p. exact_weights C a o t;
    rewards = λ C a r p. exact_rewards C a r;
  }

-- in the arithmetic of either mode, where in outward mode no two own histories share a class
pub mode_steps : (m : Model) → IsModel m → (h : ℕ) (F : Front) → IsFront m h F → (e : Bool)
    → (e ≡ false → KeepsHistoriesApart m F) → StepsByClass (arithmetic e m.scales) m F
mode_steps m is h F front true lone = exact_steps m is F
mode_steps m is h F front false lone = lone_steps m h F front (arithmetic false m.scales) (lone refl)
