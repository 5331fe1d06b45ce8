-- The weights of the joint classes of an advanced front, and what it has earned, from those of the front before.
use Rattle.std.proofs.Common.{◌≡◌, inl, inr, ℕ, zero, suc, ◌+◌, ◌-◌, ◌<◌, ◌≤◌, Bool, true, false, cond, eqb, pos}
use Rattle.std.proofs.Common.{List, [], ◌∷◌, refl, sym, ap, ◌∙◌, arith}
use Rattle.std.proofs.lemmas.Bool.{cases_eq}
use Rattle.dp_spec.specs.declared.span.Span.{Span}
use Rattle.dp_spec.specs.Arithmetic.{Arithmetic, point, span_add}
use Rattle.dp_spec.specs.Front.{Front, class_counts, fixed_joint_action, joint_class}
use Rattle.dp_spec.specs.JointHistory.{IsJointHistory}
use Rattle.dp_spec.specs.JointNumbers.{product}
use Rattle.dp_spec.specs.Model.{Model, joint_observations}
use Rattle.dp_spec.specs.Quantities.{class_weight_in, earned_reward_in, history_weight_in, span_sum}
use Rattle.dp_spec.specs.Quantities.{weighted_reward_in, weights_after_in}
use Rattle.dp_spec.specs.Steps.{advanced_front}
use Rattle.dp_spec.specs.WellFormed.{IsFront}
use Rattle.dp_laws.proofs.AdvancedFronts.{action_at, action_before, as_many_agents, class_in_range, class_is_pair}
use Rattle.dp_laws.proofs.AdvancedFronts.{in_product}
use Rattle.dp_laws.proofs.JointPairs.{pair_injective}
use Rattle.dp_spec.specs.ClassSteps.{StepsByClass, chosen_joint_action, pair_number}
use Rattle.dp_laws.proofs.SpanSums.{span_history_sum_ext, span_history_sum_group, span_sum_ext, span_sum_only}
use Rattle.dp_laws.proofs.SpanSums.{where_other, where_same}

-- a test of pairs as two tests
both_where : (u v p p' q q' : ℕ) (x y : Span) → (u ≡ v → (p ≡ p') × (q ≡ q')) → (p ≡ p' → q ≡ q' → u ≡ v)
    → (p ≡ p' → x ≡ y)
    → cond (eqb u v) x (point (pos 0)) ≡ cond (eqb q q') (cond (eqb p p') y (point (pos 0))) (point (pos 0))
both_where u v p p' q q' x y apart together same =
    let none : Span = point (pos 0) in
    elim (cases_eq u v) [
      | inl e ↦
          let parts = apart e in
          (λ j. cond (eqb (e j) v) x none) ∙ where_same v x none ∙ same parts.0
          ∙ sym (where_same p' y none) ∙ sym (where_same q' (cond (eqb p' p') y none) none)
          ∙ (λ j. cond (eqb (sym parts.1 j) q') (cond (eqb (sym parts.0 j) p') y none) none)
      | inr ne ↦
          where_other u v x none ne
          ∙ elim (cases_eq q q') [
            | inl f ↦ elim (cases_eq p p') [
              | inl g ↦ absurd (ne (together g f))
              | inr ng ↦ sym ((λ j. cond (eqb q q') (where_other p p' y none ng j) none) ∙ ends (eqb q q'))
            ]
            | inr nf ↦ sym (where_other q q' (cond (eqb p p') y none) none nf)
          ]
    ]
  where
    ends : (b : Bool) → cond b (point (pos 0)) (point (pos 0)) ≡ point (pos 0)
    ends true = refl
    ends false = refl

module _ (A : Arithmetic) (m : Model) (h : ℕ) (F : Front) (front : IsFront m h F) where
  abbrev G : Front
  G = advanced_front m F

  abbrev W : List ℕ → ℕ → Span
  W = history_weight_in A m (fixed_joint_action m F)

  weights_same_to : (t : ℕ) (H : List ℕ) → t < suc F.stage → IsJointHistory (joint_observations m) t H
      → history_weight_in A m (fixed_joint_action m F) H ≡ history_weight_in A m (fixed_joint_action m G) H
  weights_same_to zero [] lt p = refl
  weights_same_to zero (o ∷ H) lt p = absurd p
  weights_same_to (suc t) [] lt p = absurd p
  weights_same_to (suc t) (o ∷ H) lt p =
      let weights = weights_same_to t H (omega arith) p.1 in
      let action = action_before m h F front t H (omega arith) p.1 in
      λ j. weights_after_in A m (weights j) (action j) o

  -- the weights of the joint histories of the stage stay
  weights_same : (H : List ℕ) → IsJointHistory (joint_observations m) F.stage H
      → W H ≡ history_weight_in A m (fixed_joint_action m G) H
  weights_same H p = weights_same_to F.stage H (omega arith) p

  -- a joint class that is a pair has the weights of the joint class after the joint observation
  pub pair_weight_in : StepsByClass A m F → (C o s : ℕ) → C < product (class_counts F.agents)
      → o < joint_observations m →
      class_weight_in A m G (pair_number (class_counts F.agents) m.observations C o) s
      ≡ weights_after_in A m (class_weight_in A m F C) (chosen_joint_action m F C) o s
  unfolding class_weight_in
  pair_weight_in steps C o s hC ho =
      let O = joint_observations m in
      let a = chosen_joint_action m F C in
      span_history_sum_ext O F.stage _ (λ H. cond (eqb (joint_class m F H) C) (weights_after_in A m (W H) a o s)
      (point (pos 0)))
      (λ H p.
      span_sum_ext O _ (λ u. cond (eqb u o) (cond (eqb (joint_class m F H) C) (weights_after_in A m (W H) a u s)
      (point (pos 0))) (point (pos 0)))
      (λ u q.
      ap (λ (z : ℕ). cond (eqb z (pair_number (class_counts F.agents) m.observations C o))
      (history_weight_in A m (fixed_joint_action m G) (u ∷ H) s) (point (pos 0)))
      (class_is_pair m h F front u H q p)
      ∙ both_where _ _ (joint_class m F H) C u o _ _
      (λ e. pair_injective (class_counts F.agents) m.observations _ _ _ _ (as_many_agents front.agents)
      (class_in_range m h F front H p) (in_product m h F front u q) hC (in_product m h F front o ho) e)
      (λ e f j. pair_number (class_counts F.agents) m.observations (e j) (f j))
      (λ e. let weights = sym (weights_same H p) in let action = action_at m h F front H p
      ∙ ap (chosen_joint_action m F) e in λ j. weights_after_in A m (weights j) (action j) u s))
      ∙ span_sum_only O o (λ u. cond (eqb u o) (cond (eqb (joint_class m F H) C)
      (weights_after_in A m (W H) a u s)
      (point (pos 0))) (point (pos 0))) ho (λ u q ne. where_other u o _ _ ne)
      ∙ where_same o _ _)
      ∙ sym (steps.weights C a o s hC)

  earned_same : (k t : ℕ) → t ≤ F.stage
      → earned_reward_in A m (fixed_joint_action m G) k t ≡ earned_reward_in A m (fixed_joint_action m F) k t
  earned_same k zero le = refl
  earned_same k (suc t) le =
      let before = earned_same k t (omega arith) in
      let now = span_history_sum_ext (joint_observations m) t _ _ (λ H p.
      let weights = sym (weights_same_to t H (omega arith) p) in
      let action = sym (action_before m h F front t H (omega arith) p) in
      λ j. weighted_reward_in A m (k - suc t) (weights j) (action j)) in
      λ j. span_add (before j) (now j)

  -- what is earned by the next stage: what was earned before, and the rewards of the joint classes
  pub advanced_earned_in : StepsByClass A m F → (k r : ℕ) → F.stage + suc r ≡ k →
      earned_reward_in A m (fixed_joint_action m G) k (suc F.stage)
      ≡ span_add (earned_reward_in A m (fixed_joint_action m F) k F.stage)
      (span_sum (product (class_counts F.agents)) (λ C. weighted_reward_in A m r (class_weight_in A m F C)
      (chosen_joint_action m F C)))
  advanced_earned_in steps k r e =
      let O = joint_observations m in
      let P = product (class_counts F.agents) in
      let left : k - suc F.stage ≡ r = omega arith in
      let before = earned_same k F.stage (omega arith) in
      let now =
      span_history_sum_ext O F.stage (λ H. weighted_reward_in A m (k - suc F.stage)
      (history_weight_in A m (fixed_joint_action m G) H) (fixed_joint_action m G H))
      (λ H. weighted_reward_in A m r (W H) (chosen_joint_action m F (joint_class m F H)))
      (λ H p. let weights = sym (weights_same H p) in let action = action_at m h F front H p in
      λ j. weighted_reward_in A m (left j) (weights j) (action j))
      ∙ span_history_sum_group O F.stage P (λ H. weighted_reward_in A m r (W H)
      (chosen_joint_action m F (joint_class m F H))) (joint_class m F) (class_in_range m h F front)
      ∙ span_sum_ext P _ _ (λ C hC.
      span_history_sum_ext O F.stage _ (λ H. cond (eqb (joint_class m F H) C)
      (weighted_reward_in A m r (W H) (chosen_joint_action m F C)) (point (pos 0)))
      (λ H p. of_class (joint_class m F H) C (λ D. weighted_reward_in A m r (W H) (chosen_joint_action m F D)))
      ∙ sym (steps.rewards C (chosen_joint_action m F C) r hC)) in
      λ j. span_add (before j) (now j)
    where
      of_class : (D C : ℕ) (v : ℕ → Span) → cond (eqb D C) (v D) (point (pos 0))
          ≡ cond (eqb D C) (v C) (point (pos 0))
      of_class D C v = elim (cases_eq D C) [
        | inl e ↦ ap (λ z. cond (eqb D C) (v z) (point (pos 0))) e
        | inr ne ↦ where_other D C (v D) _ ne ∙ sym (where_other D C (v C) _ ne)
      ]
