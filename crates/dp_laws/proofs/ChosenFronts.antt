-- choosing changes no weight and nothing that is earned
use Rattle.std.proofs.Common.{◌≡◌, ◌↔◌, ℕ, zero, suc, ◌<◌, cond, eqb, List, [], ◌∷◌, length, get_or, Some, refl, sym}
use Rattle.std.proofs.Common.{ap, subst}
use Rattle.std.proofs.Math.ListN.{length-set}
use Rattle.dp_laws.specs.ChoosingLaws.{WeighAlike}
use Rattle.dp_spec.specs.Front.{AgentFront, Front, class_counts, class_weight, fixed_actions, fixed_joint_action}
use Rattle.dp_spec.specs.Front.{joint_class, own_classes, own_histories}
use Rattle.dp_spec.specs.JointHistory.{earned_reward, history_weight, nat_history_sum}
use Rattle.dp_spec.specs.JointNumbers.{joint_number, product}
use Rattle.dp_spec.specs.Merge.{AreEquivalent, class_of_agent, class_of_others, class_total, place_weight, without}
use Rattle.dp_spec.specs.Model.{Model, joint_observations}
use Rattle.dp_spec.specs.Steps.{chosen_front, with_choice}
use Rattle.dp_base.specs.Sums.{nat_sum}

fixed_chosen : (i c a : ℕ) (ds : List AgentFront) (t : ℕ) (xs : List ℕ)
    → fixed_actions (with_choice i c a ds) t xs ≡ fixed_actions ds t xs
fixed_chosen i c a [] t xs = refl
fixed_chosen zero c a (d ∷ ds) t [] = refl
fixed_chosen (suc i) c a (d ∷ ds) t [] = refl
fixed_chosen zero c a (d ∷ ds) t (x ∷ xs) = refl
fixed_chosen (suc i) c a (d ∷ ds) t (x ∷ xs) = ap (λ z. get_or (get_or d.fixed t []) x 0 ∷ z)
    (fixed_chosen i c a ds t xs)

-- there are as many classes as before
pub counts_chosen : (i c a : ℕ) (ds : List AgentFront) → class_counts (with_choice i c a ds) ≡ class_counts ds
counts_chosen i c a [] = refl
counts_chosen zero c a (d ∷ ds) = ap (λ z. z ∷ class_counts ds) (length-set d.chosen c (Some a))
counts_chosen (suc i) c a (d ∷ ds) = ap (λ z. length d.chosen ∷ z) (counts_chosen i c a ds)

-- and they hold the same own histories
pub classes_chosen : (i c a : ℕ) (ds : List AgentFront) (xs : List ℕ)
    → own_classes (with_choice i c a ds) xs ≡ own_classes ds xs
classes_chosen i c a [] xs = refl
classes_chosen zero c a (d ∷ ds) [] = refl
classes_chosen (suc i) c a (d ∷ ds) [] = refl
classes_chosen zero c a (d ∷ ds) (x ∷ xs) = refl
classes_chosen (suc i) c a (d ∷ ds) (x ∷ xs) = ap (λ z. get_or d.class_of x 0 ∷ z) (classes_chosen i c a ds xs)

module _ (m : Model) (F : Front) (i c a : ℕ) where
  abbrev G : Front
  G = chosen_front F i c a

  pub actions_chosen : fixed_joint_action m G ≡ fixed_joint_action m F
  unfolding fixed_joint_action
  actions_chosen = λ k H. joint_number m.actions (fixed_chosen i c a F.agents (length H)
      (own_histories m.observations H) k)

  -- the joint classes stay
  pub joint_class_chosen : joint_class m G ≡ joint_class m F
  unfolding joint_class
  joint_class_chosen = λ k H. joint_number (counts_chosen i c a F.agents k)
      (classes_chosen i c a F.agents (own_histories m.observations H) k)

  class_of_agent_chosen : (j : ℕ) → class_of_agent m G j ≡ class_of_agent m F j
  unfolding class_of_agent
  class_of_agent_chosen j = λ k H. get_or (classes_chosen i c a F.agents (own_histories m.observations H) k) j 0

  class_of_others_chosen : (j : ℕ) → class_of_others m G j ≡ class_of_others m F j
  unfolding class_of_others
  class_of_others_chosen j = λ k H. joint_number (without j (counts_chosen i c a F.agents k))
      (without j (classes_chosen i c a F.agents (own_histories m.observations H) k))

  pub weight_chosen : class_weight m G ≡ class_weight m F
  unfolding class_weight
  weight_chosen = λ k C s. nat_history_sum (joint_observations m) F.stage
      (λ H. cond (eqb (joint_class_chosen k H) C) (history_weight m (actions_chosen k) H s) 0)

  place_chosen : (j y x s : ℕ) → place_weight m G j y x s ≡ place_weight m F j y x s
  unfolding place_weight
  place_chosen j y x s = λ k. nat_history_sum (joint_observations m) F.stage
      (λ H. cond (eqb (class_of_others_chosen j k H) x) (cond (eqb (class_of_agent_chosen j k H) y)
      (history_weight m (actions_chosen k) H s) 0) 0)

  total_chosen : (j y : ℕ) → class_total m G j y ≡ class_total m F j y
  unfolding class_total
  total_chosen j y = λ k. nat_history_sum (joint_observations m) F.stage
      (λ H. cond (eqb (class_of_agent_chosen j k H) y) (nat_sum m.states
      (λ s. history_weight m (actions_chosen k) H s)) 0)

  -- choosing changes no weight and nothing that is earned
  pub chosen_weighs_alike : WeighAlike m G F
  chosen_weighs_alike = record {
    actions = λ H k. actions_chosen k H;
    earned = λ h t. ap (λ act. earned_reward m act h t) actions_chosen;
    joint_classes = λ C s k. weight_chosen k C s;
    places = place_chosen;
    totals = total_chosen;
  }

  -- equivalence does not depend on choices
  pub chosen_equivalence : (j first second : ℕ) → AreEquivalent m G j first second ↔ AreEquivalent m F j
      first second
  chosen_equivalence j first second =
      let counts : product (without j (class_counts G.agents))
      ≡ product (without j (class_counts F.agents)) = ap (λ z. product (without j z))
      (counts_chosen i c a F.agents) in (
        λ e. record {
          same = λ x s p q.
              let h = e.same x s (subst (λ (n : ℕ). x < n) (sym counts) p) q in
              let first_place = place_chosen j first x s in
              let second_place = place_chosen j second x s in
              let first_total = total_chosen j first in
              let second_total = total_chosen j second in cc;
        },
        λ e. record {
          same = λ x s p q.
              let h = e.same x s (subst (λ (n : ℕ). x < n) counts p) q in
              let first_place = place_chosen j first x s in
              let second_place = place_chosen j second x s in
              let first_total = total_chosen j first in
              let second_total = total_chosen j second in cc;
        },
      )
