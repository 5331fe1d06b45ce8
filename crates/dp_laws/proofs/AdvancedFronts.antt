-- what the advanced front of a complete front fixes, and how it weighs
use Rattle.std.proofs.Common.{◌≡◌, ◌≢◌, inl, inr, ℕ, zero, suc, ◌+◌, ◌*◌, ◌/◌, ◌%◌, ◌^◌, ◌<◌, cond, eqb, List, []}
use Rattle.std.proofs.Common.{◌∷◌, map, length, get_or, Option, None, refl, sym, ap, ◌∙◌, subst, arith}
use Rattle.std.specs.Prelude.{unwrap_or}
use Rattle.std.specs.List.{range_with_len}
use Rattle.std.proofs.lemmas.Bool.Decides.{nat_tests}
use Rattle.std.proofs.lemmas.List.{get_or_append_left, get_or_push, length-replicate}
use Rattle.std.proofs.lemmas.List.FromFn.{get_or-map-range_with_len}
use Rattle.std.proofs.lemmas.Nat.{div-mul-add, mod-mul-add}
use Rattle.dp_laws.proofs.JointPairs.{pair_injective}
use Rattle.dp_laws.proofs.LinearSteps.{weights_after_histories}
use Rattle.dp_laws.proofs.OwnHistories.{Within, next_history_below, own_histories_within}
use Rattle.dp_laws.proofs.KeptActions.{history_length}
use Rattle.dp_laws.proofs.CompleteFronts.{new_class}
use Rattle.dp_spec.specs.Front.{AgentFront, Front, class_counts, class_weight, fixed_actions, fixed_joint_action}
use Rattle.dp_spec.specs.Front.{joint_class, next_own_histories, own_classes, own_histories}
use Rattle.dp_spec.specs.JointHistory.{IsJointHistory, history_weight}
use Rattle.dp_spec.specs.JointNumbers.{joint_number, parts_of, product}
use Rattle.dp_spec.specs.LookAhead.{weights_after}
use Rattle.dp_spec.specs.Model.{Model, joint_observations}
use Rattle.dp_spec.specs.Steps.{advanced_agent, advanced_agents, advanced_front}
use Rattle.dp_spec.specs.WellFormed.{AreAgentFronts, IsFront}
use Rattle.dp_spec.specs.WellFormed.AreAgentFronts.{and_agent, no_agents}
use Rattle.dp_spec.proofs.JointNumberLaws.{AreBelow, joint_number_below, parts_below, parts_of-joint_number}
use Rattle.dp_base.proofs.NaturalSumLaws.{nat_sum_ext, nat_sum_one}
use Rattle.std.proofs.lemmas.Bool.{cases_eq}
use Rattle.dp_laws.proofs.HistorySums.{nat_history_sum_ext}
use Rattle.dp_spec.specs.ClassSteps.{actions_for, chosen_joint_action, pair_counts, pair_number}

-- ---- the lists of all agents
-- each own history of the stage has a class
pub classes_below : {f : ℕ} {bs ns : List ℕ} {ds : List AgentFront} → AreAgentFronts f bs ns ds → (xs : List ℕ)
    → Within ns f xs → AreBelow (class_counts ds) (own_classes ds xs)
classes_below no_agents xs h = tt
classes_below (and_agent k ks) [] h = absurd h
classes_below (and_agent k ks) (x ∷ xs) h = (k.class_below x h.0, classes_below ks xs h.1)

pub as_many_agents : {f : ℕ} {bs ns : List ℕ} {ds : List AgentFront} → AreAgentFronts f bs ns ds
    → length ns ≡ length (class_counts ds)
as_many_agents no_agents = refl
as_many_agents (and_agent k ks) = let e = as_many_agents ks in omega arith

pub counts_advanced : {f : ℕ} {bs ns : List ℕ} {ds : List AgentFront} → AreAgentFronts f bs ns ds
    → class_counts (advanced_agents ns f ds) ≡ pair_counts (class_counts ds) ns
unfolding advanced_agent
counts_advanced no_agents = refl
counts_advanced {f} (and_agent {n = n} {ns = ns} {d = d} {ds = ds} k ks) =
    let nothing : Option ℕ = None in
    let here = length-replicate (length d.chosen * n) nothing in
    let rest = counts_advanced ks in
    λ j. here j ∷ rest j

class_step : (n f x p : ℕ) (cs : List ℕ) → x < n ^ f → p < n
    → get_or (map (λ x. get_or cs (x / n) 0 * n + x % n) (range_with_len 0 (n ^ suc f))) (x * n + p) 0
    ≡ get_or cs x 0 * n + p
class_step n f x p cs h g =
    let first : (x * n + p) / n ≡ x = div-mul-add x n p g in
    let rest : (x * n + p) % n ≡ p = mod-mul-add x n p g in
    new_class n f (x * n + p) cs (next_history_below x n f p h g) ∙ (rw (first, rest))

pub classes_advanced : {f : ℕ} {bs ns : List ℕ} {ds : List AgentFront} → AreAgentFronts f bs ns ds
    → (xs ps : List ℕ)
    → Within ns f xs → AreBelow ns ps →
    own_classes (advanced_agents ns f ds) (next_own_histories ns xs ps)
    ≡ next_own_histories ns (own_classes ds xs) ps
unfolding advanced_agent
classes_advanced no_agents xs ps h g = refl
classes_advanced (and_agent k ks) [] ps h g = absurd h
classes_advanced (and_agent k ks) (x ∷ xs) [] h g = absurd g
classes_advanced {f} (and_agent {n = n} {d = d} k ks) (x ∷ xs) (p ∷ ps) h g =
    let here = class_step n f x p d.class_of h.0 g.0 in
    let rest = classes_advanced ks xs ps h.1 g.1 in
    λ j. here j ∷ rest j

pub fixed_before : {f : ℕ} {bs ns : List ℕ} {ds : List AgentFront} → AreAgentFronts f bs ns ds
    → (t : ℕ) (xs : List ℕ)
    → t < f → fixed_actions (advanced_agents ns f ds) t xs ≡ fixed_actions ds t xs
unfolding advanced_agent
fixed_before no_agents t xs p = refl
fixed_before (and_agent k ks) t [] p = refl
fixed_before {f} (and_agent {n = n} {d = d} k ks) t (x ∷ xs) p =
    let acts = map (λ x. unwrap_or (get_or d.chosen (get_or d.class_of x 0) None) 0)
    (range_with_len 0 (n ^ f)) in
    let here = get_or_append_left d.fixed (acts ∷ []) [] t (omega (arith, k.of_stage)) in
    let rest = fixed_before ks t xs p in
    λ j. get_or (here j) x 0 ∷ rest j

pub fixed_at : {f : ℕ} {bs ns : List ℕ} {ds : List AgentFront} → AreAgentFronts f bs ns ds → (xs : List ℕ)
    → Within ns f xs → fixed_actions (advanced_agents ns f ds) f xs ≡ actions_for ds (own_classes ds xs)
unfolding advanced_agent
fixed_at no_agents xs h = refl
fixed_at (and_agent k ks) [] h = absurd h
fixed_at {f} (and_agent {n = n} {d = d} k ks) (x ∷ xs) h =
    let act : ℕ → ℕ = λ x. unwrap_or (get_or d.chosen (get_or d.class_of x 0) None) 0 in
    let acts = map act (range_with_len 0 (n ^ f)) in
    let here = ap (λ z. get_or z x 0) (get_or_push d.fixed acts [] f k.of_stage)
    ∙ get_or-map-range_with_len act 0 (n ^ f) x x 0 h.0 (omega arith) in
    let rest = fixed_at ks xs h.1 in
    λ j. here j ∷ rest j

-- a test of pairs as two tests
pub both_tests : (u v p p' q q' x y : ℕ) → (u ≡ v → (p ≡ p') × (q ≡ q')) → (p ≡ p' → q ≡ q' → u ≡ v)
    → (p ≡ p' → x ≡ y) → cond (eqb u v) x 0 ≡ cond (eqb q q') (cond (eqb p p') y 0) 0
both_tests u v p p' q q' x y apart together same =
    elim (cases_eq u v) [
      | inl e ↦ let parts = apart e in equal (e, parts.0, parts.1, same parts.0)
      | inr ne ↦ elim (cases_eq q q') [
        | inl f ↦ elim (cases_eq p p') [ inl g ↦ absurd (ne (together g f)) | inr ng ↦ first_differs (ne, ng) ]
        | inr nf ↦ second_differs (ne, nf)
      ]
    ]
  where
    equal : (u ≡ v) × (p ≡ p') × (q ≡ q') × (x ≡ y) → cond (eqb u v) x 0
        ≡ cond (eqb q q') (cond (eqb p p') y 0) 0
    equal e = grind (arith, nat_tests)

    first_differs : (u ≢ v) × (p ≢ p') → cond (eqb u v) x 0 ≡ cond (eqb q q') (cond (eqb p p') y 0) 0
    first_differs e = grind (arith, nat_tests)

    second_differs : (u ≢ v) × (q ≢ q') → cond (eqb u v) x 0 ≡ cond (eqb q q') (cond (eqb p p') y 0) 0
    second_differs e = grind (arith, nat_tests)

-- ---- the joint actions
module _ (m : Model) (h : ℕ) (F : Front) (front : IsFront m h F) where
  abbrev G : Front
  G = advanced_front m F

  pub class_in_range : (H : List ℕ) → IsJointHistory (joint_observations m) F.stage H
      → joint_class m F H < product (class_counts F.agents)
  unfolding joint_class joint_observations
  class_in_range H p = joint_number_below _ _ (classes_below front.agents _
      (own_histories_within m.observations F.stage H p))

  pub action_before : (t : ℕ) (H : List ℕ) → t < F.stage → IsJointHistory (joint_observations m) t H
      → fixed_joint_action m F H ≡ fixed_joint_action m G H
  unfolding fixed_joint_action
  action_before t H lt p =
      let lt' : length H < F.stage = subst (λ (n : ℕ). n < F.stage) (sym (history_length _ t H p)) lt in
      ap (joint_number m.actions) (sym (fixed_before front.agents (length H) (own_histories m.observations H)
      lt'))

  -- at the stage itself the chosen one is done
  pub action_at : (H : List ℕ) → IsJointHistory (joint_observations m) F.stage H
      → fixed_joint_action m G H ≡ chosen_joint_action m F (joint_class m F H)
  unfolding fixed_joint_action chosen_joint_action joint_class joint_observations
  action_at H p =
      let xs = own_histories m.observations H in
      let w = own_histories_within m.observations F.stage H p in
      ap (λ (t : ℕ). joint_number m.actions (fixed_actions G.agents t xs)) (history_length _ F.stage H p)
      ∙ ap (joint_number m.actions) (fixed_at front.agents xs w
      ∙ ap (actions_for F.agents) (sym (parts_of-joint_number _ _ (classes_below front.agents xs w))))

  pub weight_same_to : (t : ℕ) (H : List ℕ) → t < suc F.stage → IsJointHistory (joint_observations m) t H
      → history_weight m (fixed_joint_action m F) H ≡ history_weight m (fixed_joint_action m G) H
  weight_same_to zero [] lt p = refl
  weight_same_to zero (o ∷ H) lt p = absurd p
  weight_same_to (suc t) [] lt p = absurd p
  weight_same_to (suc t) (o ∷ H) lt p =
      let weights = weight_same_to t H (omega arith) p.1 in
      let action = action_before t H (omega arith) p.1 in
      λ j. weights_after m (weights j) (action j) o

  -- the weights of the joint histories of the stage stay
  pub weight_same : (H : List ℕ) → IsJointHistory (joint_observations m) F.stage H
      → history_weight m (fixed_joint_action m F) H ≡ history_weight m (fixed_joint_action m G) H
  weight_same H p = weight_same_to F.stage H (omega arith) p

  -- ---- joint classes are pairs
  pub counts_are_pairs : class_counts G.agents ≡ pair_counts (class_counts F.agents) m.observations
  counts_are_pairs = counts_advanced front.agents

  -- a joint class of the advanced front is that of a pair
  pub class_is_pair : (o : ℕ) (H : List ℕ) → o < joint_observations m
      → IsJointHistory (joint_observations m) F.stage H →
      joint_class m G (o ∷ H) ≡ pair_number (class_counts F.agents) m.observations (joint_class m F H) o
  unfolding joint_class joint_observations
  class_is_pair o H q p =
      let w = own_histories_within m.observations F.stage H p in
      let classes = classes_advanced front.agents (own_histories m.observations H) (parts_of m.observations o) w
      (parts_below m.observations o q) in
      let parts = parts_of-joint_number (class_counts F.agents)
      (own_classes F.agents (own_histories m.observations H)) (classes_below front.agents _ w) in
      (λ j. joint_number (counts_are_pairs j) (classes j)) ∙ ap
      (λ z. joint_number (pair_counts (class_counts F.agents) m.observations)
      (next_own_histories m.observations z (parts_of m.observations o))) (sym parts)

  pub in_product : (o : ℕ) → o < joint_observations m → o < product m.observations
  unfolding joint_observations
  in_product o p = p

  -- a pair's weight is that of its class after its observation
  pub pair_weight : (C o s : ℕ) → C < product (class_counts F.agents) → o < joint_observations m →
      class_weight m G (pair_number (class_counts F.agents) m.observations C o) s
      ≡ weights_after m (class_weight m F C) (chosen_joint_action m F C) o s
  unfolding class_weight
  pair_weight C o s hC ho =
      let O = joint_observations m in
      let a = chosen_joint_action m F C in
      let W = λ (H : List ℕ). history_weight m (fixed_joint_action m F) H in
      nat_history_sum_ext O F.stage _ (λ H. cond (eqb (joint_class m F H) C) (weights_after m (W H) a o s) 0)
      (λ H p.
      nat_sum_ext O _ (λ u. cond (eqb u o) (cond (eqb (joint_class m F H) C) (weights_after m (W H) a u s) 0) 0)
      (λ u q.
      ap (λ (z : ℕ). cond (eqb z (pair_number (class_counts F.agents) m.observations C o))
      (history_weight m (fixed_joint_action m G) (u ∷ H) s) 0) (class_is_pair u H q p)
      ∙ both_tests _ _ (joint_class m F H) C u o _ _
      (λ e. pair_injective (class_counts F.agents) m.observations _ _ _ _ (as_many_agents front.agents)
      (class_in_range H p) (in_product u q) hC (in_product o ho) e)
      (λ e f j. pair_number (class_counts F.agents) m.observations (e j) (f j))
      (λ e. let weights = sym (weight_same H p) in let action = action_at H p
      ∙ ap (chosen_joint_action m F) e in
      λ j. weights_after m (weights j) (action j) u s))
      ∙ nat_sum_one O o (λ u. cond (eqb (joint_class m F H) C) (weights_after m (W H) a u s) 0) ho)
      ∙ sym (weights_after_histories m O F.stage a o s (λ H. eqb (joint_class m F H) C) W)
