-- how a merged front weighs, and which joint actions agree with it
use Rattle.std.proofs.Common.{◌≡◌, ◌≢◌, inl, inr, ℕ, zero, suc, ◌+◌, ◌<◌, ◌≤◌, Bool, true, false, cond, ◌&&◌, eqb}
use Rattle.std.proofs.Common.{List, [], ◌∷◌, length, get_or, filter, Option, None, refl, sym, ap, ◌∙◌, subst, arith}
use Rattle.std.proofs.lemmas.Bool.Decides.{nat_tests}
use Rattle.dp_laws.proofs.AdvancedFronts.{both_tests, classes_below}
use Rattle.dp_laws.proofs.JointPlaces.{below_others, joint_is_placed, parts-placed, placed_injective}
use Rattle.dp_laws.proofs.MergedAgents.{get_or-renumbered, get_or-without_above, get_or-without_below, length-without}
use Rattle.dp_laws.proofs.MergedTrees.{fixed_joint_action_merged}
use Rattle.dp_laws.proofs.OwnHistories.{own_histories_within}
use Rattle.dp_spec.specs.Bound.{agreeing_actions, agrees, all_agree}
use Rattle.dp_spec.specs.Front.{AgentFront, Front, class_counts, class_weight, fixed_joint_action, joint_class}
use Rattle.dp_spec.specs.Front.{own_classes, own_histories}
use Rattle.dp_spec.specs.JointHistory.{IsJointHistory, history_weight, nat_history_sum}
use Rattle.dp_spec.specs.JointNumbers.{joint_number, parts_of, product}
use Rattle.dp_spec.specs.Merge.{class_of_agent, class_of_others, inserted, merged_agents, merged_front, place_weight}
use Rattle.dp_spec.specs.Merge.{renumbered, without, placed_number, kept_class}
use Rattle.dp_spec.specs.Model.{Model, joint_actions, joint_observations}
use Rattle.dp_spec.specs.Steps.{IsUnassigned}
use Rattle.dp_base.specs.Sums.{numbers_below}
use Rattle.dp_spec.specs.WellFormed.{IsFront}
use Rattle.dp_spec.proofs.JointNumberLaws.{AreBelow, below_at, joint_number_below}
use Rattle.std.proofs.lemmas.Bool.{cases_lt}
use Rattle.dp_laws.proofs.HistorySums.{nat_history_sum_add, nat_history_sum_ext}

-- ---- a joint class by the class of one agent
pub unassigned_agent : (i c : ℕ) (ds : List AgentFront) → IsUnassigned i c ds
    → (i < length (class_counts ds)) × (c < get_or (class_counts ds) i 0)
unassigned_agent i c [] free = absurd free
unassigned_agent zero c (d ∷ ds) free = (omega arith, free.0)
unassigned_agent (suc i) c (d ∷ ds) free = let rest = unassigned_agent i c ds free in
    (omega (arith, rest.0), rest.1)

module _ (m : Model) (h : ℕ) (F : Front) (front : IsFront m h F) (i : ℕ)
    (i_in : i < length (class_counts F.agents)) where
  classes_in : (H : List ℕ) → IsJointHistory (joint_observations m) F.stage H
      → AreBelow (class_counts F.agents) (own_classes F.agents (own_histories m.observations H))
  unfolding joint_observations
  classes_in H p = classes_below front.agents _ (own_histories_within m.observations F.stage H p)

  agent_in_range : (H : List ℕ) → IsJointHistory (joint_observations m) F.stage H
      → class_of_agent m F i H < get_or (class_counts F.agents) i 0
  unfolding class_of_agent
  agent_in_range H p = below_at i _ _ i_in (classes_in H p)

  -- and so is the joint class of the others
  pub others_in_range : (H : List ℕ) → IsJointHistory (joint_observations m) F.stage H
      → class_of_others m F i H < product (without i (class_counts F.agents))
  unfolding class_of_others
  others_in_range H p = joint_number_below _ _ (below_others i _ _ (classes_in H p))

  class_is_placed : (H : List ℕ) → IsJointHistory (joint_observations m) F.stage H
      → joint_class m F H ≡ placed_number i (class_counts F.agents) (class_of_agent m F i H)
      (class_of_others m F i H)
  unfolding joint_class class_of_agent class_of_others
  class_is_placed H p = joint_is_placed i _ _ i_in (classes_in H p)

  -- the weight of a joint class is that of the agent's class with the others'
  pub placed_weight : (c x s : ℕ) → c < get_or (class_counts F.agents) i 0
      → x < product (without i (class_counts F.agents))
      → class_weight m F (placed_number i (class_counts F.agents) c x) s ≡ place_weight m F i c x s
  unfolding class_weight place_weight
  placed_weight c x s hc hx =
      let counts = class_counts F.agents in
      nat_history_sum_ext (joint_observations m) F.stage _ _ (λ H p.
      ap (λ (z : ℕ). cond (eqb z (placed_number i counts c x))
      (history_weight m (fixed_joint_action m F) H s) 0)
      (class_is_placed H p)
      ∙ both_tests _ _ (class_of_agent m F i H) c (class_of_others m F i H) x _ _
      (λ e. placed_injective i counts _ _ c x i_in (agent_in_range H p) (others_in_range H p) hc hx e)
      (λ e f j. placed_number i counts (e j) (f j))
      (λ e. refl))

-- ---- the lists of a merged front
pub counts_of_others : (i a b : ℕ) (ds : List AgentFront)
    → without i (class_counts (merged_agents i a b ds)) ≡ without i (class_counts ds)
counts_of_others i a b [] = refl
counts_of_others zero a b (d ∷ ds) = refl
counts_of_others (suc i) a b (d ∷ ds) = ap (λ z. length d.chosen ∷ z) (counts_of_others i a b ds)

pub one_class_less : (i a b : ℕ) (ds : List AgentFront) → IsUnassigned i b ds
    → suc (get_or (class_counts (merged_agents i a b ds)) i 0) ≡ get_or (class_counts ds) i 0
one_class_less i a b [] free = absurd free
one_class_less zero a b (d ∷ ds) free = length-without b d.chosen free.0
one_class_less (suc i) a b (d ∷ ds) free = one_class_less i a b ds free

pub as_many_merged : (i a b : ℕ) (ds : List AgentFront)
    → length (class_counts (merged_agents i a b ds)) ≡ length (class_counts ds)
as_many_merged i a b [] = refl
as_many_merged zero a b (d ∷ ds) = refl
as_many_merged (suc i) a b (d ∷ ds) = ap suc (as_many_merged i a b ds)

classes_of_others : (i a b : ℕ) (ds : List AgentFront) (xs : List ℕ)
    → without i (own_classes (merged_agents i a b ds) xs) ≡ without i (own_classes ds xs)
classes_of_others i a b [] xs = refl
classes_of_others zero a b (d ∷ ds) [] = refl
classes_of_others (suc i) a b (d ∷ ds) [] = refl
classes_of_others zero a b (d ∷ ds) (x ∷ xs) = refl
classes_of_others (suc i) a b (d ∷ ds) (x ∷ xs) = ap (λ z. get_or d.class_of x 0 ∷ z)
    (classes_of_others i a b ds xs)

renumbered_none : (a b : ℕ) → a < b → 0 ≡ renumbered a b 0
renumbered_none a b h = grind (arith, nat_tests)

class_renumbered : (i a b : ℕ) (ds : List AgentFront) (xs : List ℕ) → a < b
    → get_or (own_classes (merged_agents i a b ds) xs) i 0 ≡ renumbered a b (get_or (own_classes ds xs) i 0)
class_renumbered i a b [] xs h = renumbered_none a b h
class_renumbered zero a b (d ∷ ds) [] h = renumbered_none a b h
class_renumbered (suc i) a b (d ∷ ds) [] h = renumbered_none a b h
class_renumbered zero a b (d ∷ ds) (x ∷ xs) h = get_or-renumbered a b d.class_of x h
class_renumbered (suc i) a b (d ∷ ds) (x ∷ xs) h = class_renumbered i a b ds xs h

-- ---- weights
same_test : (a b k c w : ℕ) → a < b → a ≢ c → cond (eqb (renumbered a b k) c) w 0
    ≡ cond (eqb k (kept_class b c)) w 0
same_test a b k c w h ne = grind (arith, nat_tests)

joined_test : (a b k w : ℕ) → a < b → cond (eqb (renumbered a b k) a) w 0
    ≡ cond (eqb k a) w 0 + cond (eqb k b) w 0
joined_test a b k w h = grind (arith, nat_tests)

cond_add : (t : Bool) (x y : ℕ) → cond t (x + y) 0 ≡ cond t x 0 + cond t y 0
cond_add true x y = refl
cond_add false x y = refl

module _ (m : Model) (F : Front) (i a b : ℕ) (ab : a < b) where
  abbrev G : Front
  G = merged_front F i a b

  agent_merged : (H : List ℕ) → class_of_agent m G i H ≡ renumbered a b (class_of_agent m F i H)
  unfolding class_of_agent
  agent_merged H = class_renumbered i a b F.agents (own_histories m.observations H) ab

  others_merged : (H : List ℕ) → class_of_others m G i H ≡ class_of_others m F i H
  unfolding class_of_others
  others_merged H = λ j. joint_number (counts_of_others i a b F.agents j)
      (classes_of_others i a b F.agents (own_histories m.observations H) j)

  place_merged_to : (c x s : ℕ) → place_weight m G i c x s
      ≡ nat_history_sum (joint_observations m) F.stage (λ H. cond (eqb (class_of_others m F i H) x)
      (cond (eqb (renumbered a b (class_of_agent m F i H)) c) (history_weight m (fixed_joint_action m F) H s)
      0) 0)
  unfolding place_weight
  place_merged_to c x s = λ j. nat_history_sum (joint_observations m) F.stage
      (λ H. cond (eqb (others_merged H j) x) (cond (eqb (agent_merged H j) c)
      (history_weight m (fixed_joint_action_merged m F i a b j) H s) 0) 0)

  -- the weight of a class that was not joined
  pub kept_weight : (c x s : ℕ) → a ≢ c → place_weight m G i c x s ≡ place_weight m F i (kept_class b c) x s
  unfolding place_weight
  kept_weight c x s ne =
      place_merged_to c x s
      ∙ nat_history_sum_ext (joint_observations m) F.stage _ _
      (λ H p. ap (λ (z : ℕ). cond (eqb (class_of_others m F i H) x) z 0)
      (same_test a b (class_of_agent m F i H) c (history_weight m (fixed_joint_action m F) H s) ab ne))

  -- the weight of the joined class is the sum of the two
  pub joined_weight : (x s : ℕ) → place_weight m G i a x s ≡ place_weight m F i a x s + place_weight m F i b x s
  unfolding place_weight
  joined_weight x s =
      place_merged_to a x s
      ∙ nat_history_sum_ext (joint_observations m) F.stage _ _ (λ H p.
      ap (λ (z : ℕ). cond (eqb (class_of_others m F i H) x) z 0)
      (joined_test a b (class_of_agent m F i H) (history_weight m (fixed_joint_action m F) H s) ab)
      ∙ cond_add (eqb (class_of_others m F i H) x) _ _)
      ∙ nat_history_sum_add (joint_observations m) F.stage _ _

-- ---- the joint actions that agree
pub kept_low : (b c : ℕ) → c < b → c ≡ kept_class b c
kept_low b c h = grind (arith, nat_tests)

pub kept_high : (b c : ℕ) → b ≤ c → suc c ≡ kept_class b c
kept_high b c h = grind (arith, nat_tests)

pub kept_below : (b c k n : ℕ) → c < k → suc k ≡ n → kept_class b c < n
kept_below b c k n h e = grind (arith, nat_tests)

choice_kept : (b c : ℕ) (os : List (Option ℕ)) → get_or (without b os) c None ≡ get_or os (kept_class b c) None
choice_kept b c os =
    elim (cases_lt c b) [
      | inl low ↦ get_or-without_below b os c None low ∙ ap (λ z. get_or os z None) (kept_low b c low)
      | inr high ↦ get_or-without_above b os c None high ∙ ap (λ z. get_or os z None) (kept_high b c high)
    ]

agree_kept : (i a b c : ℕ) (ds : List AgentFront) (ps xs : List ℕ)
    → all_agree (merged_agents i a b ds) (inserted i c ps) xs ≡ all_agree ds (inserted i (kept_class b c) ps) xs
agree_kept i a b c [] ps xs = refl
agree_kept zero a b c (d ∷ ds) ps [] = refl
agree_kept zero a b c (d ∷ ds) ps (x ∷ xs) = ap (λ o. agrees o x && all_agree ds ps xs)
    (choice_kept b c d.chosen)
agree_kept (suc i) a b c (d ∷ ds) [] xs = refl
agree_kept (suc i) a b c (d ∷ ds) (p ∷ ps) [] = refl
agree_kept (suc i) a b c (d ∷ ds) (p ∷ ps) (x ∷ xs) = ap (λ z. agrees (get_or d.chosen p None) x && z)
    (agree_kept i a b c ds ps xs)

agree_either : (i a b : ℕ) (ds : List AgentFront) (ps xs : List ℕ) → IsUnassigned i a ds → IsUnassigned i b ds
    → all_agree ds (inserted i b ps) xs ≡ all_agree ds (inserted i a ps) xs
agree_either i a b [] ps xs p q = absurd p
agree_either zero a b (d ∷ ds) ps [] p q = refl
agree_either zero a b (d ∷ ds) ps (x ∷ xs) p q = ap (λ o. agrees o x && all_agree ds ps xs) (q.1 ∙ sym p.1)
agree_either (suc i) a b (d ∷ ds) [] xs p q = refl
agree_either (suc i) a b (d ∷ ds) (e ∷ ps) [] p q = refl
agree_either (suc i) a b (d ∷ ds) (e ∷ ps) (x ∷ xs) p q = ap (λ z. agrees (get_or d.chosen e None) x && z)
    (agree_either i a b ds ps xs p q)

-- by the parts of a joint class
agreeing_parts : (m : Model) (F : Front) (C : ℕ) (cs : List ℕ) → parts_of (class_counts F.agents) C ≡ cs
    → agreeing_actions m F C
    ≡ filter (λ x. all_agree F.agents cs (parts_of m.actions x)) (numbers_below (joint_actions m))
unfolding agreeing_actions
agreeing_parts m F C cs e = ap (λ z. filter (λ x. all_agree F.agents z (parts_of m.actions x))
    (numbers_below (joint_actions m))) e

module _ (m : Model) (F : Front) (i a b : ℕ) (free_a : IsUnassigned i a F.agents)
    (free_b : IsUnassigned i b F.agents) where
  -- with a class of the merged front agree those that agree with the old class
  pub agreeing_kept : (c x : ℕ) → c < get_or (class_counts (merged_agents i a b F.agents)) i 0
      → x < product (without i (class_counts F.agents)) →
      agreeing_actions m (merged_front F i a b) (placed_number i
      (class_counts (merged_agents i a b F.agents)) c x)
      ≡ agreeing_actions m F (placed_number i (class_counts F.agents) (kept_class b c) x)
  agreeing_kept c x hc hx =
      let counts = class_counts F.agents in
      let merged = class_counts (merged_agents i a b F.agents) in
      let others = counts_of_others i a b F.agents in
      let i_in = (unassigned_agent i a F.agents free_a).0 in
      let i_in' : i < length merged = omega (arith, as_many_merged i a b F.agents) in
      let hx' : x < product (without i merged) = subst (λ (z : List ℕ). x < product z) (sym others) hx in
      agreeing_parts m (merged_front F i a b) _ _ (parts-placed i merged c x i_in' hc hx'
      ∙ ap (λ z. inserted i c (parts_of z x)) others)
      ∙ (λ j. filter (λ y. agree_kept i a b c F.agents (parts_of (without i counts) x) (parts_of m.actions y) j)
      (numbers_below (joint_actions m)))
      ∙ sym (agreeing_parts m F _ _ (parts-placed i counts (kept_class b c) x i_in
      (kept_below b c _ _ hc (one_class_less i a b F.agents free_b)) hx))

  -- with the two classes agree the same
  pub agreeing_either : (x : ℕ) → x < product (without i (class_counts F.agents))
      → agreeing_actions m F (placed_number i (class_counts F.agents) b x)
      ≡ agreeing_actions m F (placed_number i (class_counts F.agents) a x)
  agreeing_either x hx =
      let i_in = unassigned_agent i a F.agents free_a in
      let b_in = unassigned_agent i b F.agents free_b in
      agreeing_parts m F _ _ (parts-placed i (class_counts F.agents) b x i_in.0 b_in.1 hx)
      ∙ (λ j. filter (λ y. agree_either i a b F.agents (parts_of (without i (class_counts F.agents)) x)
      (parts_of m.actions y) free_a free_b j) (numbers_below (joint_actions m)))
      ∙ sym (agreeing_parts m F _ _ (parts-placed i (class_counts F.agents) a x i_in.0 i_in.1 hx))
