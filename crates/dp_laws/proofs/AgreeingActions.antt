-- the joint actions that agree with a well-formed front's choices: there is one, and choosing leaves no new one
use Rattle.std.proofs.Common.{◌≡◌, inl, inr, ℕ, zero, suc, ◌<◌, true, List, [], ◌∷◌, get_or, set, Option, Some, None}
use Rattle.std.proofs.Common.{refl, sym, ap, ◌∙◌, arith}
use Rattle.std.specs.Prelude.{unwrap_or}
use Rattle.std.specs.Cmp.Derive.{both_true}
use Rattle.std.proofs.lemmas.Bool.Decides.{nat_tests}
use Rattle.std.proofs.lemmas.List.{get_or-set_other}
use Rattle.dp_spec.specs.Bound.{agreeing_actions, agrees, all_agree}
use Rattle.dp_spec.specs.Front.{AgentFront, Front, class_counts}
use Rattle.dp_spec.specs.JointNumbers.{parts_of, product}
use Rattle.dp_spec.specs.Model.{IsModel, Model, joint_actions}
use Rattle.dp_spec.specs.Steps.{IsUnassigned, with_choice}
use Rattle.dp_base.specs.Sums.{numbers_below}
use Rattle.dp_spec.specs.WellFormed.{AreAgentFronts, IsFront}
use Rattle.dp_spec.specs.WellFormed.AreAgentFronts.{and_agent, no_agents}
use Rattle.dp_spec.proofs.JointNumberLaws.{AreBelow, joint_number_below, parts_below, parts_of-joint_number}
use Rattle.dp_spec.proofs.JointNumberLaws.{positive_left, positive_right}
use Rattle.dp_base.proofs.Members.{IsIn, IsIn-below, IsIn-filter}
use Rattle.std.proofs.lemmas.Bool.{and_parts, cases_eq}
use Rattle.dp_spec.specs.ClassSteps.{actions_for, chosen_joint_action}

-- ---- the chosen actions
agrees_with_own : (o : Option ℕ) → agrees o (unwrap_or o 0) ≡ true
agrees_with_own None = refl
agrees_with_own (Some b) = grind (arith, nat_tests)

chosen_agree : (ds : List AgentFront) (cs : List ℕ) → AreBelow (class_counts ds) cs
    → all_agree ds cs (actions_for ds cs) ≡ true
chosen_agree [] cs h = refl
chosen_agree (d ∷ ds) [] h = absurd h
chosen_agree (d ∷ ds) (c ∷ cs) h = both_true (agrees_with_own (get_or d.chosen c None)) (chosen_agree ds cs h.1)

own_below : (b : ℕ) (o : Option ℕ) → 0 < b → ((a : ℕ) → o ≡ Some a → a < b) → unwrap_or o 0 < b
own_below b None p h = p
own_below b (Some a) p h = h a refl

chosen_below : {f : ℕ} {bs ns : List ℕ} {ds : List AgentFront} → AreAgentFronts f bs ns ds → 0 < product bs
    → (cs : List ℕ) → AreBelow (class_counts ds) cs → AreBelow bs (actions_for ds cs)
chosen_below no_agents p cs h = tt
chosen_below (and_agent k ks) p [] h = absurd h
chosen_below (and_agent {b = b} {d = d} k ks) p (c ∷ cs) h = (
  own_below b (get_or d.chosen c None) (positive_left b _ 0 p) (λ a e. k.chosen_below c a h.0 e),
  chosen_below ks (positive_right b _ 0 p) cs h.1,
)

-- it agrees
pub chosen_action_agrees : (m : Model) → IsModel m → (h : ℕ) (F : Front) → IsFront m h F → (C : ℕ)
    → C < product (class_counts F.agents) → IsIn (chosen_joint_action m F C) (agreeing_actions m F C)
unfolding agreeing_actions joint_actions chosen_joint_action
chosen_action_agrees m ok h F front C p =
    let cs = parts_of (class_counts F.agents) C in
    let inside = parts_below (class_counts F.agents) C p in
    let actions_in = chosen_below front.agents ok.sizes.some_action cs inside in
    IsIn-filter _ _ (numbers_below (joint_actions m)) (IsIn-below (joint_actions m) _
    (joint_number_below m.actions _ actions_in))
    (ap (all_agree F.agents cs) (parts_of-joint_number m.actions _ actions_in)
    ∙ chosen_agree F.agents cs inside)

-- ---- after a choice
agrees_without : (os : List (Option ℕ)) (c a e x : ℕ) → get_or os c None ≡ None
    → agrees (get_or (set os c (Some a)) e None) x ≡ true → agrees (get_or os e None) x ≡ true
agrees_without os c a e x free h =
    elim (cases_eq c e) [
      | inl same ↦ ap (λ o. agrees o x) (ap (λ z. get_or os z None) (sym same) ∙ free)
      | inr ne ↦ ap (λ o. agrees o x) (sym (get_or-set_other os c e (Some a) None (λ z. ne (sym z)))) ∙ h
    ]

pub agree_without : (i c a : ℕ) (ds : List AgentFront) (cs xs : List ℕ) → IsUnassigned i c ds
    → all_agree (with_choice i c a ds) cs xs ≡ true → all_agree ds cs xs ≡ true
agree_without i c a [] cs xs free h = refl
agree_without zero c a (d ∷ ds) [] xs free h = h
agree_without (suc i) c a (d ∷ ds) [] xs free h = h
agree_without zero c a (d ∷ ds) (e ∷ cs) [] free h = h
agree_without (suc i) c a (d ∷ ds) (e ∷ cs) [] free h = h
agree_without zero c a (d ∷ ds) (e ∷ cs) (x ∷ xs) free h = let both = and_parts _ _ h in
    both_true (agrees_without d.chosen c a e x free.1 both.0) both.1
agree_without (suc i) c a (d ∷ ds) (e ∷ cs) (x ∷ xs) free h = let both = and_parts _ _ h in
    both_true both.0 (agree_without i c a ds cs xs free both.1)
