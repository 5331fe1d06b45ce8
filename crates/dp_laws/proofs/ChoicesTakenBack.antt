-- A choice that is taken back leaves the front as it was, and a front stays well formed.
use Rattle.std.proofs.Common.{◌≡◌, inl, inr, ℕ, zero, suc, ◌<◌, List, [], ◌∷◌, length, get_or, set, Option, Some}
use Rattle.std.proofs.Common.{None, refl, sym, ap, ◌∙◌, arith}
use Rattle.std.proofs.lemmas.Bool.{cases_lt}
use Rattle.std.proofs.lemmas.List.{get_or-set_same, get_or_past, length-set, set-get_or}
use Rattle.dp_spec.specs.Front.{AgentFront, Front}
use Rattle.dp_spec.specs.Model.{Model}
use Rattle.dp_spec.specs.Steps.{HasAction, IsUnassigned, chosen_front, unchosen_front, with_choice, without_choice}
use Rattle.dp_spec.specs.WellFormed.{AreAgentFronts, IsAgentFront, IsFront, NoneChosen}
use Rattle.dp_spec.specs.WellFormed.AreAgentFronts.{and_agent, no_agents}

-- ---- one place of a list

set_again : {X : Type 0} (xs : List X) (i : ℕ) (x y : X) → set (set xs i x) i y ≡ set xs i y
set_again [] i x y = refl
set_again (z ∷ xs) zero x y = refl
set_again (z ∷ xs) (suc i) x y = ap (λ (ys : List _). z ∷ ys) (set_again xs i x y)

-- a place that is set and set back
set_back : {X : Type 0} (xs : List X) (i : ℕ) (x y d : X) → get_or xs i d ≡ y → set (set xs i x) i y ≡ xs
set_back xs i x y d e = set_again xs i x y ∙ ap (set xs i) (sym e) ∙ set-get_or xs i d

-- a class that has an action is there
has_place : (os : List (Option ℕ)) (c a : ℕ) → get_or os c None ≡ Some a → c < length os
has_place os c a e =
    elim (cases_lt c (length os)) [
      | inl lt ↦ lt
      | inr le ↦ absurd (let no : None ≡ Some a = sym (get_or_past os c None le) ∙ e in cc)
    ]

-- ---- the agents

undone : (i c a : ℕ) (ds : List AgentFront) → IsUnassigned i c ds
    → without_choice i c (with_choice i c a ds) ≡ ds
undone i c a [] free = absurd free
undone zero c a (d ∷ ds) free = ap (λ (os : List (Option ℕ)). record d { chosen = os } ∷ ds)
    (set_back d.chosen c (Some a) None None free.1)
undone (suc i) c a (d ∷ ds) free = ap (λ (rest : List AgentFront). d ∷ rest) (undone i c a ds free)

done_again : (i c a : ℕ) (ds : List AgentFront) → HasAction i c a ds
    → with_choice i c a (without_choice i c ds) ≡ ds
done_again i c a [] has = absurd has
done_again zero c a (d ∷ ds) has = ap (λ (os : List (Option ℕ)). record d { chosen = os } ∷ ds)
    (set_back d.chosen c None (Some a) None has)
done_again (suc i) c a (d ∷ ds) has = ap (λ (rest : List AgentFront). d ∷ rest) (done_again i c a ds has)

unassigned_then : (i c a : ℕ) (ds : List AgentFront) → HasAction i c a ds
    → IsUnassigned i c (without_choice i c ds)
unassigned_then i c a [] has = absurd has
unassigned_then zero c a (d ∷ ds) has =
    let lt = has_place d.chosen c a has in
    let len : length (set d.chosen c None) ≡ length d.chosen = length-set d.chosen c None in
    (omega arith, get_or-set_same d.chosen c None None lt)
unassigned_then (suc i) c a (d ∷ ds) has = unassigned_then i c a ds has

assigned_then : (i c a : ℕ) (ds : List AgentFront) → IsUnassigned i c ds
    → HasAction i c a (with_choice i c a ds)
assigned_then i c a [] free = absurd free
assigned_then zero c a (d ∷ ds) free = get_or-set_same d.chosen c (Some a) None free.0
assigned_then (suc i) c a (d ∷ ds) free = assigned_then i c a ds free

-- ---- fronts

pub choosing_undone : (F : Front) (i c a : ℕ) → IsUnassigned i c F.agents
    → unchosen_front (chosen_front F i c a) i c ≡ F
choosing_undone F i c a free = ap (λ (ds : List AgentFront). record F { agents = ds })
    (undone i c a F.agents free)

pub unchoosing_undone : (F : Front) (i c a : ℕ) → HasAction i c a F.agents
    → chosen_front (unchosen_front F i c) i c a ≡ F
unchoosing_undone F i c a has = ap (λ (ds : List AgentFront). record F { agents = ds })
    (done_again i c a F.agents has)

pub unchosen_is_unassigned : (F : Front) (i c a : ℕ) → HasAction i c a F.agents
    → IsUnassigned i c (unchosen_front F i c).agents
unchosen_is_unassigned F i c a has = unassigned_then i c a F.agents has

pub chosen_has_action : (F : Front) (i c a : ℕ) → IsUnassigned i c F.agents
    → HasAction i c a (chosen_front F i c a).agents
chosen_has_action F i c a free = assigned_then i c a F.agents free

-- ---- well formed

-- what a list has where a place of it was set to none it had before
had_before : (os : List (Option ℕ)) (c e a : ℕ) → get_or (set os c None) e None ≡ Some a
    → get_or os e None ≡ Some a
had_before [] c e a has = has
had_before (o ∷ os) zero zero a has = absurd (let no : None ≡ Some a = has in cc)
had_before (o ∷ os) zero (suc e) a has = has
had_before (o ∷ os) (suc c) zero a has = has
had_before (o ∷ os) (suc c) (suc e) a has = had_before os c e a has

unchosen_agent : (b n f : ℕ) (d : AgentFront) (c : ℕ) → IsAgentFront b n f d
    → IsAgentFront b n f (record d { chosen = set d.chosen c None })
unchosen_agent b n f d c k =
    let len : length (set d.chosen c None) ≡ length d.chosen = length-set d.chosen c None in
    record {
      of_stage = k.of_stage;
      of_length = k.of_length;
      fixed_below = k.fixed_below;
      of_histories = k.of_histories;
      class_below = λ x u. let i = k.class_below x u in omega arith;
      member = λ e u. k.member e (omega arith);
      chosen_below = λ e a u has. k.chosen_below e a (omega arith) (had_before d.chosen c e a has);
    }

unchosen_agents : {f : ℕ} {bs ns : List ℕ} {ds : List AgentFront} → AreAgentFronts f bs ns ds → (i c : ℕ)
    → AreAgentFronts f bs ns (without_choice i c ds)
unchosen_agents no_agents i c = no_agents
unchosen_agents (and_agent k ks) zero c = and_agent (unchosen_agent _ _ _ _ c k) ks
unchosen_agents (and_agent k ks) (suc i) c = and_agent k (unchosen_agents ks i c)

-- a class that had no action has none
none_then : (os : List (Option ℕ)) (c e : ℕ) → get_or os e None ≡ None → get_or (set os c None) e None ≡ None
none_then [] c e none = refl
none_then (o ∷ os) zero zero none = refl
none_then (o ∷ os) zero (suc e) none = none
none_then (o ∷ os) (suc c) zero none = none
none_then (o ∷ os) (suc c) (suc e) none = none_then os c e none

none_chosen_then : (i c : ℕ) (ds : List AgentFront) → NoneChosen ds → NoneChosen (without_choice i c ds)
none_chosen_then i c [] none = tt
none_chosen_then zero c (d ∷ ds) none = ((λ e. none_then d.chosen c e (none.0 e)), none.1)
none_chosen_then (suc i) c (d ∷ ds) none = (none.0, none_chosen_then i c ds none.1)

pub unchosen_is_front : (m : Model) (h : ℕ) (F : Front) (i c : ℕ) → IsFront m h F
    → IsFront m h (unchosen_front F i c)
unchosen_is_front m h F i c front = record {
  stage_limit = front.stage_limit;
  agents = unchosen_agents front.agents i c;
  none_at_end = λ e. none_chosen_then i c F.agents (front.none_at_end e);
}
