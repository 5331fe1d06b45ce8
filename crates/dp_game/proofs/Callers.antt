-- What a caller that knows the front of a game has to show for a choice.
use Rattle.std.proofs.Common.{◌≡◌, ◌<◌, inl, inr, ℕ, zero, suc, List, [], ◌∷◌, length, get_or, Option, None, Some}
use Rattle.std.proofs.Common.{sym, ◌∙◌, subst, arith}
use Rattle.std.proofs.lemmas.Bool.{cases_lt}
use Rattle.std.proofs.lemmas.List.{get_or_past}
use Rattle.dp_spec.specs.Front.{AgentFront, Front}
use Rattle.dp_spec.specs.Model.{Model}
use Rattle.dp_spec.specs.Steps.{HasAction, IsUnassigned}
use Rattle.dp_spec.specs.WellFormed.{AreAgentFronts, IsFront}
use Rattle.dp_spec.specs.WellFormed.AreAgentFronts.{and_agent, no_agents}
use Rattle.dp_game.specs.Games.{IsGameOf, KeptGame, own_choice}
use Rattle.dp_game.specs.Kept.{IsOfSomeFront}
use Rattle.dp_game.proofs.OwnChoices.{assigned_of, choices_of}

-- the agent and the class exist, and the class has this choice
pub record HasChoice (oss : List (List (Option ℕ))) (i c : ℕ) (o : Option ℕ) : Type 0 where
  pub agent : i < length oss
  pub class : c < length (get_or oss i [])
  pub is : get_or (get_or oss i []) c None ≡ o

later : (d : AgentFront) (ds : List AgentFront) (i c : ℕ) (o : Option ℕ) → HasChoice (choices_of ds) i c o
    → HasChoice (choices_of (d ∷ ds)) (suc i) c o
later d ds i c o has = record { agent = let lt = has.agent in omega arith; class = has.class; is = has.is }

unassigned_has : (ds : List AgentFront) (i c : ℕ) → IsUnassigned i c ds → HasChoice (choices_of ds) i c None
unassigned_has [] i c free = absurd free
unassigned_has (d ∷ ds) zero c free = record { agent = omega arith; class = free.0; is = free.1 }
unassigned_has (d ∷ ds) (suc i) c free = later d ds i c None (unassigned_has ds i c free)

inside : (os : List (Option ℕ)) (c a : ℕ) → get_or os c None ≡ Some a → c < length os
inside os c a e =
    elim (cases_lt c (length os)) [
      | inl lt ↦ lt
      | inr le ↦ absurd (let no_action : None ≡ Some a = sym (get_or_past os c None le) ∙ e in cc)
    ]

assigned_has : (ds : List AgentFront) (i c a : ℕ) → HasAction i c a ds → HasChoice (choices_of ds) i c (Some a)
assigned_has [] i c a has = absurd has
assigned_has (d ∷ ds) zero c a has = record { agent = omega arith; class = inside d.chosen c a has; is = has }
assigned_has (d ∷ ds) (suc i) c a has = later d ds i c (Some a) (assigned_has ds i c a has)

module _ (m : Model) (h look : ℕ) (F : Front) (g : KeptGame) (is : IsGameOf m h look F g) (i c : ℕ) where
  -- a class of the front without an action, for `choose`
  pub unassigned_in_game : IsUnassigned i c F.agents → HasChoice g.choices i c None
  unassigned_in_game free = subst (λ oss. HasChoice oss i c None) (sym is.choices)
      (unassigned_has F.agents i c free)

  -- a class of the front with an action, for `unchoose`
  pub assigned_in_game : (a : ℕ) → HasAction i c a F.agents → HasChoice g.choices i c (Some a)
  assigned_in_game a has = subst (λ oss. HasChoice oss i c (Some a)) (sym is.choices)
      (assigned_has F.agents i c a has)

  -- an action of the agent
  pub action_in_game : (a : ℕ) → a < get_or m.actions i 0 → a < get_or g.actions i 0
  action_in_game a lt = subst (λ (l : List ℕ). a < get_or l i 0) (sym is.actions) lt

-- ---- what a game says of a choice

-- a chosen action is one of its agent
own_below : {f : ℕ} {bs ns : List ℕ} {ds : List AgentFront} → AreAgentFronts f bs ns ds → (i c a : ℕ)
    → HasAction i c a ds → a < get_or bs i 0
own_below no_agents i c a has = absurd has
own_below (and_agent {d = d} k ks) zero c a has = k.chosen_below c a (inside d.chosen c a has) has
own_below (and_agent k ks) (suc i) c a has = own_below ks i c a has

pub front_choice_below : (m : Model) (h : ℕ) (F : Front) → IsFront m h F → (i c a : ℕ) → i < length (choices_of
    F.agents)
    → get_or (get_or (choices_of F.agents) i []) c None ≡ Some a → a < get_or m.actions i 0
front_choice_below m h F front i c a lt e = own_below front.agents i c a (assigned_of i c a F.agents lt e)

pub choice_below : (g : KeptGame) (i c a : ℕ) → IsOfSomeFront g → i < length g.choices
    → own_choice g i c ≡ Some a → a < get_or g.actions i 0
choice_below g i c a o lt e =
    let is = o.4 in
    let F = o.3 in
    let within : i < length (choices_of F.agents) = subst (λ oss. i < length oss) is.choices lt in
    let at = subst (λ oss. get_or (get_or oss i []) c None ≡ Some a) is.choices e in
    subst (λ (l : List ℕ). a < get_or l i 0) (sym is.actions)
    (front_choice_below o.0 o.1 F is.front i c a within at)
