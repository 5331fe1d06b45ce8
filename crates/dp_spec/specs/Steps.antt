-- The steps of a front: the root, choosing an action for a class and taking it back, and advancing to the next stage.
use Rattle.std.specs.Prelude.{ℕ, zero, suc, ◌*◌, ◌+◌, ◌/◌, ◌%◌, ◌^◌, ◌<◌, ◌≡◌, Bool, true, false, ◌&&◌, List, [], ◌∷◌}
use Rattle.std.specs.Prelude.{◌++◌, map, length, get_or, set, replicate, Option, Some, None, is_some, unwrap_or}
use Rattle.std.specs.List.{range_with_len}
use Rattle.dp_spec.specs.Model.{Model}
use Rattle.dp_spec.specs.Front.{AgentFront, Front}

-- one class, which holds the empty history
abbrev pub root_agent : AgentFront
root_agent = record { fixed = []; class_of = 0 ∷ []; chosen = None ∷ [] }

-- the root front: at stage 0, where nothing is fixed and no action is chosen
unfoldable pub root_front : Model → Front
root_front m = record { stage = 0; agents = map (λ n. root_agent) m.actions }

-- class c of agent i exists and has no action
abbrev pub IsUnassigned : ℕ → ℕ → List AgentFront → Type 0
IsUnassigned i c [] = ⊥
IsUnassigned zero c (d ∷ ds) = (c < length d.chosen) × (get_or d.chosen c None ≡ None)
IsUnassigned (suc i) c (d ∷ ds) = IsUnassigned i c ds

-- class c of agent i is given action a
abbrev pub with_choice : ℕ → ℕ → ℕ → List AgentFront → List AgentFront
with_choice i c a [] = []
with_choice zero c a (d ∷ ds) = record d { chosen = set d.chosen c (Some a) } ∷ ds
with_choice (suc i) c a (d ∷ ds) = d ∷ with_choice i c a ds

-- the front after class c of agent i was given action a
abbrev pub chosen_front : Front → ℕ → ℕ → ℕ → Front
chosen_front F i c a = record { stage = F.stage; agents = with_choice i c a F.agents }

-- class c of agent i has action a
abbrev pub HasAction : ℕ → ℕ → ℕ → List AgentFront → Type 0
HasAction i c a [] = ⊥
HasAction zero c a (d ∷ ds) = get_or d.chosen c None ≡ Some a
HasAction (suc i) c a (d ∷ ds) = HasAction i c a ds

-- class c of agent i loses its action
abbrev pub without_choice : ℕ → ℕ → List AgentFront → List AgentFront
without_choice i c [] = []
without_choice zero c (d ∷ ds) = record d { chosen = set d.chosen c None } ∷ ds
without_choice (suc i) c (d ∷ ds) = d ∷ without_choice i c ds

-- the front after class c of agent i lost its action
abbrev pub unchosen_front : Front → ℕ → ℕ → Front
unchosen_front F i c = record { stage = F.stage; agents = without_choice i c F.agents }

-- whether every class of an agent has an action
abbrev pub all_chosen : List (Option ℕ) → Bool
all_chosen [] = true
all_chosen (o ∷ os) = is_some o && all_chosen os

-- whether every class of every agent has an action
abbrev pub is_complete : List AgentFront → Bool
is_complete [] = true
is_complete (d ∷ ds) = all_chosen d.chosen && is_complete ds

-- An agent with n observations goes on from stage f: the chosen actions are fixed, and class c followed by
-- observation o is class c * n + o.
unfoldable pub advanced_agent : ℕ → ℕ → AgentFront → AgentFront
advanced_agent n f d = record {
  fixed = d.fixed ++ map (λ x. unwrap_or (get_or d.chosen (get_or d.class_of x 0) None) 0)
      (range_with_len 0 (n ^ f)) ∷ [];
  class_of = map (λ x. get_or d.class_of (x / n) 0 * n + x % n) (range_with_len 0 (n ^ suc f));
  chosen = replicate (length d.chosen * n) None;
}

-- the agents, with ns observations, all go on from stage f
abbrev pub advanced_agents : List ℕ → ℕ → List AgentFront → List AgentFront
advanced_agents [] f ds = []
advanced_agents (n ∷ ns) f [] = []
advanced_agents (n ∷ ns) f (d ∷ ds) = advanced_agent n f d ∷ advanced_agents ns f ds

-- the front at the next stage: the chosen actions are fixed, and each class goes on with each observation
abbrev pub advanced_front : Model → Front → Front
advanced_front m F = record { stage = suc F.stage; agents = advanced_agents m.observations F.stage F.agents }

-- the advanced front where the front is complete, and else the front itself
abbrev pub advanced_if : Model → Front → Bool → Front
advanced_if m F true = advanced_front m F
advanced_if m F false = F

-- the front after a choice, and after the advance where it follows
unfoldable pub front_after_choice : Model → Front → ℕ → ℕ → ℕ → Front
front_after_choice m F i c a = advanced_if m (chosen_front F i c a) (is_complete (with_choice i c a F.agents))
