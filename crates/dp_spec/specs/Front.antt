-- Fronts: what a partial joint policy has fixed so far. (Own, after the clusters of histories of GMAA*-ICE, JAIR 46
-- (2013).)
use Rattle.std.specs.Prelude.{ℕ, ◌+◌, ◌*◌, cond, ◌==◌, List, [], ◌∷◌, map, length, get_or, Option}
use Rattle.dp_spec.specs.JointNumbers.{joint_number, parts_of}
use Rattle.dp_spec.specs.Model.{Model, joint_observations}
use Rattle.dp_spec.specs.JointHistory.{nat_history_sum, history_weight}

-- One agent's part of a front. An own history is the number of its observations in base of the agent's observations,
-- the first most significant.
pub record AgentFront : Type 0 where
  -- for each length below the stage, the action after each own history of that length
  pub fixed : List (List ℕ)
  -- for each own history of the stage the number of its class
  pub class_of : List ℕ
  -- for each class its action or none
  pub chosen : List (Option ℕ)

-- a front: its stage, and what is fixed and chosen for each agent
pub record Front : Type 0 where
  pub stage : ℕ
  pub agents : List AgentFront

-- the own histories, one step on, of agents with ns observations whose parts of the joint observation are ps
abbrev pub next_own_histories : List ℕ → List ℕ → List ℕ → List ℕ
next_own_histories [] xs ps = []
next_own_histories (n ∷ ns) [] ps = []
next_own_histories (n ∷ ns) (x ∷ xs) [] = []
next_own_histories (n ∷ ns) (x ∷ xs) (p ∷ ps) = (x * n + p) ∷ next_own_histories ns xs ps

-- the own histories of a joint history
abbrev pub own_histories : List ℕ → List ℕ → List ℕ
own_histories ns [] = map (λ n. 0) ns
own_histories ns (o ∷ H) = next_own_histories ns (own_histories ns H) (parts_of ns o)

-- the actions that are fixed after own histories of length t
abbrev pub fixed_actions : List AgentFront → ℕ → List ℕ → List ℕ
fixed_actions [] t xs = []
fixed_actions (d ∷ ds) t [] = []
fixed_actions (d ∷ ds) t (x ∷ xs) = get_or (get_or d.fixed t []) x 0 ∷ fixed_actions ds t xs

-- the classes of own histories
abbrev pub own_classes : List AgentFront → List ℕ → List ℕ
own_classes [] xs = []
own_classes (d ∷ ds) [] = []
own_classes (d ∷ ds) (x ∷ xs) = get_or d.class_of x 0 ∷ own_classes ds xs

-- for each agent how many classes it has
abbrev pub class_counts : List AgentFront → List ℕ
class_counts ds = map (λ (d : AgentFront). length d.chosen) ds

-- the joint action that is fixed after a joint history
unfoldable pub fixed_joint_action : Model → Front → List ℕ → ℕ
fixed_joint_action m F H = joint_number m.actions (fixed_actions F.agents (length H) (own_histories m.observations H))

-- the joint class of a joint history of the stage
unfoldable pub joint_class : Model → Front → List ℕ → ℕ
joint_class m F H = joint_number (class_counts F.agents) (own_classes F.agents (own_histories m.observations H))

-- the weight of a joint class and a state: the sum over the joint histories of the class
unfoldable pub class_weight : Model → Front → ℕ → ℕ → ℕ
class_weight m F C s =
    nat_history_sum (joint_observations m) F.stage (λ H.
    cond (joint_class m F H == C) (history_weight m (fixed_joint_action m F) H s) 0)
