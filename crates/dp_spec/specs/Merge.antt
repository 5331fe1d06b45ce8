-- Equivalent classes and merging: probabilistic equivalence of histories (JAIR 46 (2013), lossless clustering).
use Rattle.std.specs.Prelude.{ℕ, zero, suc, ◌-◌, ◌*◌, ◌<◌, ◌≡◌, cond, ◌==◌, nat_lt, List, [], ◌∷◌, map, filter}
use Rattle.std.specs.Prelude.{length, get_or, ◌≤◌}
use Rattle.std.specs.List.{range_with_len}
use Rattle.dp_base.specs.Sums.{nat_sum}
use Rattle.dp_spec.specs.JointNumbers.{joint_number, parts_of, product}
use Rattle.dp_spec.specs.Model.{Model, joint_observations}
use Rattle.dp_spec.specs.JointHistory.{nat_history_sum, history_weight}
use Rattle.dp_spec.specs.Front.{AgentFront, Front, own_histories, own_classes, class_counts, fixed_joint_action}

-- a list without its place i
abbrev pub without : {X : Type 0} → ℕ → List X → List X
without i [] = []
without zero (x ∷ xs) = xs
without (suc i) (x ∷ xs) = x ∷ without i xs

-- a list with x put in at place i
abbrev pub inserted : {X : Type 0} → ℕ → X → List X → List X
inserted zero x xs = x ∷ xs
inserted (suc i) x [] = []
inserted (suc i) x (y ∷ xs) = y ∷ inserted i x xs

-- the joint number whose part at place i is c and whose others have joint number x
abbrev pub placed_number : ℕ → List ℕ → ℕ → ℕ → ℕ
placed_number i ns c x = joint_number ns (inserted i c (parts_of (without i ns) x))

-- the class of agent i in a joint history
unfoldable pub class_of_agent : Model → Front → ℕ → List ℕ → ℕ
class_of_agent m F i H = get_or (own_classes F.agents (own_histories m.observations H)) i 0

-- the joint class of the agents other than i in a joint history
unfoldable pub class_of_others : Model → Front → ℕ → List ℕ → ℕ
class_of_others m F i H =
    joint_number (without i (class_counts F.agents)) (without i
    (own_classes F.agents (own_histories m.observations H)))

-- the weight of class c of agent i with joint class x of the others and state s
unfoldable pub place_weight : Model → Front → ℕ → ℕ → ℕ → ℕ → ℕ
place_weight m F i c x s =
    nat_history_sum (joint_observations m) F.stage (λ H.
    cond (class_of_others m F i H == x)
    (cond (class_of_agent m F i H == c) (history_weight m (fixed_joint_action m F) H s) 0) 0)

-- the weight of class c of agent i, over all that the others saw and all states
unfoldable pub class_total : Model → Front → ℕ → ℕ → ℕ
class_total m F i c =
    nat_history_sum (joint_observations m) F.stage (λ H.
    cond (class_of_agent m F i H == c) (nat_sum m.states (λ s. history_weight m (fixed_joint_action m F) H s)) 0)

-- Two classes of agent i are equivalent where their weights are in proportion. A class of total 0 is equivalent to
-- every class.
pub record AreEquivalent (m : Model) (F : Front) (i c c' : ℕ) : Type 0 where
  pub same : (x s : ℕ) → x < product (without i (class_counts F.agents)) → s < m.states
      → place_weight m F i c x s * class_total m F i c' ≡ place_weight m F i c' x s * class_total m F i c

-- what class c is called after class second was joined into class first
abbrev pub renumbered : ℕ → ℕ → ℕ → ℕ
renumbered first second c = cond (c == second) first (cond (nat_lt second c) (c - 1) c)

-- the class that has become class c after class second was joined into a lower one
abbrev pub kept_class : ℕ → ℕ → ℕ
kept_class second c = cond (nat_lt c second) c (suc c)

-- an agent's part of a front after class second was joined into class first
abbrev pub merged_agent : ℕ → ℕ → AgentFront → AgentFront
merged_agent first second d = record {
  fixed = d.fixed;
  class_of = map (renumbered first second) d.class_of;
  chosen = without second d.chosen;
}

-- the parts of all agents after class second of agent i was joined into class first
abbrev pub merged_agents : ℕ → ℕ → ℕ → List AgentFront → List AgentFront
merged_agents i first second [] = []
merged_agents zero first second (d ∷ ds) = merged_agent first second d ∷ ds
merged_agents (suc i) first second (d ∷ ds) = d ∷ merged_agents i first second ds

-- the front after two unassigned classes of agent i were merged
abbrev pub merged_front : Front → ℕ → ℕ → ℕ → Front
merged_front F i first second = record { stage = F.stage; agents = merged_agents i first second F.agents }

-- the own histories of class c, the lowest first
abbrev pub class_members : AgentFront → ℕ → List ℕ
class_members d c = filter (λ x. get_or d.class_of x 0 == c) (range_with_len 0 (length d.class_of))

-- own history x is of class c
abbrev pub IsMember : AgentFront → ℕ → ℕ → Type 0
IsMember d c x = (x < length d.class_of) × (get_or d.class_of x 0 ≡ c)

-- the lowest own history of a class, and the highest
pub record IsLowestMember (d : AgentFront) (c x : ℕ) : Type 0 where
  pub member : IsMember d c x
  pub least : (y : ℕ) → IsMember d c y → x ≤ y

pub record IsHighestMember (d : AgentFront) (c x : ℕ) : Type 0 where
  pub member : IsMember d c x
  pub greatest : (y : ℕ) → IsMember d c y → y ≤ x
