-- Fronts with the weights of their joint classes and what they have earned, and the models that they are fronts of.
use Rattle.std.specs.Prelude.{ℕ, zero, suc, ◌+◌, ◌*◌, ◌^◌, ◌<◌, ◌≤◌, ◌≡◌, Bool, false, List, [], ◌∷◌, map, length}
use Rattle.std.specs.Prelude.{get_or, Option, None, pos}
use Rattle.dp_spec.specs.declared.span.Span.{Span}
use Rattle.dp_spec.specs.Arithmetic.{arithmetic, point}
use Rattle.dp_spec.specs.Front.{AgentFront, Front, class_counts, fixed_joint_action}
use Rattle.dp_spec.specs.JointNumbers.{product}
use Rattle.dp_spec.specs.Mode.{is_exact_mode}
use Rattle.dp_spec.specs.Model.{IsModel, Model}
use Rattle.dp_spec.specs.Quantities.{class_weight_in, earned_reward_in}
use Rattle.dp_spec.specs.WellFormed.{IsFront, KeepsHistoriesApart}
use Rattle.dp_cluster.specs.AgentParts.{OwnPart}
use Rattle.dp_cluster.specs.PastClasses.{PastClasses, past_counts}

-- a front, its horizon and mode, how many states and observations there are, for each agent its classes at each
-- earlier stage, the weights of the joint classes, one for each state, joint class by joint class, and what is earned
-- before the stage
pub record KeptFront : Type 0 where
  pub horizon : ℕ
  pub is_exact : Bool
  pub states : ℕ
  pub observations : List ℕ
  pub front : Front
  pub past : List (List PastClasses)
  pub weights : List Span
  pub earned : Span

-- what the parts of the agents are of the front, and their observations
abbrev pub part_fronts : List OwnPart → List AgentFront
part_fronts parts = map (λ (p : OwnPart). p.front) parts

abbrev pub part_observations : List OwnPart → List ℕ
part_observations parts = map (λ (p : OwnPart). p.observations) parts

abbrev pub part_past : List OwnPart → List (List PastClasses)
part_past parts = map (λ (p : OwnPart). p.past) parts

-- made of the agents' parts
abbrev pub kept_front : ℕ → Bool → ℕ → ℕ → List OwnPart → List Span → Span → KeptFront
kept_front h e states f parts weights earned = record {
  horizon = h;
  is_exact = e;
  states = states;
  observations = map (λ (p : OwnPart). p.observations) parts;
  front = record { stage = f; agents = map (λ (p : OwnPart). p.front) parts };
  past = map (λ (p : OwnPart). p.past) parts;
  weights = weights;
  earned = earned;
}

-- the kept weight of joint class C and state s
abbrev pub kept_weight : KeptFront → ℕ → ℕ → Span
kept_weight k C s = get_or k.weights (C * k.states + s) (point (pos 0))

-- the action of class c of agent i, or none
abbrev pub choice_at : List AgentFront → ℕ → ℕ → Option ℕ
choice_at [] i c = None
choice_at (d ∷ ds) zero c = get_or d.chosen c None
choice_at (d ∷ ds) (suc i) c = choice_at ds i c

-- what every front keeps: before the horizon one weight for each joint class and state, of which there are at most
-- 2^22, as there were at each earlier stage
pub record IsStored (k : KeptFront) : Type 0 where
  pub agents : length k.front.agents ≤ 6
  pub limit : k.front.stage ≤ k.horizon
  pub room : k.front.stage < k.horizon → product (class_counts k.front.agents) * k.states ≤ 2 ^ 22
  pub weights : k.front.stage < k.horizon → length k.weights ≡ product (class_counts k.front.agents) * k.states
  pub past_agents : length k.past ≡ length k.front.agents
  pub past_stages : (i : ℕ) → i < length k.past → length (get_or k.past i []) ≡ k.front.stage
  pub past_room : (t : ℕ) → t < k.front.stage → product (past_counts k.past t) * k.states ≤ 2 ^ 22

-- It is a front of the model: well formed, of the mode of its horizon, with the weights of its joint classes and
-- what it has earned in the arithmetic of that mode. In outward mode no two own histories share a class.
pub record IsFrontOf (m : Model) (k : KeptFront) : Type 0 where
  pub model : IsModel m
  pub some_step : 0 < k.horizon
  pub horizon : k.horizon ≤ 24
  pub mode : k.is_exact ≡ is_exact_mode m k.horizon
  pub states : k.states ≡ m.states
  pub observations : k.observations ≡ m.observations
  pub front : IsFront m k.horizon k.front
  pub apart : k.is_exact ≡ false → KeepsHistoriesApart m k.front
  pub weights : k.front.stage < k.horizon → (C s : ℕ) → C < product (class_counts k.front.agents) → s < m.states
      → kept_weight k C s ≡ class_weight_in (arithmetic k.is_exact m.scales) m k.front C s
  pub earned : k.earned
      ≡ earned_reward_in (arithmetic k.is_exact m.scales) m (fixed_joint_action m k.front)
      k.horizon k.front.stage
