-- What happens in an episode: a state to start from, and steps.
use Rattle.std.specs.Prelude.{ℕ, ℤ, pos, ◌+ℤ◌, ◌<◌, List, [], ◌∷◌}
use Rattle.dp_spec.specs.Model.{Model, obs_at, start_at, trans_at}
use Rattle.dp_sim.specs.declared.step.SimStep.{SimStep}

-- the state in which an episode starts, its steps, and the sum of their rewards
pub record Episode : Type 0 where
  pub start : ℕ
  pub steps : List SimStep
  pub total : ℤ

-- the sum of the rewards of steps, without discount
abbrev pub total_reward : List SimStep → ℤ
total_reward [] = pos 0
total_reward (step ∷ steps) = step.reward +ℤ total_reward steps

-- each state and each joint observation of the steps from state s on has a positive chance
abbrev pub ArePossible : Model → ℕ → List SimStep → Type 0
ArePossible m s [] = Unit {0}
ArePossible m s (step ∷ steps) =
    (0 < trans_at m step.action s step.next)
    × (0 < obs_at m step.action step.next step.seen)
    × ArePossible m step.next steps

-- and so does the state in which an episode starts
pub record IsPossible (m : Model) (episode : Episode) : Type 0 where
  pub start : 0 < start_at m episode.start
  pub steps : ArePossible m episode.start episode.steps
