-- Worked rows of drawing, and of an episode by given words.
use Rattle.std.proofs.Common.{◌≡◌, ℕ, ◌*◌, ◌-◌, ◌^◌, pos, List, [], ◌∷◌, get_or, map, refl}
use Rattle.std.specs.List.{range_with_len}
use Rattle.dp_spec.specs.Model.{Model, joint_observations, obs_at, reward_at, start_at, trans_at}
use Rattle.dp_spec.specs.PolicyTree.{PolicyTree, more_trees, no_trees, node}
use Rattle.dp_spec.specs.Value.{joint_root_action, trees_after}
use Rattle.dp_sim.specs.declared.step.SimStep.{SimStep}
use Rattle.dp_sim.specs.Draw.{drawn, running_sums}
use Rattle.dp_sim.specs.Episode.{episode_drawn, step_drawn}

-- ---- a row of three cells over the scale 8: 1, 4 and 3

abbrev row : ℕ → ℕ
row i = get_or (1 ∷ 4 ∷ 3 ∷ []) i 0

sums_of_row : running_sums 3 row ≡ 1 ∷ 5 ∷ 8 ∷ []
sums_of_row = refl

-- the word stands for 0, which is less than the first sum
first_cell : drawn 3 8 row (2 ^ 61 - 1) ≡ 0
unfolding drawn
first_cell = refl

-- it stands for 1, which the first sum does not exceed
second_cell : drawn 3 8 row (2 ^ 61) ≡ 1
unfolding drawn
second_cell = refl

-- for 4, and for 5
before_the_third : drawn 3 8 row (5 * 2 ^ 61 - 1) ≡ 1
unfolding drawn
before_the_third = refl

third_cell : drawn 3 8 row (5 * 2 ^ 61) ≡ 2
unfolding drawn
third_cell = refl

last_word : drawn 3 8 row (2 ^ 64 - 1) ≡ 2
unfolding drawn
last_word = refl

-- a cell of 0 is not drawn
empty_cell : drawn 2 4 (λ i. 4 * i) 0 ≡ 1
unfolding drawn
empty_cell = refl

-- ---- episodes of two agents with two actions and two observations each, in a model of two states

unfoldable maze : Model
maze = record {
  states = 2;
  actions = 2 ∷ 2 ∷ [];
  observations = 2 ∷ 2 ∷ [];
  scales = record { start = 4; trans = 4; obs = 8; reward = 1; discount = 10; gain = 9 };
  start = 1 ∷ 3 ∷ [];
  trans = 1 ∷ 3 ∷ 2 ∷ 2 ∷ 3 ∷ 1 ∷ 0 ∷ 4 ∷ 0 ∷ 4 ∷ 1 ∷ 3 ∷ 2 ∷ 2 ∷ 4 ∷ 0 ∷ [];
  obs = 1 ∷ 2 ∷ 2 ∷ 3 ∷ 4 ∷ 0 ∷ 3 ∷ 1 ∷ 0 ∷ 8 ∷ 0 ∷ 0 ∷ 2 ∷ 2 ∷ 1 ∷ 3
      ∷ 5 ∷ 1 ∷ 1 ∷ 1 ∷ 0 ∷ 0 ∷ 4 ∷ 4 ∷ 2 ∷ 0 ∷ 6 ∷ 0 ∷ 1 ∷ 1 ∷ 1 ∷ 5 ∷ [];
  reward = map pos (range_with_len 0 64);
}

abbrev two : ℕ → PolicyTree → PolicyTree → PolicyTree
two a left right = node a (more_trees left (more_trees right no_trees))

abbrev last : ℕ → PolicyTree
last a = node a no_trees

abbrev trees : List PolicyTree
trees =
    two 0 (two 1 (last 0) (last 1)) (two 0 (last 1) (last 0))
    ∷ two 1 (two 0 (last 1) (last 0)) (two 1 (last 1) (last 0))
    ∷ []

abbrev eighths : List ℕ → List ℕ
eighths words = map (λ x. x * 2 ^ 61) words

abbrev step : ℕ → ℕ → ℕ → ℕ → SimStep
step a t o r = record { action = a; next = t; seen = o; reward = pos r }

-- in the first step the second agent sees 0 and the first 0; then 1 and 0
seen_apart : episode_drawn maze 3 trees (eighths (4 ∷ 5 ∷ 0 ∷ 7 ∷ 3 ∷ 0 ∷ 2 ∷ []))
    ≡ record { start = 1; steps = step 1 1 0 28 ∷ step 2 1 2 46 ∷ step 3 0 2 58 ∷ []; total = pos 132 }
unfolding maze drawn step_drawn joint_observations joint_root_action trees_after start_at trans_at obs_at reward_at
seen_apart = refl

-- what is seen is drawn where the step arrives, in state 0 from state 1 and the other way round
seen_on_arrival : episode_drawn maze 3 trees (eighths (5 ∷ 2 ∷ 7 ∷ 7 ∷ 2 ∷ 0 ∷ 4 ∷ []))
    ≡ record { start = 1; steps = step 1 1 3 31 ∷ step 1 1 1 29 ∷ step 2 0 0 40 ∷ []; total = pos 100 }
unfolding maze drawn step_drawn joint_observations joint_root_action trees_after start_at trans_at obs_at reward_at
seen_on_arrival = refl

seen_by_both : episode_drawn maze 3 trees (eighths (0 ∷ 7 ∷ 0 ∷ 2 ∷ 3 ∷ 1 ∷ 3 ∷ []))
    ≡ record { start = 0; steps = step 1 1 0 20 ∷ step 2 1 2 46 ∷ step 3 0 2 58 ∷ []; total = pos 124 }
unfolding maze drawn step_drawn joint_observations joint_root_action trees_after start_at trans_at obs_at reward_at
seen_by_both = refl
