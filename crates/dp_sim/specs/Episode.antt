-- An episode of a joint policy in a model (Oliehoek and Amato, chapter 2), drawn by words.
use Rattle.std.specs.Prelude.{ℕ, zero, suc, pos, List, [], ◌∷◌}
use Rattle.dp_spec.specs.Model.{Model, joint_observations, obs_at, reward_at, start_at, trans_at}
use Rattle.dp_spec.specs.PolicyTree.{PolicyTree}
use Rattle.dp_spec.specs.Value.{joint_root_action, trees_after}
use Rattle.dp_sim.specs.declared.step.SimStep.{SimStep}
use Rattle.dp_sim.specs.Draw.{drawn}
use Rattle.dp_sim.specs.Traces.{Episode, total_reward}

-- the state that a word draws to start in
abbrev pub start_drawn : Model → ℕ → ℕ
start_drawn m word = drawn m.states m.scales.start (start_at m) word

-- the next state that a word draws after joint action a in state s
abbrev pub next_drawn : Model → ℕ → ℕ → ℕ → ℕ
next_drawn m a s word = drawn m.states m.scales.trans (trans_at m a s) word

-- the joint observation that a word draws on arriving in state t by joint action a
abbrev pub seen_drawn : Model → ℕ → ℕ → ℕ → ℕ
seen_drawn m a t word = drawn (joint_observations m) m.scales.obs (obs_at m a t) word

-- joint action a in state s where state t and joint observation o follow
abbrev pub step_to : Model → ℕ → ℕ → ℕ → ℕ → SimStep
step_to m a s t o = record { action = a; next = t; seen = o; reward = reward_at m a s t o }

-- the step that joint action a makes from state s by two words: the first draws the next state, and the second what
-- is seen there
unfoldable pub step_drawn : Model → ℕ → ℕ → ℕ → ℕ → SimStep
step_drawn m a s x y = step_to m a s (next_drawn m a s x) (seen_drawn m a (next_drawn m a s x) y)

-- The steps of the trees from state s on, r of them. Each does the joint action at the roots, and goes on with what
-- remains of each tree after its agent's own part of what is seen.
abbrev pub steps_drawn : Model → ℕ → List PolicyTree → ℕ → List ℕ → List SimStep
steps_drawn m zero qs s words = []
steps_drawn m (suc r) qs s [] = []
steps_drawn m (suc r) qs s (x ∷ []) = []
steps_drawn m (suc r) qs s (x ∷ (y ∷ words)) =
    let step = step_drawn m (joint_root_action m qs) s x y in
    step ∷ steps_drawn m r (trees_after m qs step.seen) step.next words

-- the episode of h steps of a joint policy, by a word for the state to start in and two for each step
abbrev pub episode_drawn : Model → ℕ → List PolicyTree → List ℕ → Episode
episode_drawn m h qs [] = record { start = 0; steps = []; total = pos 0 }
episode_drawn m h qs (word ∷ words) =
    let steps = steps_drawn m h qs (start_drawn m word) words in
    record { start = start_drawn m word; steps = steps; total = total_reward steps }
