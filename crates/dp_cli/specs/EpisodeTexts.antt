-- The text of episodes.
use Rattle.std.specs.Prelude.{ℕ, zero, suc, ◌+◌, ◌*◌, List, [], ◌∷◌, ◌++◌, codes}
use Rattle.rand_core.specs.Stream.{Stream}
use Rattle.dp_spec.specs.Model.{Model}
use Rattle.dp_spec.specs.PolicyTree.{PolicyTree}
use Rattle.dp_sim.specs.declared.step.SimStep.{SimStep}
use Rattle.dp_sim.specs.Episode.{episode_drawn}
use Rattle.dp_sim.specs.Traces.{Episode}
use Rattle.dp_sim.specs.Words.{left_after, words_of}
use Rattle.dp_cli.specs.NumberTexts.{field_text, signed_field_text}

-- the line of the step at a time
unfoldable pub step_text : ℕ → SimStep → List ℕ
step_text t step =
    field_text (codes "step ") t
    ++ (field_text (codes " action ") step.action
    ++ (field_text (codes " next ") step.next
    ++ (field_text (codes " seen ") step.seen
    ++ (signed_field_text (codes " reward ") step.reward ++ codes "\n"))))

-- the lines of steps from a time on
abbrev pub steps_text : ℕ → List SimStep → List ℕ
steps_text t [] = []
steps_text t (step ∷ steps) = step_text t step ++ steps_text (suc t) steps

-- the lines of the episode of a number
unfoldable pub episode_text : ℕ → Episode → List ℕ
episode_text number episode =
    field_text (codes "episode ") number
    ++ (field_text (codes " start ") episode.start
    ++ (codes "\n"
    ++ (steps_text 0 episode.steps
    ++ (signed_field_text (codes "total ") episode.total ++ codes "\n"))))

-- The episodes of a joint policy from a number on, so many of them, one after the other from one stream of words.
-- Each takes one word and two for each step.
abbrev pub episodes_text : Model → ℕ → List PolicyTree → ℕ → ℕ → Stream → List ℕ
episodes_text m h qs number zero stream = []
episodes_text m h qs number (suc left) stream =
    episode_text number (episode_drawn m h qs (words_of (1 + 2 * h) stream))
    ++ episodes_text m h qs (suc number) left (left_after (1 + 2 * h) stream)
