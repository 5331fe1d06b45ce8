-- Lines of episodes that are appended one after the other.
use Rattle.std.proofs.Common.{◌≡◌, ℕ, suc, ◌+◌, ◌-◌, ◌*◌, List, ◌∷◌, ◌++◌, drop, length, get_or, sym, ap}
use Rattle.std.proofs.Common.{◌∙◌, add-one, append_assoc, arith, ◌<◌}
use Rattle.std.proofs.Math.Seq.{drop-cons}
use Rattle.rand_core.specs.Stream.{Stream}
use Rattle.dp_spec.specs.Model.{Model}
use Rattle.dp_spec.specs.PolicyTree.{PolicyTree}
use Rattle.dp_sim.specs.declared.step.SimStep.{SimStep}
use Rattle.dp_sim.specs.Episode.{episode_drawn}
use Rattle.dp_sim.specs.Words.{left_after, words_of}
use Rattle.dp_cli.specs.EpisodeTexts.{episode_text, episodes_text, step_text, steps_text}
use Rattle.dp_cli.proofs.ValueTexts.{and_then}

-- six parts
pub six_pushed : (t0 t1 t2 t3 t4 t5 t6 a b c d e f : List ℕ) → t1 ≡ t0 ++ a → t2 ≡ t1 ++ b → t3 ≡ t2 ++ c
    → t4 ≡ t3 ++ d → t5 ≡ t4 ++ e → t6 ≡ t5 ++ f → t6 ≡ t0 ++ (a ++ (b ++ (c ++ (d ++ (e ++ f)))))
six_pushed t0 t1 t2 t3 t4 t5 t6 a b c d e f e1 e2 e3 e4 e5 e6 =
    and_then t0 t1 t6 a (b ++ (c ++ (d ++ (e ++ f)))) e1
    (and_then t1 t2 t6 b (c ++ (d ++ (e ++ f))) e2
    (and_then t2 t3 t6 c (d ++ (e ++ f)) e3
    (and_then t3 t4 t6 d (e ++ f) e4
    (and_then t4 t5 t6 e f e5 e6))))

-- one step more
pub step_pushed : (before here after : List ℕ) (t : ℕ) (steps : List SimStep) (step : SimStep) → t < length steps
    → step ≡ get_or steps t step → before ≡ here ++ steps_text t (drop t steps) → after ≡ here ++ step_text t step
    → before ≡ after ++ steps_text (t + 1) (drop (t + 1) steps)
step_pushed before here after t steps step lt is so_far pushed =
    let first : drop t steps ≡ step ∷ drop (t + 1) steps =
    drop-cons steps t step lt ∙ ap (λ (s : SimStep). s ∷ drop (suc t) steps) (sym is)
    ∙ ap (λ n. step ∷ drop n steps) (sym (add-one t)) in
    so_far ∙ ap (λ (ss : List SimStep). here ++ steps_text t ss) first
    ∙ sym (append_assoc here (step_text t step) (steps_text (suc t) (drop (t + 1) steps)))
    ∙ ap (λ l. l ++ steps_text (suc t) (drop (t + 1) steps)) (sym pushed)
    ∙ ap (λ n. after ++ steps_text n (drop (t + 1) steps)) (sym (add-one t))

-- one episode more
pub episode_pushed : (m : Model) (h : ℕ) (qs : List PolicyTree) (number episodes : ℕ) (stream stream' : Stream)
    (all here after : List ℕ) → number < episodes
    → all ≡ here ++ episodes_text m h qs number (episodes - number) stream
    → after ≡ here ++ episode_text number (episode_drawn m h qs (words_of (1 + 2 * h) stream))
    → stream' ≡ left_after (1 + 2 * h) stream
    → all ≡ after ++ episodes_text m h qs (number + 1) (episodes - (number + 1)) stream'
episode_pushed m h qs number episodes stream stream' all here after lt so_far pushed left =
    let more : episodes - number ≡ suc (episodes - (number + 1)) = omega arith in
    so_far ∙ ap (λ k. here ++ episodes_text m h qs number k stream) more
    ∙ sym (append_assoc here (episode_text number (episode_drawn m h qs (words_of (1 + 2 * h) stream)))
    (episodes_text m h qs (suc number) (episodes - (number + 1)) (left_after (1 + 2 * h) stream)))
    ∙ ap (λ l. l ++ episodes_text m h qs (suc number) (episodes - (number + 1)) (left_after (1 + 2 * h) stream))
    (sym pushed)
    ∙ ap (λ n. after ++ episodes_text m h qs n (episodes - (number + 1)) (left_after (1 + 2 * h) stream))
    (sym (add-one number))
    ∙ ap (λ s. after ++ episodes_text m h qs (number + 1) (episodes - (number + 1)) s) (sym left)
