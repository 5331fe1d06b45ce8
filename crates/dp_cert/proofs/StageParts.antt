-- Stages and agents, one after the other.
use Rattle.std.proofs.Common.{◌≡◌, ℕ, suc, ◌+◌, ◌-◌, ◌<◌, ◌≤◌, List, ◌∷◌, length, drop, get_or, map, Result, Ok, Err}
use Rattle.std.proofs.Common.{refl, sym, ap, ◌∙◌, add-one, arith}
use Rattle.std.specs.Prelude.{ℤ, pos, unsigned_abs, Some, None}
use Rattle.std.proofs.Math.Seq.{drop-cons}
use Rattle.std.proofs.lemmas.List.{drop_all, append-nil}
use Rattle.dp_spec.specs.PlainForm.{observations_after}
use Rattle.dp_spec.specs.PolicyText.{row_form}
use Rattle.dp_spec.specs.SharedPolicy.{AgentRows, PolicyRow, SharedPolicy}
use Rattle.dp_spec.specs.SharedRows.{counts_form, products, shared_row_form}
use Rattle.dp_spec.specs.TextLines.{Item}
use Rattle.dp_lines.specs.Grammar.{ends, ◌>>=◌, Fault, limit}
use Rattle.dp_lines.specs.Scanning.{Rest, front_of}
use Rattle.dp_model.specs.declared.limit.TooLarge.{TooLarge}
use Rattle.dp_policy.specs.PolicyGrammar.{agent_words}
use Rattle.dp_cert.specs.PolicyGrammar.{cells_passed, first_of_counts, nexts_before, plain_agent, plain_agents}
use Rattle.dp_cert.specs.PolicyGrammar.{plain_stage, plain_stages, row_line, rows_from, rows_of_form, shared_agents}
use Rattle.dp_cert.specs.PolicyGrammar.{shared_stages, counts_grammar, Text}
use Rattle.dp_lines.specs.Reading.{onto, rest_at}
use Rattle.dp_lines.specs.Steps.{and_then, the_numbers, the_words, unless_passed}
use Rattle.dp_lines.proofs.LineCounts.{numbers_back}
use Rattle.dp_lines.proofs.TextParts.{bind_ok}

-- ---- version 1

pub plain_stage_read : (b n h t : ℕ) (form : List Item) (line to : ℕ) (bytes more xs : List ℕ)
    (rows : List PolicyRow)
    → form ≡ row_form b n t
    → front_of {L = TooLarge} (the_numbers form) line bytes ≡ Ok (rest_at (map pos xs) to more)
    → rows ≡ rows_from n (observations_after n h t) 0 xs → front_of (plain_stage b n h t) line bytes
    ≡ Ok (rest_at rows to more)
plain_stage_read b n h t form line to bytes more xs rows is read made =
    ap (λ (f : List Item). front_of (the_numbers f >>= λ zs. ends
    (rows_from n (observations_after n h t) 0 (map unsigned_abs zs))) line bytes) (sym is)
    ∙ bind_ok (the_numbers form) (λ zs. ends (rows_from n (observations_after n h t) 0 (map unsigned_abs zs)))
    line bytes (rest_at (map pos xs) to more) read
    ∙ ap (λ ys. Ok (rest_at (rows_from n (observations_after n h t) 0 ys) to more)) (numbers_back xs)
    ∙ ap (λ r. Ok (rest_at r to more)) (sym made)

pub plain_stages_at : (b n h t : ℕ) (all : Result (Rest AgentRows) (Fault TooLarge)) (front : AgentRows)
    (line : ℕ)
    (bytes : List ℕ)
    → t < h → all ≡ onto front (front_of (plain_stages b n h t (h - t)) line bytes)
    → all ≡ onto front (front_of (and_then (plain_stage b n h t) (plain_stages b n h (t + 1) (h - (t + 1))))
    line bytes)
plain_stages_at b n h t all front line bytes lt e =
    let left : h - t ≡ suc (h - (t + 1)) = omega arith in
    e ∙ ap (λ k. onto front (front_of (plain_stages b n h t k) line bytes)) left

pub plain_agents_at : (h agent : ℕ) (bs ns : List ℕ) (all : Result (Rest SharedPolicy) (Fault TooLarge))
    (front : SharedPolicy)
    (line : ℕ) (bytes : List ℕ) → agent < length bs → agent < length ns
    → all ≡ onto front (front_of (plain_agents h agent (drop agent bs) (drop agent ns)) line bytes)
    → all ≡ onto front (front_of (and_then (plain_agent h agent (get_or bs agent 0) (get_or ns agent 0))
    (plain_agents h (agent + 1) (drop (agent + 1) bs) (drop (agent + 1) ns))) line bytes)
plain_agents_at h agent bs ns all front line bytes lt lu e =
    e
    ∙ ap (λ (l : List ℕ). onto front (front_of (plain_agents h agent l (drop agent ns)) line bytes))
    (drop-cons bs agent 0 lt)
    ∙ ap (λ (l : List ℕ). onto front (front_of (plain_agents h agent
    (get_or bs agent 0 ∷ drop (suc agent) bs) l)
    line bytes)) (drop-cons ns agent 0 lu)
    ∙ ap (λ k. onto front (front_of (and_then (plain_agent h agent (get_or bs agent 0) (get_or ns agent 0))
    (plain_agents h (agent + 1) (drop k bs) (drop k ns))) line bytes)) (sym (add-one agent))

pub plain_agents_end : (h agent : ℕ) (bs ns : List ℕ) (all : Result (Rest SharedPolicy) (Fault TooLarge))
    (front : SharedPolicy)
    (line : ℕ) (bytes : List ℕ) → length bs ≤ agent
    → all ≡ onto front (front_of (plain_agents h agent (drop agent bs) (drop agent ns)) line bytes)
    → all ≡ Ok (rest_at front line bytes)
plain_agents_end h agent bs ns all front line bytes le e =
    e
    ∙ ap (λ (l : List ℕ). onto front (front_of (plain_agents h agent l (drop agent ns)) line bytes))
    (drop_all agent bs le)
    ∙ ap (λ (l : SharedPolicy). Ok (rest_at l line bytes)) (append-nil front)

-- ---- version 2

pub rows_at : (form : List Item) (count k : ℕ) (all : Result (Rest (List PolicyRow)) (Fault TooLarge))
    (front : List PolicyRow)
    (line : ℕ) (bytes : List ℕ) → k < count → all ≡ onto front
    (front_of (rows_of_form form (count - k)) line bytes)
    → all ≡ onto front (front_of (and_then (row_line form) (rows_of_form form (count - (k + 1)))) line bytes)
rows_at form count k all front line bytes lt e =
    let left : count - k ≡ suc (count - (k + 1)) = omega arith in
    e ∙ ap (λ j. onto front (front_of (rows_of_form form j) line bytes)) left

pub shared_stages_at : (b n : ℕ) (counts : List ℕ) (t : ℕ) (all : Result (Rest AgentRows) (Fault TooLarge))
    (front : AgentRows)
    (line : ℕ) (bytes : List ℕ) → t < length counts → all ≡ onto front
    (front_of (shared_stages b n (drop t counts)) line bytes)
    → all ≡ onto front (front_of (and_then
    (rows_of_form (shared_row_form b (nexts_before n (drop (t + 1) counts))
    (first_of_counts (drop (t + 1) counts))) (get_or counts t 0))
    (shared_stages b n (drop (t + 1) counts))) line bytes)
shared_stages_at b n counts t all front line bytes lt e =
    e
    ∙ ap (λ (l : List ℕ). onto front (front_of (shared_stages b n l) line bytes)) (drop-cons counts t 0 lt)
    ∙ ap (λ k. onto front (front_of (shared_stages b n (get_or counts t 0 ∷ drop k counts)) line bytes))
    (sym (add-one t))

-- ---- the counts of an agent

pub behind_counts : ℕ → List ℕ → List ℤ → Text (List ℕ)
behind_counts h cells zs = unless_passed (cells_passed (products cells (map unsigned_abs zs))) >>= λ kept. ends
    (map unsigned_abs zs)

pub counts_kept : (h : ℕ) (cells xs : List ℕ) (line : ℕ) (bytes : List ℕ)
    → cells_passed (products cells xs) ≡ None
    → front_of (behind_counts h cells (map pos xs)) line bytes ≡ Ok (rest_at xs line bytes)
unfolding behind_counts
counts_kept h cells xs line bytes e = rw (numbers_back xs, e) refl

pub counts_pass : (h : ℕ) (cells xs : List ℕ) (line : ℕ) (bytes : List ℕ) (passed : TooLarge)
    → cells_passed (products cells xs) ≡ Some passed → front_of (behind_counts h cells (map pos xs)) line bytes
    ≡ Err (limit passed)
unfolding behind_counts
counts_pass h cells xs line bytes passed e = rw (numbers_back xs, e) refl

pub counts_at : (h agent : ℕ) (cells xs : List ℕ) (form : List Item) (line named to : ℕ)
    (bytes titled more : List ℕ) → form ≡ counts_form h
    → front_of {L = TooLarge} (the_words (agent_words agent)) line bytes ≡ Ok (rest_at tt named titled)
    → front_of {L = TooLarge} (the_numbers form) named titled ≡ Ok (rest_at (map pos xs) to more)
    → front_of (counts_grammar h agent cells) line bytes ≡ front_of (behind_counts h cells (map pos xs)) to more
unfolding behind_counts
counts_at h agent cells xs form line named to bytes titled more is title read =
    bind_ok (the_words (agent_words agent)) (λ t. the_numbers (counts_form h) >>= behind_counts h cells)
    line bytes
    (rest_at tt named titled) title
    ∙ ap (λ (f : List Item). front_of (the_numbers f >>= behind_counts h cells) named titled) (sym is)
    ∙ bind_ok (the_numbers form) (behind_counts h cells) named titled (rest_at (map pos xs) to more) read

pub counts_title : (h agent : ℕ) (cells : List ℕ) (form : List Item) (line named : ℕ) (bytes titled : List ℕ)
    → form ≡ counts_form h
    → front_of {L = TooLarge} (the_words (agent_words agent)) line bytes ≡ Ok (rest_at tt named titled)
    → front_of (counts_grammar h agent cells) line bytes ≡ front_of (the_numbers form >>= behind_counts h cells)
    named titled
unfolding behind_counts
counts_title h agent cells form line named bytes titled is title =
    bind_ok (the_words (agent_words agent)) (λ t. the_numbers (counts_form h) >>= behind_counts h cells)
    line bytes
    (rest_at tt named titled) title
    ∙ ap (λ (f : List Item). front_of (the_numbers f >>= behind_counts h cells) named titled) (sym is)

-- ---- the agents

pub shared_agents_at : (h agent : ℕ) (cells bs ns : List ℕ) (all : Result (Rest SharedPolicy) (Fault TooLarge))
    (front : SharedPolicy)
    (line : ℕ) (bytes : List ℕ) → agent < length bs → agent < length ns
    → all ≡ onto front (front_of (shared_agents h agent cells (drop agent bs) (drop agent ns)) line bytes)
    → all ≡ onto front (front_of (counts_grammar h agent cells >>= λ counts.
    and_then (shared_stages (get_or bs agent 0) (get_or ns agent 0) counts)
    (shared_agents h (agent + 1) (products cells counts) (drop (agent + 1) bs) (drop (agent + 1) ns)))
    line bytes)
shared_agents_at h agent cells bs ns all front line bytes lt lu e =
    e
    ∙ ap (λ (l : List ℕ). onto front (front_of (shared_agents h agent cells l (drop agent ns)) line bytes))
    (drop-cons bs agent 0 lt)
    ∙ ap (λ (l : List ℕ). onto front (front_of (shared_agents h agent cells
    (get_or bs agent 0 ∷ drop (suc agent) bs) l) line bytes)) (drop-cons ns agent 0 lu)
    ∙ ap (λ k. onto front (front_of (counts_grammar h agent cells >>= λ counts.
    and_then (shared_stages (get_or bs agent 0) (get_or ns agent 0) counts)
    (shared_agents h (agent + 1) (products cells counts) (drop k bs) (drop k ns))) line bytes))
    (sym (add-one agent))

pub shared_agents_end : (h agent : ℕ) (cells bs ns : List ℕ) (all : Result (Rest SharedPolicy) (Fault TooLarge))
    (front : SharedPolicy)
    (line : ℕ) (bytes : List ℕ) → length bs ≤ agent
    → all ≡ onto front (front_of (shared_agents h agent cells (drop agent bs) (drop agent ns)) line bytes)
    → all ≡ Ok (rest_at front line bytes)
shared_agents_end h agent cells bs ns all front line bytes le e =
    e
    ∙ ap (λ (l : List ℕ). onto front (front_of (shared_agents h agent cells l (drop agent ns)) line bytes))
    (drop_all agent bs le)
    ∙ ap (λ (l : SharedPolicy). Ok (rest_at l line bytes)) (append-nil front)
