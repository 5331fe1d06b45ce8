-- The rows of the agents, one after the other.
use Rattle.std.proofs.Common.{◌≡◌, ℕ, zero, suc, ◌+◌, ◌*◌, ◌^◌, ◌<◌, ◌≤◌, false, eqb, List, [], ◌∷◌, ◌++◌, length}
use Rattle.std.proofs.Common.{get_or, drop, Result, Ok, Err, refl, sym, ap, ◌∙◌, add-one, arith, inl, inr}
use Rattle.std.specs.List.{AllByRecursion}
use Rattle.std.specs.Fmt.{decimal}
use Rattle.std.proofs.Math.Seq.{drop-cons}
use Rattle.std.proofs.lemmas.Bool.{cases_lt}
use Rattle.std.proofs.lemmas.List.{drop_all, append-nil}
use Rattle.dp_spec.specs.JointNumbers.{product}
use Rattle.dp_spec.specs.Mode.{own_history_count}
use Rattle.dp_spec.specs.Model.{Model, IsModel, joint_actions}
use Rattle.dp_base.specs.Sums.{nat_sum}
use Rattle.dp_spec.proofs.JointNumberLaws.{positive_right}
use Rattle.dp_laws.proofs.LineTexts.{decimal_item}
use Rattle.dp_lines.specs.Grammar.{ends, ◌>>=◌, Fault}
use Rattle.dp_lines.specs.Lines.{AreWords}
use Rattle.dp_lines.specs.Scanning.{is_break, Rest, front_of}
use Rattle.dp_lines.specs.Steps.{the_words}
use Rattle.dp_policy.specs.PolicyGrammar.{stage_rows, agent_words, agent_rows}
use Rattle.dp_lines.specs.Reading.{rest_at, onto}
use Rattle.dp_lines.proofs.TextParts.{bind_ok, bind_err, front_cons, onto-onto}

-- ---- sizes

product_part : (bs : List ℕ) (i : ℕ) → 0 < product bs → i < length bs → 0 < get_or bs i 0
product_part [] i some lt = absurd (omega arith)
product_part (b ∷ bs) zero some lt = let some' : 0 < product bs * b = omega arith in
    positive_right (product bs) b 0 some'
product_part (b ∷ bs) (suc i) some lt = product_part bs i (positive_right b (product bs) 0 some) (omega arith)

-- each agent of a model has an action
pub action_some : (m : Model) (i : ℕ) → IsModel m → i < length m.actions → 0 < get_or m.actions i 0
unfolding joint_actions
action_some m i is lt = product_part m.actions i is.sizes.some_action lt

nat_sum_part : (h : ℕ) (f : ℕ → ℕ) (t : ℕ) → t < h → f t ≤ nat_sum h f
nat_sum_part zero f t lt = absurd (omega arith)
nat_sum_part (suc h) f t lt = elim (cases_lt t h) [
  | inl earlier ↦ omega (arith, nat_sum_part h f t earlier)
  | inr last ↦ (let same : t ≡ h = omega arith in let e : f t ≡ f h = ap f same in omega (arith, e))
]

-- each stage of each agent has few own histories
pub histories_few : (ns : List ℕ) (h i t : ℕ) → own_history_count ns h ≤ 2048 → i < length ns → t < h
    → get_or ns i 0 ^ t ≤ 2048
histories_few [] h i t few lt in_time = absurd (omega arith)
histories_few (n ∷ ns) h zero t few lt in_time = omega (arith, nat_sum_part h (λ u. n ^ u) t in_time)
histories_few (n ∷ ns) h (suc i) t few lt in_time = histories_few ns h i t (omega arith) (omega arith) in_time

-- ---- the line before an agent's rows

item_clean : (item : List ℕ) → AllByRecursion (λ b. (eqb b 32 ≡ false) × (eqb b 10 ≡ false)) item
    → AllByRecursion (λ b. is_break b ≡ false) item
item_clean [] h = tt
item_clean (b ∷ item) h = (rw (h.0.0, h.0.1) refl, item_clean item h.1)

pub agent_words_are : (agent : ℕ) → agent < 10 ^ 64 → AreWords (agent_words agent)
agent_words_are agent small = (assumption, (item_clean (decimal agent) (decimal_item agent small), tt))

-- ---- the loop

-- one more agent is read
pub agent_read : {L : Type 0} (h agent b n : ℕ) (bs ns : List ℕ) (line named to : ℕ)
    (bytes titled more : List ℕ)
    (rows : List (List ℕ))
    → front_of {L = L} (the_words (agent_words agent)) line bytes ≡ Ok (rest_at tt named titled)
    → front_of {L = L} (stage_rows b n 0 h) named titled ≡ Ok (rest_at rows to more)
    → front_of {L = L} (agent_rows h agent (b ∷ bs) (n ∷ ns)) line bytes
    ≡ onto (rows ∷ []) (front_of {L = L} (agent_rows h (agent + 1) bs ns) to more)
agent_read {L = L} h agent b n bs ns line named to bytes titled more rows e f =
    bind_ok (the_words (agent_words agent)) (λ title. stage_rows b n 0 h >>= λ rows. agent_rows h (agent + 1)
    bs ns >>= λ others. ends (rows ∷ others)) line bytes (rest_at tt named titled) e
    ∙ bind_ok (stage_rows {L = L} b n 0 h) (λ rows. agent_rows h (agent + 1) bs ns >>= λ others. ends
    (rows ∷ others)) named titled (rest_at rows to more) f
    ∙ front_cons (agent_rows {L = L} h (agent + 1) bs ns) rows to more

title_fault : {L : Type 0} (h agent b n : ℕ) (bs ns : List ℕ) (line : ℕ) (bytes : List ℕ) (fault : Fault L)
    → front_of {L = L} (the_words (agent_words agent)) line bytes ≡ Err fault
    → front_of {L = L} (agent_rows h agent (b ∷ bs) (n ∷ ns)) line bytes ≡ Err fault
title_fault {L = L} h agent b n bs ns line bytes fault e =
    bind_err (the_words {L = L} (agent_words agent)) (λ title. stage_rows b n 0 h >>= λ rows. agent_rows h
    (agent + 1) bs ns >>= λ others. ends (rows ∷ others)) line bytes fault e

rows_fault : {L : Type 0} (h agent b n : ℕ) (bs ns : List ℕ) (line named : ℕ) (bytes titled : List ℕ)
    (fault : Fault L)
    → front_of {L = L} (the_words (agent_words agent)) line bytes ≡ Ok (rest_at tt named titled)
    → front_of {L = L} (stage_rows b n 0 h) named titled ≡ Err fault
    → front_of {L = L} (agent_rows h agent (b ∷ bs) (n ∷ ns)) line bytes ≡ Err fault
rows_fault {L = L} h agent b n bs ns line named bytes titled fault e f =
    bind_ok (the_words (agent_words agent)) (λ title. stage_rows b n 0 h >>= λ rows. agent_rows h (agent + 1)
    bs ns >>= λ others. ends (rows ∷ others)) line bytes (rest_at tt named titled) e
    ∙ bind_err (stage_rows {L = L} b n 0 h) (λ rows. agent_rows h (agent + 1) bs ns >>= λ others. ends
    (rows ∷ others)) named titled fault f

-- what the agents from one on say, behind those that are read
abbrev pub agents_from : (L : Type 0) → ℕ → List ℕ → List ℕ → ℕ → List (List (List ℕ)) → ℕ → List ℕ
    → Result (Rest (List (List (List ℕ)))) (Fault L)
agents_from L h bs ns agent front line bytes = onto front (front_of {L = L}
    (agent_rows h agent (drop agent bs) (drop agent ns)) line bytes)

agents_at : (L : Type 0) (h : ℕ) (bs ns : List ℕ) (agent : ℕ) (front : List (List (List ℕ))) (line : ℕ)
    (bytes : List ℕ) → agent < length bs → agent < length ns
    → agents_from L h bs ns agent front line bytes ≡ onto front
    (front_of {L = L} (agent_rows h agent (get_or bs agent 0 ∷ drop (suc agent) bs)
    (get_or ns agent 0 ∷ drop (suc agent) ns)) line bytes)
agents_at L h bs ns agent front line bytes lt lt' =
    ap (λ (l : List ℕ). onto front (front_of {L = L} (agent_rows h agent l (drop agent ns)) line bytes))
    (drop-cons bs agent 0 lt)
    ∙ ap (λ (l : List ℕ). onto front (front_of {L = L} (agent_rows h agent
    (get_or bs agent 0 ∷ drop (suc agent) bs) l) line bytes)) (drop-cons ns agent 0 lt')

pub agents_further : (L : Type 0) (h : ℕ) (bs ns : List ℕ) (agent : ℕ) (front : List (List (List ℕ)))
    (line named to : ℕ) (bytes titled more : List ℕ) (rows : List (List ℕ)) → agent < length bs
    → agent < length ns
    → front_of {L = L} (the_words (agent_words agent)) line bytes ≡ Ok (rest_at tt named titled)
    → front_of {L = L} (stage_rows (get_or bs agent 0) (get_or ns agent 0) 0 h) named titled
    ≡ Ok (rest_at rows to more)
    → agents_from L h bs ns agent front line bytes ≡ agents_from L h bs ns (agent + 1) (front ++ rows ∷ [])
    to more
agents_further L h bs ns agent front line named to bytes titled more rows lt lt' e f =
    agents_at L h bs ns agent front line bytes lt lt'
    ∙ ap (onto front) (agent_read {L = L} h agent (get_or bs agent 0) (get_or ns agent 0) (drop (suc agent) bs)
    (drop (suc agent) ns) line named to bytes titled more rows e f)
    ∙ onto-onto front (rows ∷ []) (front_of {L = L} (agent_rows h (agent + 1) (drop (suc agent) bs)
    (drop (suc agent) ns)) to more)
    ∙ ap (λ k. onto (front ++ rows ∷ []) (front_of {L = L} (agent_rows h (agent + 1) (drop k bs) (drop k ns))
    to more)) (sym (add-one agent))

pub agents_stop_at_title : (L : Type 0) (h : ℕ) (bs ns : List ℕ) (agent : ℕ) (front : List (List (List ℕ)))
    (line : ℕ) (bytes : List ℕ) (fault : Fault L) → agent < length bs → agent < length ns
    → front_of {L = L} (the_words (agent_words agent)) line bytes ≡ Err fault
    → agents_from L h bs ns agent front line bytes ≡ Err fault
agents_stop_at_title L h bs ns agent front line bytes fault lt lt' e =
    agents_at L h bs ns agent front line bytes lt lt'
    ∙ ap (onto front) (title_fault {L = L} h agent (get_or bs agent 0) (get_or ns agent 0) (drop (suc agent) bs)
    (drop (suc agent) ns) line bytes fault e)

pub agents_stop_at_rows : (L : Type 0) (h : ℕ) (bs ns : List ℕ) (agent : ℕ) (front : List (List (List ℕ)))
    (line named : ℕ) (bytes titled : List ℕ) (fault : Fault L) → agent < length bs → agent < length ns
    → front_of {L = L} (the_words (agent_words agent)) line bytes ≡ Ok (rest_at tt named titled)
    → front_of {L = L} (stage_rows (get_or bs agent 0) (get_or ns agent 0) 0 h) named titled ≡ Err fault
    → agents_from L h bs ns agent front line bytes ≡ Err fault
agents_stop_at_rows L h bs ns agent front line named bytes titled fault lt lt' e f =
    agents_at L h bs ns agent front line bytes lt lt'
    ∙ ap (onto front) (rows_fault {L = L} h agent (get_or bs agent 0) (get_or ns agent 0) (drop (suc agent) bs)
    (drop (suc agent) ns) line named bytes titled fault e f)

pub agents_end : (L : Type 0) (h : ℕ) (bs ns : List ℕ) (agent : ℕ) (front : List (List (List ℕ))) (line : ℕ)
    (bytes : List ℕ) → length bs ≤ agent
    → agents_from L h bs ns agent front line bytes ≡ Ok (rest_at front line bytes)
agents_end L h bs ns agent front line bytes past =
    ap (λ (l : List ℕ). onto front (front_of {L = L} (agent_rows h agent l (drop agent ns)) line bytes))
    (drop_all agent bs past)
    ∙ ap (λ (l : List (List (List ℕ))). Ok (rest_at l line bytes)) (append-nil front)
