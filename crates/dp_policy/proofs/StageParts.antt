-- The rows of an agent, stage by stage.
use Rattle.std.proofs.Common.{arith, ◌-◌, ◌<◌, ◌≡◌, ℕ, suc, ◌+◌, ◌^◌, List, [], ◌∷◌, ◌++◌, Ok, Err, ap, ◌∙◌, map}
use Rattle.std.specs.Prelude.{pos, unsigned_abs, replicate}
use Rattle.dp_spec.specs.TextLines.{plain}
use Rattle.dp_spec.specs.PolicyText.{row_form}
use Rattle.dp_lines.specs.Grammar.{ends, ◌>>=◌, Fault}
use Rattle.dp_lines.specs.Scanning.{front_of}
use Rattle.dp_lines.specs.Steps.{the_numbers}
use Rattle.dp_lines.specs.Reading.{rest_at, onto}
use Rattle.dp_lines.proofs.LineCounts.{numbers_back}
use Rattle.dp_lines.proofs.TextParts.{bind_ok, bind_err, front_cons, onto-onto}
use Rattle.dp_policy.specs.PolicyGrammar.{stage_rows}

-- one more row of an agent is read
pub stage_read : {L : Type 0} (b n t left : ℕ) (line to : ℕ) (bytes more xs : List ℕ)
    → front_of {L = L} (the_numbers (row_form b n t)) line bytes ≡ Ok (rest_at (map pos xs) to more)
    → front_of {L = L} (stage_rows b n t (suc left)) line bytes
    ≡ onto (xs ∷ []) (front_of (stage_rows b n (t + 1) left) to more)
stage_read {L = L} b n t left line to bytes more xs e =
    bind_ok (the_numbers (row_form b n t)) (λ row. stage_rows b n (t + 1) left >>= λ others. ends
    (map unsigned_abs row ∷ others)) line bytes (rest_at (map pos xs) to more) e
    ∙ front_cons (stage_rows {L = L} b n (t + 1) left) (map unsigned_abs (map pos xs)) to more
    ∙ ap (λ row. onto (row ∷ []) (front_of (stage_rows b n (t + 1) left) to more)) (numbers_back xs)

-- what a row's fault says of the rows from there on
pub stage_fault : {L : Type 0} (b n t left : ℕ) (line : ℕ) (bytes : List ℕ) (fault : Fault L)
    → front_of {L = L} (the_numbers (row_form b n t)) line bytes ≡ Err fault
    → front_of {L = L} (stage_rows b n t (suc left)) line bytes ≡ Err fault
stage_fault b n t left line bytes fault e = bind_err (the_numbers (row_form b n t)) _ line bytes fault e

-- ---- the loops

-- the row of a stage is read
pub stage_further : {L : Type 0} (b n t h k g : ℕ) (line to : ℕ) (bytes more xs : List ℕ)
    (front : List (List ℕ))
    → t < h → k ≡ n ^ t → g ≡ b - 1
    → front_of {L = L} (the_numbers (replicate k (plain 0 g))) line bytes ≡ Ok (rest_at (map pos xs) to more)
    → onto front (front_of {L = L} (stage_rows b n t (h - t)) line bytes)
    ≡ onto (front ++ xs ∷ []) (front_of (stage_rows b n (t + 1) (h - (t + 1))) to more)
stage_further {L = L} b n t h k g line to bytes more xs front lt is_k is_g e =
    let left : h - t ≡ suc (h - (t + 1)) = omega arith in
    let read : front_of {L = L} (the_numbers (row_form b n t)) line bytes
    ≡ Ok (rest_at (map pos xs) to more) = rw (← is_k, ← is_g) e in
    ap (λ m. onto front (front_of {L = L} (stage_rows b n t m) line bytes)) left
    ∙ ap (onto front) (stage_read {L = L} b n t (h - (t + 1)) line to bytes more xs read)
    ∙ onto-onto front (xs ∷ []) (front_of {L = L} (stage_rows b n (t + 1) (h - (t + 1))) to more)

-- a row has a fault, which is that of all
pub stage_stops : {L : Type 0} (b n t h k g : ℕ) (line : ℕ) (bytes : List ℕ) (front : List (List ℕ))
    (fault : Fault L) → t < h → k ≡ n ^ t → g ≡ b - 1
    → front_of {L = L} (the_numbers (replicate k (plain 0 g))) line bytes ≡ Err fault
    → onto front (front_of {L = L} (stage_rows b n t (h - t)) line bytes) ≡ Err fault
stage_stops {L = L} b n t h k g line bytes front fault lt is_k is_g e =
    let left : h - t ≡ suc (h - (t + 1)) = omega arith in
    let read : front_of {L = L} (the_numbers (row_form b n t)) line bytes ≡ Err fault = rw (← is_k, ← is_g) e in
    ap (λ m. onto front (front_of {L = L} (stage_rows b n t m) line bytes)) left
    ∙ ap (onto front) (stage_fault {L = L} b n t (h - (t + 1)) line bytes fault read)
