-- What is read has a row of the right length for each stage of each agent, and a horizon that passes no limit.
use Rattle.std.proofs.Common.{◌≡◌, ℕ, zero, suc, ◌+◌, ◌-◌, ◌^◌, ◌<◌, ◌≤◌, List, [], ◌∷◌, length, get_or, map, Ok}
use Rattle.std.proofs.Common.{refl, ap, subst, ◌∙◌, arith}
use Rattle.std.specs.Prelude.{ℤ, pos, negsuc, replicate, unsigned_abs}
use Rattle.dp_spec.specs.TextLines.{plain, Allows}
use Rattle.dp_spec.specs.PolicyText.{row_form}
use Rattle.dp_model.specs.declared.limit.TooLarge.{TooLarge}
use Rattle.dp_lines.specs.Grammar.{ends, ◌>>=◌}
use Rattle.dp_lines.specs.Scanning.{Rest, front_of}
use Rattle.dp_policy.specs.ActionRows.{AreActionRows, AreAgentsRows}
use Rattle.dp_policy.specs.PolicyGrammar.{stage_rows, agent_words, agent_rows}
use Rattle.dp_lines.specs.Reading.{rest_at}
use Rattle.dp_lines.specs.Steps.{the_words, the_numbers}
use Rattle.dp_lines.proofs.ProperTexts.{replicate_items}
use Rattle.dp_policy.proofs.ReadBytes.{line_is, same_rest, split}

-- ---- a row

row_length : (k high : ℕ) (zs : List ℤ) → Allows (replicate k (plain 0 high)) zs
    → length (map unsigned_abs zs) ≡ k
row_length zero high [] a = refl
row_length zero high (z ∷ zs) a = absurd a
row_length (suc k) high [] a = absurd a
row_length (suc k) high (negsuc n ∷ zs) a = absurd a
row_length (suc k) high (pos n ∷ zs) a = ap suc (row_length k high zs a.3)

row_action : (k high : ℕ) (zs : List ℤ) → Allows (replicate k (plain 0 high)) zs → (x : ℕ) → x < k
    → get_or (map unsigned_abs zs) x 0 ≤ high
row_action zero high zs a x lt = absurd (omega arith)
row_action (suc k) high [] a x lt = absurd a
row_action (suc k) high (negsuc n ∷ zs) a x lt = absurd a
row_action (suc k) high (pos n ∷ zs) a zero lt = a.2
row_action (suc k) high (pos n ∷ zs) a (suc x) lt = row_action k high zs a.3 x (omega arith)

-- ---- the rows of an agent

-- rows of the stages from t on
record AreRowsFrom (b n t left : ℕ) (rows : List (List ℕ)) : Type 0 where
  stages : length rows ≡ left
  histories : (k : ℕ) → k < left → length (get_or rows k []) ≡ n ^ (t + k)
  actions : (k x : ℕ) → k < left → x < n ^ (t + k) → get_or (get_or rows k []) x 0 < b

one_more : (b n t left : ℕ) (row : List ℕ) (rows : List (List ℕ)) → length row ≡ n ^ t
    → ((x : ℕ) → x < n ^ t → get_or row x 0 < b) → AreRowsFrom b n (t + 1) left rows
    → AreRowsFrom b n t (suc left) (row ∷ rows)
one_more b n t left row rows len below others = record {
  stages = ap suc others.stages;
  histories = λ k lt. by_place k lt;
  actions = λ k x lt in_row. action_at k x lt in_row;
}
  where
    by_place : (k : ℕ) → k < suc left → length (get_or (row ∷ rows) k []) ≡ n ^ (t + k)
    by_place zero lt = len ∙ ap (λ u. n ^ u) (omega arith)
    by_place (suc k) lt = others.histories k (omega arith) ∙ ap (λ u. n ^ u) (omega arith)

    action_at : (k x : ℕ) → k < suc left → x < n ^ (t + k) → get_or (get_or (row ∷ rows) k []) x 0 < b
    action_at zero x lt in_row = below x (subst (λ u. x < n ^ u) (omega arith) in_row)
    action_at (suc k) x lt in_row = others.actions k x (omega arith)
        (subst (λ u. x < n ^ u) (omega arith) in_row)

stages_fit : (b n t left line : ℕ) (bytes : List ℕ) (rest : Rest (List (List ℕ))) → 0 < b
    → front_of {L = TooLarge} (stage_rows b n t left) line bytes ≡ Ok rest → AreRowsFrom b n t left rest.value
stages_fit b n t zero line bytes rest some e =
    let one : Rest (List (List ℕ)) = rest_at [] line bytes in
    subst (λ (r : Rest (List (List ℕ))). AreRowsFrom b n t 0 r.value) (same_rest one rest e)
    (record {
      stages = refl;
      histories = λ k lt. absurd (omega arith);
      actions = λ k x lt in_row. absurd (omega arith);
    })
stages_fit b n t (suc left) line bytes rest some e =
    let s = split (the_numbers (row_form b n t)) (λ row. stage_rows b n (t + 1) left >>= λ others. ends
    (map unsigned_abs row ∷ others)) line bytes rest e in
    let row = line_is (row_form b n t) line bytes s.mid (replicate_items (n ^ t) 0 (b - 1)) s.front in
    let u = split (stage_rows b n (t + 1) left) (λ others. ends (map unsigned_abs s.mid.value ∷ others))
    s.mid.line s.mid.bytes rest s.behind in
    let others = stages_fit b n (t + 1) left s.mid.line s.mid.bytes u.mid some u.front in
    let one : Rest (List (List ℕ)) = rest_at (map unsigned_abs s.mid.value ∷ u.mid.value)
    u.mid.line u.mid.bytes in
    subst (λ (r : Rest (List (List ℕ))). AreRowsFrom b n t (suc left) r.value) (same_rest one rest u.behind)
    (one_more b n t left (map unsigned_abs s.mid.value) u.mid.value
    (row_length (n ^ t) (b - 1) s.mid.value row.allowed)
    (λ x lt. let most = row_action (n ^ t) (b - 1) s.mid.value row.allowed x lt in omega arith) others)

from_first : (b n h : ℕ) (rows : List (List ℕ)) → AreRowsFrom b n 0 h rows → AreActionRows b n h rows
from_first b n h rows are = record {
  stages = are.stages;
  histories = λ t lt. are.histories t lt ∙ ap (λ u. n ^ u) (omega arith);
  actions = λ t x lt in_row. are.actions t x lt (subst (λ u. x < n ^ u) (omega arith) in_row);
}

-- ---- the agents

pub agents_fit : (h agent : ℕ) (bs ns : List ℕ) (line : ℕ) (bytes : List ℕ) (rest : Rest (List (List (List ℕ))))
    → length bs ≡ length ns → ((i : ℕ) → i < length bs → 0 < get_or bs i 0)
    → front_of {L = TooLarge} (agent_rows h agent bs ns) line bytes ≡ Ok rest → AreAgentsRows h bs ns rest.value
agents_fit h agent [] [] line bytes rest alike some e =
    let one : Rest (List (List (List ℕ))) = rest_at [] line bytes in
    subst (λ (r : Rest (List (List (List ℕ)))). AreAgentsRows h [] [] r.value) (same_rest one rest e) tt
agents_fit h agent [] (n ∷ ns) line bytes rest alike some e = absurd (omega arith)
agents_fit h agent (b ∷ bs) [] line bytes rest alike some e = absurd (omega arith)
agents_fit h agent (b ∷ bs) (n ∷ ns) line bytes rest alike some e =
    let s = split (the_words (agent_words agent)) (λ title. stage_rows b n 0 h >>= λ rows. agent_rows h
    (agent + 1)
    bs ns >>= λ others. ends (rows ∷ others)) line bytes rest e in
    let u = split (stage_rows b n 0 h) (λ rows. agent_rows h (agent + 1) bs ns >>= λ others. ends
    (rows ∷ others))
    s.mid.line s.mid.bytes rest s.behind in
    let rows = stages_fit b n 0 h s.mid.line s.mid.bytes u.mid (some 0 (omega arith)) u.front in
    let v = split (agent_rows h (agent + 1) bs ns) (λ others. ends (u.mid.value ∷ others))
    u.mid.line u.mid.bytes rest u.behind in
    let others = agents_fit h (agent + 1) bs ns u.mid.line u.mid.bytes v.mid (omega arith)
    (λ i lt. some (suc i) (omega arith)) v.front in
    let one : Rest (List (List (List ℕ))) = rest_at (u.mid.value ∷ v.mid.value) v.mid.line v.mid.bytes in
    subst (λ (r : Rest (List (List (List ℕ)))). AreAgentsRows h (b ∷ bs) (n ∷ ns) r.value)
    (same_rest one rest v.behind)
    (from_first b n h u.mid.value rows, others)
