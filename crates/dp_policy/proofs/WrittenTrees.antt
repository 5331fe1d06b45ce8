-- What is written of the trees of a joint policy is its text.
use Rattle.std.proofs.Common.{◌≡◌, ℕ, ◌+◌, ◌^◌, ◌<◌, List, [], ◌∷◌, ◌++◌, map, Ok, refl, sym, ap, ◌∙◌, append_assoc}
use Rattle.std.proofs.Common.{arith}
use Rattle.std.specs.List.{range_with_len}
use Rattle.std.proofs.lemmas.List.{append-nil}
use Rattle.std.proofs.lemmas.List.FromFn.{map-range_with_len_more}
use Rattle.dp_laws.proofs.WholeTexts.{policy_has_text}
use Rattle.dp_spec.specs.Model.{Model, IsModel}
use Rattle.dp_spec.specs.PolicyText.{policy_text}
use Rattle.dp_spec.specs.PolicyTree.{IsJointPolicy, IsPolicyOf, PolicyTree}
use Rattle.dp_spec.specs.PolicyTree.IsJointPolicy.{and_agent, no_agents}
use Rattle.dp_policy.specs.ActionRows.{actions_below, policy_actions}
use Rattle.dp_policy.specs.PolicyAnswers.{IsPolicyAnswer, PassesNone}
use Rattle.dp_policy.specs.PolicyBytes.{policy_bytes, row_bytes, rows_bytes}
use Rattle.dp_policy.proofs.TreeRows.{actions_are_row, shifted}
use Rattle.dp_policy.proofs.WrittenBytes.{written_for}

rows_bytes-append : (xs ys : List (List ℕ)) → rows_bytes (xs ++ ys) ≡ rows_bytes xs ++ rows_bytes ys
rows_bytes-append [] ys = refl
rows_bytes-append (x ∷ xs) ys =
    ap (λ l. row_bytes x ++ l) (rows_bytes-append xs ys) ∙ sym
    (append_assoc (row_bytes x) (rows_bytes xs) (rows_bytes ys))

-- one row more is written
pub row_written : (old now later row : List ℕ) (f : ℕ → List ℕ) (t : ℕ)
    → now ≡ old ++ rows_bytes (map f (range_with_len 0 t))
    → later ≡ now ++ row_bytes row → row ≡ f t → later ≡ old ++ rows_bytes (map f (range_with_len 0 (t + 1)))
row_written old now later row f t so_far grown is =
    let rows = map f (range_with_len 0 t) in
    grown
    ∙ (λ i. so_far i ++ row_bytes (is i))
    ∙ append_assoc old (rows_bytes rows) (row_bytes (f t))
    ∙ ap (λ l. old ++ (rows_bytes rows ++ l)) (sym (append-nil (row_bytes (f t))))
    ∙ ap (λ l. old ++ l) (sym (rows_bytes-append rows (f t ∷ [])))
    ∙ ap (λ l. old ++ rows_bytes l) (sym (map-range_with_len_more f 0 t t (omega arith)))

-- the rows that are written are those of the text
rows_are : (h : ℕ) (bs ns : List ℕ) (qs : List PolicyTree) → IsJointPolicy h bs ns qs
    → map (λ q. map (λ t. actions_below t q) (range_with_len 0 h)) qs ≡ policy_actions h ns qs
rows_are h _ _ _ no_agents = refl
rows_are h (b ∷ bs) (n ∷ ns) (q ∷ qs) (and_agent is iss) =
    let own = shifted (λ t. actions_below t q) _ 0 0 h (λ t lt. let none : 0 + t ≡ t = omega arith in
    let lt' : 0 + t < h = omega arith in actions_are_row b n h (0 + t) q lt' is) in
    λ i. own i ∷ rows_are h bs ns qs iss i

pub trees_written : (h : ℕ) (qs : List PolicyTree) (bytes : List ℕ)
    → bytes ≡ policy_bytes h (map (λ q. map (λ t. actions_below t q) (range_with_len 0 h)) qs)
    → (bs ns : List ℕ) → IsJointPolicy h bs ns qs → bytes ≡ policy_text bs ns h qs
trees_written h qs bytes e bs ns is = e ∙ ap (policy_bytes h) (rows_are h bs ns qs is)
    ∙ written_for bs ns h qs is

-- and says the policy
pub text_says : (h : ℕ) (qs : List PolicyTree) (bytes : List ℕ) → 0 < h → h < 2 ^ 32
    → bytes ≡ policy_bytes h (map (λ q. map (λ t. actions_below t q) (range_with_len 0 h)) qs)
    → (m : Model) → IsModel m → IsPolicyOf m h qs → PassesNone m h
    → IsPolicyAnswer m bytes (Ok (record { horizon = h; trees = qs }))
text_says h qs bytes some wide e m is policy passes =
    let whole = policy_has_text m is h qs some wide policy in (
      record {
        policy = policy;
        allowed = whole.allowed;
        text =
            trees_written h qs bytes e m.actions m.observations policy;
      },
      passes,
    )
