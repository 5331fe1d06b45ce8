-- What was read is the text of a certificate.
use Rattle.std.proofs.Common.{◌≡◌, ℕ, zero, suc, ◌+◌, ◌^◌, Bool, true, false, cond, List, [], ◌∷◌, ◌++◌, map, Result}
use Rattle.std.proofs.Common.{Ok, Err, refl, ap, subst, ◌∙◌, arith}
use Rattle.std.specs.Prelude.{◌==◌, codes, pos, IfOk}
use Rattle.std.specs.List.{range_with_len}
use Rattle.std.proofs.lemmas.Bool.Decides.{nat_tests}
use Rattle.std.proofs.lemmas.List.{append-nil}
use Rattle.dp_spec.specs.Certificate.{Certificate, HasPolicyOfVersion}
use Rattle.dp_spec.specs.CertificateText.{IsCertificateText, certificate_lines, certificate_rows, certificate_text}
use Rattle.dp_spec.specs.CertificateText.{head_lines}
use Rattle.dp_spec.specs.Keeping.{tree_at}
use Rattle.dp_spec.specs.Model.{IsModel, Model}
use Rattle.dp_spec.specs.PlainForm.{plain_form, plain_row, plain_rows_of}
use Rattle.dp_spec.specs.PolicyText.{agent_lines, policy_rows, row_form, row_line}
use Rattle.dp_spec.specs.PolicyTree.{PolicyTree, root_action}
use Rattle.dp_spec.specs.SharedPolicy.{unfolded}
use Rattle.dp_spec.specs.SharedRows.{shared_policy_rows}
use Rattle.dp_spec.specs.TextLines.{AllAllowed, Line, fixed, fixed_line, text_of_lines}
use Rattle.dp_laws.proofs.PlainForms.{plain_is_form}
use Rattle.dp_lines.specs.Scanning.{text_from}
use Rattle.dp_cert.specs.declared.fault.CertFault.{CertFault}
use Rattle.dp_cert.specs.CertificateGrammar.{certificate_grammar}
use Rattle.dp_cert.specs.Reading.{Gives}
use Rattle.dp_cert.proofs.ReadCertificates.{lines_read, rows_lines, text_read, tree_part_lines}
use Rattle.dp_cert.proofs.ReadPlainRows.{action_lines, actions_of, plain_lines}

-- ---- the lines of a plain policy

row_does : (n h t : ℕ) (q : PolicyTree) (xs : List ℕ)
    → actions_of (map (plain_row n h q t) xs) ≡ map (λ x. root_action (tree_at n q t x)) xs
row_does n h t q [] = refl
row_does n h t q (x ∷ xs) = ap (λ (l : List ℕ). root_action (tree_at n q t x) ∷ l) (row_does n h t q xs)

tree_lines_are : (b n h : ℕ) (q : PolicyTree) (t k : ℕ)
    → action_lines b n t (map (λ u. map (plain_row n h q u) (range_with_len 0 (n ^ u))) (range_with_len t k))
    ≡ map (row_line b n q) (range_with_len t k)
tree_lines_are b n h q t zero = refl
tree_lines_are b n h q t (suc k) =
    let first = row_does n h t q (range_with_len 0 (n ^ t)) in
    let others = tree_lines_are b n h q (t + 1) k in
    λ i. record { form = row_form b n t; numbers = map pos (first i) } ∷ others i

forms_lines : (h : ℕ) (bs ns : List ℕ) (qs : List PolicyTree)
    → plain_lines bs ns (plain_rows_of ns h qs) ≡ policy_rows bs ns h qs
forms_lines h [] ns qs = refl
forms_lines h (b ∷ bs) [] qs = refl
forms_lines h (b ∷ bs) (n ∷ ns) [] = refl
forms_lines h (b ∷ bs) (n ∷ ns) (q ∷ qs) =
    let first = tree_lines_are b n h q 0 h in
    let others = forms_lines h bs ns qs in
    λ i. first i ∷ others i

-- the lines of a policy of a version
pub rows_lines_are : (m : Model) (c : Certificate) → HasPolicyOfVersion m c
    → rows_lines m c.version c.policy ≡ certificate_rows m.actions m.observations c
unfolding certificate_rows plain_form
rows_lines_are m c has = by_version (c.version == 1) refl
  where
    is_one : (v : ℕ) → (v == 1) ≡ true → v ≡ 1
    is_one v e = grind (arith, nat_tests)

    by_version : (b : Bool) → (c.version == 1) ≡ b
        → cond b (plain_lines m.actions m.observations c.policy)
        (shared_policy_rows m.actions m.observations c.policy)
        ≡ cond b (policy_rows m.actions m.observations c.horizon (unfolded c.policy))
        (shared_policy_rows m.actions m.observations c.policy)
    by_version true e =
        ap (plain_lines m.actions m.observations)
        (plain_is_form m c.horizon c.policy has.shared (has.plain (is_one c.version e)))
        ∙ forms_lines c.horizon m.actions m.observations (unfolded c.policy)
    by_version false e = refl

-- the lines of a certificate
pub lines_read_are : (m : Model) (c : Certificate) → HasPolicyOfVersion m c
    → lines_read m c ≡ certificate_lines m.actions m.observations c
lines_read_are m c has =
    ap (λ (rows : List (List Line)). head_lines c ++ fixed_line
    (fixed (codes "policy") ∷ []) ∷ (agent_lines 0 rows
    ++ tree_part_lines c.tree)) (rows_lines_are m c has)

-- ---- the whole text

read_text : (m : Model) → IsModel m → (bytes : List ℕ) (c : Certificate)
    → text_from (certificate_grammar m) 1 bytes ≡ Ok c → IsCertificateText m bytes c
unfolding certificate_text
read_text m is bytes c e =
    let read = text_read m is bytes c e in
    let lines = lines_read_are m c read.policy in
    record {
      policy = read.policy;
      allowed = subst AllAllowed lines read.lines.allowed;
      text = read.lines.text ∙ append-nil (text_of_lines (lines_read m c)) ∙ ap text_of_lines lines;
    }

-- as the code tells it
pub given_text : {X : Type 0} (view : X → Certificate) (r : Result X CertFault) (m : Model) → IsModel m
    → (bytes : List ℕ)
    → Gives view r (text_from (certificate_grammar m) 1 bytes)
    → IfOk r (λ x. IsCertificateText m bytes (view x))
given_text view (Ok x) m is bytes gives = read_text m is bytes (view x) gives
given_text view (Err fault) m is bytes gives = tt
