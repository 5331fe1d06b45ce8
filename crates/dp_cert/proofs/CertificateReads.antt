-- The lines of a certificate are read as the certificate, so its text says it.
use Rattle.std.proofs.Common.{◌≡◌, ℕ, ◌*◌, ◌^◌, ◌<◌, ◌≤◌, Bool, true, false, cond, List, [], ◌∷◌, ◌++◌, get_or, inl}
use Rattle.std.proofs.Common.{inr, Ok, Err, refl, sym, ap, subst, ◌∙◌, arith}
use Rattle.std.specs.Prelude.{◌==◌, ◌⊎◌, pos, replicate, Result, None, codes}
use Rattle.std.proofs.lemmas.Bool.Decides.{nat_tests}
use Rattle.std.proofs.lemmas.List.{get_or-replicate}
use Rattle.dp_spec.specs.BoundTree.{depth_of}
use Rattle.dp_spec.specs.Certificate.{Certificate, HasPolicyOfVersion}
use Rattle.dp_spec.specs.CertificateText.{IsCertificateText, certificate_lines, certificate_rows, certificate_text}
use Rattle.dp_spec.specs.CertificateText.{inner_form, look_form, mode_form, signed_form, signed_line}
use Rattle.dp_spec.specs.JointNumbers.{product}
use Rattle.dp_spec.specs.Model.{IsModel, Model}
use Rattle.dp_spec.specs.PlainForm.{plain_form}
use Rattle.dp_spec.specs.PolicyText.{agent_lines, horizon_form, horizon_line, policy_rows, title_form}
use Rattle.dp_spec.specs.SharedPolicy.{SharedPolicy, row_counts, unfolded}
use Rattle.dp_spec.specs.SharedRows.{shared_policy_rows}
use Rattle.dp_spec.specs.TextLines.{AllAllowed, Allows, Line, fixed, fixed_line, text_of_lines}
use Rattle.dp_laws.proofs.PlainForms.{plain_is_form}
use Rattle.dp_laws.proofs.SharedTrees.{unfolded_is_policy}
use Rattle.dp_laws.proofs.WholeTexts.{AllAllowed-parts}
use Rattle.dp_model.specs.declared.limit.TooLarge.{TooLarge}
use Rattle.dp_lines.specs.Grammar.{Fault, IsText, ends, ◌>>=◌}
use Rattle.dp_lines.specs.Scanning.{text_from}
use Rattle.dp_lines.specs.Steps.{first_plain, the_numbers, unless_passed}
use Rattle.dp_lines.proofs.OneAnswer.{one_answer, read_answer}
use Rattle.dp_cert.specs.CertificateGrammar.{Head, certificate_from, certificate_grammar, head_grammar}
use Rattle.dp_cert.specs.CertificateGrammar.{horizon_grammar, horizon_passed, title_grammar, tree_grammar}
use Rattle.dp_cert.specs.CertificateLaws.{EachCertificateTextIsRead}
use Rattle.dp_cert.specs.PolicyGrammar.{plain_agents, policy_grammar, shared_agents}
use Rattle.dp_cert.specs.declared.fault.CertFault.{CertFault}
use Rattle.dp_cert.specs.declared.fault.CertFault.TheVariants as faults
use Rattle.dp_cert.specs.Reading.{Gives, IsReadAs}
use Rattle.dp_cert.proofs.CertificateAnswers.{certificate_proper}
use Rattle.dp_cert.proofs.CertificateParts.{behind_head, behind_horizon, behind_policy, behind_tree, behind_version}
use Rattle.dp_cert.proofs.CertificateParts.{from_version, policy_one, policy_two}
use Rattle.dp_cert.proofs.LineReads.{Reads, reads_bind, reads_numbers, reads_text, reads_unless, the_line}
use Rattle.dp_cert.proofs.PlainReads.{plain_reads}
use Rattle.dp_cert.proofs.ReadCertificates.{tree_part_lines}
use Rattle.dp_cert.proofs.SharedReads.{shared_reads}
use Rattle.dp_cert.proofs.TreeReads.{tree_part_reads}

-- ---- the head

title_reads : (version : ℕ) → (version ≡ 1) ⊎ (version ≡ 2) → (rest : List Line)
    → Reads title_grammar (fixed_line (title_form (codes "certificate") version) ∷ rest) version rest
title_reads version (inl one) rest =
    subst (λ v. Reads title_grammar (fixed_line (title_form (codes "certificate") v) ∷ rest) v rest) (sym one)
    (0, title_form (codes "certificate") 1, [], rest, refl, tt, refl, (refl, refl))
title_reads version (inr two) rest =
    subst (λ v. Reads title_grammar (fixed_line (title_form (codes "certificate") v) ∷ rest) v rest) (sym two)
    (1, title_form (codes "certificate") 2, [], rest, refl, tt, refl, (refl, refl))

horizon_reads : (m : Model) (version h : ℕ) (rest : List Line) → Allows horizon_form (pos h ∷ [])
    → horizon_passed m version h ≡ None → Reads (horizon_grammar m version) (horizon_line h ∷ rest) h rest
horizon_reads m version h rest a kept =
    reads_bind (the_numbers horizon_form) (λ zs. unless_passed (horizon_passed m version (first_plain zs))
    >>= λ kept. ends (first_plain zs)) (horizon_line h ∷ rest) rest rest (pos h ∷ []) h
    (reads_numbers TooLarge horizon_form (pos h ∷ []) rest a)
    (reads_bind (unless_passed (horizon_passed m version h)) (λ kept. ends h) rest rest rest tt h
    (reads_unless (horizon_passed m version h) rest kept) (refl, refl))

-- what stands between the horizon and the policy
abbrev head_of_certificate : Certificate → Head
head_of_certificate c = record {
  look = c.look;
  is_exact = c.is_exact;
  interval = record { unit = c.unit; lower = c.lower; upper = c.upper };
  inner = c.inner;
}

-- and its lines
abbrev manner_lines : Certificate → List Line
manner_lines c =
    the_line look_form (pos c.look ∷ [])
    ∷ fixed_line (mode_form c.is_exact)
    ∷ signed_line (codes "unit") c.unit
    ∷ signed_line (codes "lower") c.lower
    ∷ signed_line (codes "upper") c.upper
    ∷ the_line inner_form (pos c.inner ∷ [])
    ∷ fixed_line (fixed (codes "policy") ∷ [])
    ∷ []

head_reads : (c : Certificate) (rest : List Line) → AllAllowed (manner_lines c)
    → Reads head_grammar (manner_lines c ++ rest) (head_of_certificate c) rest
head_reads c rest a = by_mode c.is_exact
  where
    by_mode : (e : Bool) → (let d : Certificate = record c { is_exact = e } in
        Reads head_grammar (manner_lines d ++ rest) (head_of_certificate d) rest)
    by_mode true = (
      0,
      look_form,
      pos c.look ∷ [],
      _,
      refl,
      a.0,
      refl,
      (
        0,
        mode_form true,
        [],
        _,
        refl,
        tt,
        refl,
        (
          0,
          signed_form (codes "unit"),
          c.unit ∷ [],
          _,
          refl,
          a.1.1.0,
          refl,
          (
            0,
            signed_form (codes "lower"),
            c.lower ∷ [],
            _,
            refl,
            a.1.1.1.0,
            refl,
            (
              0,
              signed_form (codes "upper"),
              c.upper ∷ [],
              _,
              refl,
              a.1.1.1.1.0,
              refl,
              (
                0,
                inner_form,
                pos c.inner ∷ [],
                _,
                refl,
                a.1.1.1.1.1.0,
                refl,
                (0, fixed (codes "policy") ∷ [], [], rest, refl, tt, refl, (refl, refl)),
              ),
            ),
          ),
        ),
      ),
    )
    by_mode false = (
      0,
      look_form,
      pos c.look ∷ [],
      _,
      refl,
      a.0,
      refl,
      (
        1,
        mode_form false,
        [],
        _,
        refl,
        tt,
        refl,
        (
          0,
          signed_form (codes "unit"),
          c.unit ∷ [],
          _,
          refl,
          a.1.1.0,
          refl,
          (
            0,
            signed_form (codes "lower"),
            c.lower ∷ [],
            _,
            refl,
            a.1.1.1.0,
            refl,
            (
              0,
              signed_form (codes "upper"),
              c.upper ∷ [],
              _,
              refl,
              a.1.1.1.1.0,
              refl,
              (
                0,
                inner_form,
                pos c.inner ∷ [],
                _,
                refl,
                a.1.1.1.1.1.0,
                refl,
                (0, fixed (codes "policy") ∷ [], [], rest, refl, tt, refl, (refl, refl)),
              ),
            ),
          ),
        ),
      ),
    )

-- ---- the policy

policy_reads : (m : Model) → IsModel m → (c : Certificate) → HasPolicyOfVersion m c → (rest : List Line)
    → AllAllowed (agent_lines 0 (certificate_rows m.actions m.observations c))
    → Reads (policy_grammar m c.version c.horizon)
    (agent_lines 0 (certificate_rows m.actions m.observations c) ++ rest) c.policy rest
unfolding certificate_rows plain_form policy_grammar
policy_reads m is c has rest a = by_version (c.version == 1) refl a
  where
    is_one : (v : ℕ) → (v == 1) ≡ true → v ≡ 1
    is_one v e = grind (arith, nat_tests)

    rows_of : Bool → List (List Line)
    rows_of b = cond b (policy_rows m.actions m.observations c.horizon (unfolded c.policy))
        (shared_policy_rows m.actions m.observations c.policy)

    by_version : (b : Bool) → (c.version == 1) ≡ b → AllAllowed (agent_lines 0 (rows_of b))
        → Reads (cond b (plain_agents c.horizon 0 m.actions m.observations)
        (shared_agents c.horizon 0 (replicate c.horizon m.states) m.actions m.observations))
        (agent_lines 0 (rows_of b) ++ rest) c.policy rest
    by_version true e a =
        subst (λ (p : SharedPolicy). Reads (plain_agents c.horizon 0 m.actions m.observations)
        (agent_lines 0 (rows_of true) ++ rest) p rest)
        (sym (plain_is_form m c.horizon c.policy has.shared (has.plain (is_one c.version e))))
        (plain_reads c.horizon 0 m.actions m.observations (unfolded c.policy) rest
        (unfolded_is_policy m c.horizon c.policy has.shared) a)
    by_version false e a =
        shared_reads has.shared.agents 0 (replicate c.horizon m.states) rest
        (λ t lt. subst (λ (s : ℕ). s * product (row_counts c.policy t) ≤ 2 ^ 22)
        (sym (get_or-replicate c.horizon t m.states 0 lt)) (has.shared.cells t lt)) a

-- ---- the whole text

-- the lines of a certificate are read as it
certificate_reads : (m : Model) → IsModel m → (c : Certificate) → HasPolicyOfVersion m c
    → AllAllowed (certificate_lines m.actions m.observations c) → horizon_passed m c.version c.horizon ≡ None
    → depth_of c.tree ≤ 2048
    → Reads (certificate_grammar m) (certificate_lines m.actions m.observations c) c []
certificate_reads m is c has a kept deep =
    let rows = agent_lines 0 (certificate_rows m.actions m.observations c) in
    let tree = tree_part_lines c.tree in
    let head = head_of_certificate c in
    let parts = AllAllowed-parts rows tree a.1.1.1.1.1.1.1.1.1 in
    subst (λ g. Reads g (certificate_lines m.actions m.observations c) c []) (sym (from_version m))
    (reads_bind title_grammar (behind_version m) _ (horizon_line c.horizon ∷ (manner_lines c ++ (rows ++ tree))) []
    c.version c (title_reads c.version has.version _)
    (reads_bind (horizon_grammar m c.version) (behind_horizon m c.version) _ (manner_lines c ++ (rows ++ tree)) []
    c.horizon c (horizon_reads m c.version c.horizon _ a.1.0 kept)
    (reads_bind head_grammar (behind_head m c.version c.horizon) _ (rows ++ tree) [] head c
    (head_reads c (rows ++ tree) (AllAllowed-parts (manner_lines c) (rows ++ tree) a.1.1).0)
    (reads_bind (policy_grammar m c.version c.horizon) (behind_policy c.version c.horizon head) _ tree [] c.policy c
    (policy_reads m is c has tree parts.0)
    (reads_bind tree_grammar (behind_tree c.version c.horizon head c.policy) _ [] [] c.tree c
    (tree_part_reads c.tree deep parts.1) (refl, refl))))))

pub each_certificate_text_is_read : EachCertificateTextIsRead
unfolding certificate_text
each_certificate_text_is_read m is bytes c text kept deep =
    subst (λ (l : List ℕ). IsText (certificate_grammar m) l c) (sym text.text)
    (reads_text (certificate_grammar m) (certificate_lines m.actions m.observations c) c
    (certificate_reads m is c text.policy text.allowed kept deep))

-- so it is what is computed, and read
pub text_is_computed : (m : Model) → IsModel m → (bytes : List ℕ) (c : Certificate) → IsCertificateText m bytes c
    → horizon_passed m c.version c.horizon ≡ None → depth_of c.tree ≤ 2048
    → text_from (certificate_grammar m) 1 bytes ≡ Ok c
text_is_computed m is bytes c text kept deep =
    let few = is.sizes.agents_limit in
    let proper = certificate_proper m (omega (arith, few)) in
    one_answer (certificate_grammar m) proper 1 bytes _ (Ok c) (read_answer (certificate_grammar m) proper 1 bytes)
    (each_certificate_text_is_read m is bytes c text kept deep)

pub given_whole : {X : Type 0} (view : X → Certificate) (r : Result X CertFault) (m : Model) → IsModel m
    → (bytes : List ℕ) → Gives view r (text_from (certificate_grammar m) 1 bytes) → (c : Certificate)
    → IsCertificateText m bytes c → horizon_passed m c.version c.horizon ≡ None → depth_of c.tree ≤ 2048
    → IsReadAs view r c
given_whole view r m is bytes gives c text kept deep =
    by_result r (subst (Gives view r) (text_is_computed m is bytes c text kept deep) gives)
  where
    by_result : (r : Result _ CertFault) → Gives view r (Ok c) → IsReadAs view r c
    by_result (Ok x) same = let e : c ≡ view x = cc in sym e
    by_result (Err (faults.At line why)) same = absurd cc
    by_result (Err (faults.TooLarge passed)) same = absurd cc
    by_result (Err faults.Memory) same = tt
