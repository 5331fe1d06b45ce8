-- What is told of the bytes of a certificate that were read, or were not, and of its verdict.
use Rattle.std.proofs.Common.{◌≡◌, ℕ, List, [], ◌++◌, Some, None, ap, refl, ◌∙◌}
use Rattle.std.specs.Prelude.{option_map}
use Rattle.dp_spec.specs.Certificate.{Certificate, IsValid}
use Rattle.dp_spec.specs.FirstReason.{IsFirstReason}
use Rattle.dp_spec.specs.Model.{Model, IsModel}
use Rattle.dp_laws.proofs.FirstReasons.{first_reason_is, no_reason_where_valid}
use Rattle.dp_lines.specs.Grammar.{IsText}
use Rattle.dp_cert.specs.CertificateGrammar.{certificate_grammar}
use Rattle.dp_check.specs.declared.verdict.Reason.{Reason}
use Rattle.dp_check.specs.declared.verdict.Reason.TheVariants as reasons
use Rattle.dp_check.specs.Verdicts.{reason_of}
use Rattle.dp_cli.specs.CheckCommand.{certificate_fault, reason_fault, told_reason}
use Rattle.dp_cli.specs.declared.refusal.JobFault.TheVariants as job_faults
use Rattle.dp_cli.proofs.CertificateReading.{certificate_read}
use Rattle.dp_cli.proofs.ValueTexts.{and_then}

-- a reason of the code is told as the one that it is
told_back : (r : Reason) → told_reason (reason_of r) ≡ r
told_back (reasons.Mode found) = refl
told_back (reasons.Unit found) = refl
told_back (reasons.Lower found) = refl
told_back (reasons.Place node) = refl
told_back (reasons.Kids node found) = refl
told_back (reasons.NotEqual node place) = refl
told_back (reasons.LeafBound node found) = refl
told_back (reasons.Inner found) = refl
told_back (reasons.Upper found) = refl

-- what is told of a certificate that is rejected
pub rejected_is : (m : Model) → IsModel m → (bytes : List ℕ) (c : Certificate) (r : Reason) → IsText
    (certificate_grammar m) bytes c
    → IsFirstReason m c (reason_of r) → certificate_fault bytes m ≡ Some (job_faults.Rejected r)
rejected_is m is bytes c r says first =
    certificate_read (reason_fault m) m is bytes c says
    ∙ ap (option_map (λ x. job_faults.Rejected (told_reason x))) ((first_reason_is m c (reason_of r)).1 first)
    ∙ ap (λ x. Some (job_faults.Rejected x)) (told_back r)

-- nothing is wrong with one that is accepted
pub accepted_is : (m : Model) → IsModel m → (bytes : List ℕ) (c : Certificate) → IsText (certificate_grammar m)
    bytes c
    → IsValid m c → certificate_fault bytes m ≡ None
accepted_is m is bytes c says valid =
    certificate_read (reason_fault m) m is bytes c says
    ∙ ap (option_map (λ x. job_faults.Rejected (told_reason x)))
    ((no_reason_where_valid m c valid.within valid.policy).1 valid)

-- the lines of a certificate that is accepted
pub accepted_pushed : (t0 t1 t2 t3 t4 t5 t6 t7 a closed lean merged counts lower upper : List ℕ) → t0 ≡ []
    → t1 ≡ t0 ++ a → t2 ≡ t1 ++ closed → t3 ≡ t2 ++ lean → t4 ≡ t3 ++ merged → t5 ≡ t4 ++ counts
    → t6 ≡ t5 ++ lower → t7 ≡ t6 ++ upper
    → t7 ≡ a ++ (closed ++ (lean ++ (merged ++ (counts ++ (lower ++ upper)))))
accepted_pushed t0 t1 t2 t3 t4 t5 t6 t7 a closed lean merged counts lower upper none e1 e2 e3 e4 e5 e6 e7 =
    and_then t0 t1 t7 a (closed ++ (lean ++ (merged ++ (counts ++ (lower ++ upper))))) e1
    (and_then t1 t2 t7 closed (lean ++ (merged ++ (counts ++ (lower ++ upper)))) e2
    (and_then t2 t3 t7 lean (merged ++ (counts ++ (lower ++ upper))) e3
    (and_then t3 t4 t7 merged (counts ++ (lower ++ upper)) e4
    (and_then t4 t5 t7 counts (lower ++ upper) e5
    (and_then t5 t6 t7 lower upper e6 e7)))))
    ∙ ap (λ l. l ++ (a ++ (closed ++ (lean ++ (merged ++ (counts ++ (lower ++ upper))))))) none
