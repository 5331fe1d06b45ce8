use Rattle.std.proofs.Common.{[], ◌∷◌, ◌+◌, refl, ◌∙◌}
use Rattle.std.specs.Prelude.{codes}
use Rattle.std.specs.Fmt.{decimal}
use Rattle.std.proofs.lemmas.Result.{err_from_is_err_and}
use Rattle.dp_spec.specs.PolicyText.{title_form}
use Rattle.dp_lines.specs.Grammar.{ends}
use Rattle.dp_lines.specs.Steps.{one_of}
use Rattle.dp_cert.proofs.TitleLines.{one_is_word, two_is_word, one_joined, two_joined}
use Rattle.dp_lines.proofs.TextParts.{bind_ok, fails_then}
use Rattle.dp_cert.proofs.head.title.Goals as goal

pub returns-in_err-is_first : goal.returns-in_err-is_first
returns-in_err-is_first c =
    let p = err_from_is_err_and c.from_residual.result c.from_residual.ensures.1 in
    let read = c.in_err-is_first.ensures (codes "decplan" ∷ codes "certificate" ∷ decimal 1 ∷ [])
    (codes "decplan" ∷ codes "certificate" ∷ decimal 2 ∷ []) one_is_word two_is_word one_joined two_joined in
    rw (p.1, p.2) (fails_then _ _ (one_of (title_form (codes "certificate") 1)
    (title_form (codes "certificate") 2))
    (λ k. ends (k + 1)) c.args.from.line c.args.from.rest.now refl read)

pub returns : goal.returns
returns c =
    let read = c.in_ok-is_first.ensures (codes "decplan" ∷ codes "certificate" ∷ decimal 1 ∷ [])
    (codes "decplan" ∷ codes "certificate" ∷ decimal 2 ∷ []) one_is_word two_is_word one_joined two_joined in
    bind_ok (one_of (title_form (codes "certificate") 1) (title_form (codes "certificate") 2))
    (λ k. ends (k + 1))
    c.args.from.line c.args.from.rest.now _ read
    ∙ rw c.version_of.ensures refl
