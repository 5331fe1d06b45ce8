use Rattle.std.proofs.Common.{[], ◌∷◌, ◌++◌, sym, ap, subst, ◌∙◌}
use Rattle.dp_tables.specs.Writing.{ArePartsWithin, is_covered}
use Rattle.dp_tables.proofs.WritingLemmas.{covered_without, within_without}
use Rattle.dp_tables.proofs.writing.+without_last_any.Goals as goal

pub returns-in-Some-Any-default-clause-same : goal.returns-in-Some-Any-default-clause-same
returns-in-Some-Any-default-clause-same t c =
    let here = c.in-Some-Any-default in
    λ sizes k. c.without_last_any.ensures.same sizes k ∙ covered_without sizes here.front.now k
    ∙ ap (λ ps. is_covered sizes ps k)
    (sym (here.ensures.cases.0 ∙ ap (λ p. here.front.now ++ p ∷ []) here.field-0-0-is))

pub returns-in-Some-Any-default-clause-within : goal.returns-in-Some-Any-default-clause-within
returns-in-Some-Any-default-clause-within t c =
    let here = c.in-Some-Any-default in
    λ sizes are. c.without_last_any.ensures.within sizes (within_without sizes here.front.now
    (subst (ArePartsWithin sizes) (here.ensures.cases.0 ∙ ap (λ p. here.front.now ++ p ∷ []) here.field-0-0-is) are))
