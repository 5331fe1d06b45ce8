use Rattle.std.proofs.Common.{◌^◌, [], ◌∷◌, ap, ◌∙◌, arith}
use Rattle.std.specs.Prelude.{nat_le}
use Rattle.dp_meaning.specs.Scales.{scale_of}
use Rattle.dp_spec.proofs.ModelLaws.{some_state}
use Rattle.dp_writer.specs.ModelRows.{start_row}
use Rattle.dp_writer.proofs.RowNeeds.{written_where}
use Rattle.dp_writer.proofs.needs.has_writable_start.Goals as goal

pub has_scale-requires-clause-len : goal.has_scale-requires-clause-len
has_scale-requires-clause-len c =
    omega (arith, some_state c.args.model.now.model c.invariant.ensures.model, c.states.ensures.is)

pub returns-in-Some : goal.returns-in-Some
returns-in-Some c =
    let m = c.args.model.now.model in
    let needs = c.in-Some.needs in
    written_where m.scales.start m.states (start_row m ∷ []) needs c.has_scale.result c.in-Some.ensures
    (c.has_scale.ensures ∙ ap (λ n. nat_le (scale_of needs.digits needs.uniform n) (2 ^ 62)) c.states.ensures.is)
