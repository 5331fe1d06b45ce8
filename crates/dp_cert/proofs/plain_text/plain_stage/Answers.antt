use Rattle.std.proofs.Common.{◌++◌, ◌-◌, ap, ◌∙◌}
use Rattle.std.specs.Prelude.{replicate}
use Rattle.std.specs.List.{range_with_len}
use Rattle.dp_spec.specs.TextLines.{plain}
use Rattle.dp_lines.specs.Lines.{plain_form}
use Rattle.dp_cert.specs.PolicyGrammar.{rows_from}
use Rattle.dp_cert.proofs.StageParts.{plain_stage_read}
use Rattle.dp_cert.proofs.plain_text.plain_stage.Goals as goal

pub returns : goal.returns
returns c =
    let item = plain 0 (c.args.actions - 1) in
    let form = ap plain_form c.as_slice.ensures.value ∙ c.in_ok-ranges.ensures.ok
    ∙ ap (λ l. plain_form l ++ replicate c.histories.result item) c.new.ensures.items
    ∙ ap (λ k. replicate k item) c.histories.ensures in
    let made = c.in_ok-rows.ensures.ok
    ∙ ap (λ xs. rows_from c.args.observations (range_with_len 0 c.nexts_at-nexts.result) 0 xs)
    c.as_slice-2.ensures.value
    ∙ ap (λ k. rows_from c.args.observations (range_with_len 0 k) 0 c.in_ok-numbers.numbers.items)
    c.nexts_at-nexts.ensures in
    plain_stage_read c.args.actions c.args.observations c.args.horizon c.args.stage
    (plain_form c.as_slice.result.now)
    c.args.from.line c.in_ok-numbers.to.line c.args.from.rest.now c.in_ok-numbers.to.rest.now
    c.in_ok-numbers.numbers.items
    c.in_ok-rows.rows.items form c.in_ok-numbers.ensures.gives made
