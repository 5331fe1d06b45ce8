use Rattle.std.proofs.Common.{ap, ◌∙◌}
use Rattle.dp_meaning.specs.Rows.{offset_of_start}
use Rattle.dp_tables.proofs.StartLemmas.{start_size, start_done, start_failed, start_fault}
use Rattle.dp_tables.proofs.start.repair_start.Goals as goal

pub repair_rows-requires-clause-size : goal.repair_rows-requires-clause-size
repair_rows-requires-clause-size c = start_size c.args.text.now.text c.states.result c.args.cells.now
    c.states.ensures.is c.requires

pub repair_rows-requires-clause-scale : goal.repair_rows-requires-clause-scale
repair_rows-requires-clause-scale c = c.scales.ensures.scales.start

pub returns-in-Ok-clause-is : goal.returns-in-Ok-clause-is
returns-in-Ok-clause-is c =
    let scale = ap (λ scales. scales.start) c.scales.ensures.is in
    start_done c.args.text.now.text c.scales.result.start c.states.result c.args.cells.now _ _ scale
    c.states.ensures.is c.requires c.in-Ok.ensures.is c.args.text.now.end

pub returns-in-Err-clause-is : goal.returns-in-Err-clause-is
returns-in-Err-clause-is c =
    let scale = ap (λ scales. scales.start) c.scales.ensures.is in
    start_failed c.args.text.now.text c.scales.result.start c.states.result c.args.cells.now c.args.cells.now _ scale
    c.states.ensures.is c.requires c.in-Err.ensures.row c.in-Err.ensures.is c.args.text.now.end
    ∙ start_fault _ c.args.text.now.text.header.start
    (c.offset_of_start.ensures ∙ ap (λ header. offset_of_start header.start) c.header.ensures)
