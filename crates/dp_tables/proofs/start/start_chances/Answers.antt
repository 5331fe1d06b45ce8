use Rattle.std.proofs.Common.{◌≡◌, ap, map, subst, sym, ◌∙◌, arith}
use Rattle.std.specs.List.{range_with_len}
use Rattle.dp_meaning.specs.Rows.{start_chance}
use Rattle.dp_tables.specs.Start.{IsChanceStart}
use Rattle.dp_tables.proofs.StartLemmas.{start_by_chances, start_cells, one_more_chance}
use Rattle.dp_tables.proofs.start.start_chances.Goals as goal

pub start_chance-requires-clause-chances : goal.start_chance-requires-clause-chances
start_chance-requires-clause-chances c =
    subst (λ header. IsChanceStart header.start) (sym c.header.ensures)
    (start_by_chances c.args.text.now.text c.invariant.ensures.said)

pub loop-state-preserved : goal.loop-state-preserved
loop-state-preserved c =
    one_more_chance (start_chance c.scales-scale.result.start c.states-states.result c.header.result.now.start)
    c.loop-state.cells.items _ c.loop-state.state _
    c.loop-state.invariant c.start_chance.ensures c.in_ok-push.ensures.items

pub returns : goal.returns
returns c =
    let scale = ap (λ scales. scales.start) c.scales-scale.ensures.is in
    let all : c.loop-state.state ≡ c.states-states.result = (let h = c.loop-state.auto.state-end in omega arith) in
    let chance = start_chance c.scales-scale.result.start c.states-states.result in
    c.loop-state.invariant ∙ ap (λ n. map (chance c.header.result.now.start) (range_with_len 0 n)) all
    ∙ ap (λ header. map (chance header.start) (range_with_len 0 c.states-states.result)) c.header.ensures
    ∙ start_cells c.args.text.now.text c.scales-scale.result.start c.states-states.result scale
    c.states-states.ensures.is
