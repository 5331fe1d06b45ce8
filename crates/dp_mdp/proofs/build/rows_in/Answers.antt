use Rattle.std.proofs.Common.{suc, ◌<◌, length, [], sym, ◌∙◌, add-one, subst, arith, rules}
use Rattle.std.specs.Int.{w128}
use Rattle.std.proofs.lemmas.Int.{to_z-of_z}
use mir.Val.{SFits}
use Rattle.dp_mdp.specs.Building.{AllowsRow}
use Rattle.dp_mdp.specs.TableRows.{IsRow}
use Rattle.dp_mdp.proofs.Growth.{element_is, one_more_item}
use Rattle.dp_mdp.proofs.build.rows_in.Goals as goal

pub next_row-requires-clause-row : goal.next_row-requires-clause-row
next_row-requires-clause-row g c =
    let last : c.loop-rest.rest < suc c.loop-rest.rest = omega arith in
    let inside : c.loop-rest.rest < length c.loop-rest.rows.items = let len = c.loop-rest.invariant.filled in
    omega arith in
    let is = c.as_slice-row.ensures ∙ element_is c.loop-rest.rows.items c.loop-rest.rest _ [] inside
    c.index.ensures in
    subst (IsRow (g.A.Arith.operations c.args.arith.now) c.args.model.now.model c.loop-rest.rest) (sym is)
    (c.loop-rest.invariant.each c.loop-rest.rest last)

pub next_row-requires-clause-sizes : goal.next_row-requires-clause-sizes
next_row-requires-clause-sizes g c =
    let less : c.loop-rest.rest < c.args.horizon = omega arith in
    let fits : SFits w128 c.power_at-power.result = search rules in
    let is = to_z-of_z w128 _ fits ∙ c.power_at-power.ensures in
    subst (AllowsRow (g.A.Arith.operations c.args.arith.now) (g.A.Arith.calls c.args.arith.now)
    c.args.model.now.model c.loop-rest.rest) (sym is) (c.requires.sizes c.loop-rest.rest less)

pub loop-rest-preserved : goal.loop-rest-preserved
loop-rest-preserved g c = record {
  filled = search rules;
  each = rw add-one (one_more_item (IsRow (g.A.Arith.operations c.args.arith.now) c.args.model.now.model)
      c.loop-rest.rows.items c.push-in-loop-rest.new.self.items (suc c.loop-rest.rest) c.in_ok-next.next []
      (search rules) c.loop-rest.invariant.filled c.loop-rest.invariant.each (search rules));
}
