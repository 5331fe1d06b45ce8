use Rattle.std.proofs.Common.{rules, arith}
use Rattle.dp_spec.specs.Model.{trans_at}
use Rattle.dp_sim.proofs.draw.next_drawn.Goals as goal

pub drawn-requires-clause-row : goal.drawn-requires-clause-row
drawn-requires-clause-row c =
    let is = c.states.ensures.is in
    let row = c.invariant.ensures.model.rows.trans c.args.action c.args.state c.requires.action c.requires.state in (
      trans_at c.args.model.now.model c.args.action c.args.state,
      record {
        callable = λ i lt a b d e f h k. (c.requires.action, (c.requires.state, omega (arith, lt, is)));
        gives = λ i x lt says. search rules;
        sums = search rules;
      },
    )
