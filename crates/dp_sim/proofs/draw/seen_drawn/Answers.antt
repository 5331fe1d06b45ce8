use Rattle.std.proofs.Common.{rules, arith}
use Rattle.dp_spec.specs.Model.{obs_at}
use Rattle.dp_sim.proofs.draw.seen_drawn.Goals as goal

pub drawn-requires-clause-row : goal.drawn-requires-clause-row
drawn-requires-clause-row c =
    let is = c.joint_observations.ensures.is in
    let row = c.invariant.ensures.model.rows.obs c.args.action c.args.next c.requires.action c.requires.next in (
      obs_at c.args.model.now.model c.args.action c.args.next,
      record {
        callable = λ i lt a b d e f h k. (c.requires.action, (c.requires.next, omega (arith, lt, is)));
        gives = λ i x lt says. search rules;
        sums = search rules;
      },
    )
