use Rattle.std.proofs.Common.{ap, ◌∙◌, arith}
use Rattle.dp_check.proofs.NodeSteps.{root_with_room}
use Rattle.dp_check.proofs.node.Node.root.Goals as goal

pub look_aheads-requires-clause-front : goal.look_aheads-requires-clause-front
look_aheads-requires-clause-front c =
    root_with_room c.args.m.now.model c.args.bounds.now c.requires.bounds c.in_ok-front.front
    c.in_ok-front.ensures.of_model c.in_ok-front.ensures.horizon c.in_ok-front.ensures.front

pub front_bound-cap-requires-clause-front : goal.front_bound-cap-requires-clause-front
front_bound-cap-requires-clause-front c =
    root_with_room c.args.m.now.model c.args.bounds.now c.requires.bounds c.in_ok-front.front
    c.in_ok-front.ensures.of_model c.in_ok-front.ensures.horizon c.in_ok-front.ensures.front

pub returns-clause-of_model : goal.returns-clause-of_model
returns-clause-of_model c = record {
  front = root_with_room c.args.m.now.model c.args.bounds.now c.requires.bounds c.in_ok-front.front
      c.in_ok-front.ensures.of_model c.in_ok-front.ensures.horizon c.in_ok-front.ensures.front;
  looks = λ lt. ap (λ v. v.items) c.in_ok-looks-2.ensures.ok ∙ c.in_ok-looks.ensures.are lt;
  above = omega arith;
}
