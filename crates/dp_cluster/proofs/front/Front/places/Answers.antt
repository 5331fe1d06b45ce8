use Rattle.std.proofs.Common.{◌*◌, refl, arith}
use Rattle.dp_cluster.proofs.OwnRuns.{AreCounted, few_places, few_runs, rows_are, runs_are}
use Rattle.dp_cluster.proofs.front.Front.places.Goals as goal

pub overflow_mul-result : goal.overflow_mul-result
overflow_mul-result c =
    let counted : AreCounted c.args.self.now c.args.agent c.joint_classes.result c.classes-classes.result
    c.width_behind-width.result c.args.self.now.states =
    record {
      stored = c.invariant.ensures;
      stage = c.requires.stage;
      some_state = c.requires.some;
      some_class = c.requires.some_class;
      agent = c.requires.agent;
      joint_is = c.joint_classes.ensures.is;
      count_is = c.classes-classes.ensures;
      width_is = c.width_behind-width.ensures;
      states_is = refl;
    } in
    let few = few_runs c.args.self.now c.args.agent c.joint_classes.result c.classes-classes.result
    c.width_behind-width.result
    c.args.self.now.states counted in omega (arith, few)

pub overflow_mul-result-2 : goal.overflow_mul-result-2
overflow_mul-result-2 c =
    let counted : AreCounted c.args.self.now c.args.agent c.joint_classes.result c.classes-classes.result
    c.width_behind-width.result c.states.result =
    record {
      stored = c.invariant.ensures;
      stage = c.requires.stage;
      some_state = c.requires.some;
      some_class = c.requires.some_class;
      agent = c.requires.agent;
      joint_is = c.joint_classes.ensures.is;
      count_is = c.classes-classes.ensures;
      width_is = c.width_behind-width.ensures;
      states_is = c.states.ensures;
    } in
    let few = few_places c.args.self.now c.args.agent c.joint_classes.result c.classes-classes.result
    c.width_behind-width.result
    c.states.result counted in omega (arith, few)

pub returns : goal.returns
returns c =
    let k = c.args.self.now in
    let counted : AreCounted k c.args.agent c.joint_classes.result c.classes-classes.result
    c.width_behind-width.result c.states.result =
    record {
      stored = c.invariant.ensures;
      stage = c.requires.stage;
      some_state = c.requires.some;
      some_class = c.requires.some_class;
      agent = c.requires.agent;
      joint_is = c.joint_classes.ensures.is;
      count_is = c.classes-classes.ensures;
      width_is = c.width_behind-width.ensures;
      states_is = c.states.ensures;
    } in
    record {
      rows = rows_are k c.args.agent c.joint_classes.result c.classes-classes.result c.width_behind-width.result
          c.states.result counted;
      classes = c.classes-classes.ensures;
      width = λ j. c.width_behind-width.ensures j * c.states.ensures j;
      runs = runs_are k c.args.agent c.joint_classes.result c.classes-classes.result c.width_behind-width.result
          c.states.result counted;
    }
