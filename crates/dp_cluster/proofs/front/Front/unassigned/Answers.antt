use Rattle.std.proofs.Common.{◌+◌, ◌<◌, ◌≤◌, drop, get_or, length, ap, ◌∙◌, arith}
use Rattle.dp_spec.specs.Steps.{root_agent}
use Rattle.dp_spec.specs.Wide.{none_count}
use Rattle.dp_cluster.proofs.WideFronts.{classes_read, counted_all, counted_none, counted_one, read_none}
use Rattle.dp_cluster.proofs.front.Front.unassigned.Goals as goal
use Rattle.dp_cluster.proofs.front.Front.unassigned.Goals.{then-is_none, else-is_none}

pub loop-class-preserved : goal.loop-class-preserved
loop-class-preserved c =
    let ds = c.args.self.now.front.agents in
    let os = (get_or ds c.args.agent root_agent).chosen in
    let long = classes_read ds c.args.agent c.requires in
    let lt : c.loop-class.class < length os = omega (
      arith,
      c.classes-class-end.ensures,
      long,
      c.loop-class-test.true,
    ) in
    let test = read_none ds c.args.agent c.loop-class.class c.action.result c.is_none.result c.requires
    c.action.ensures c.is_none.ensures in
    elim c.if-is_none.branch [
      | then-is_none w ↦
          let next = counted_one os c.loop-class.class c.loop-class.count (none_count os) lt
          (test ∙ w.if-is_none.true) c.loop-class.invariant.0 in (
            ap (λ n. n + none_count (drop (c.loop-class.class + 1) os)) w.count-is ∙ next,
            (let few = c.loop-class.invariant.1 in omega (arith, w.count-is, few)),
          )
      | else-is_none w ↦
          let next = counted_none os c.loop-class.class c.loop-class.count (none_count os) lt
          (test ∙ w.if-is_none.false) c.loop-class.invariant.0 in (
            ap (λ n. n + none_count (drop (c.loop-class.class + 1) os)) w.count-is ∙ next,
            (let few = c.loop-class.invariant.1 in omega (arith, w.count-is, few)),
          )
    ]

pub returns : goal.returns
returns c =
    let ds = c.args.self.now.front.agents in
    let os = (get_or ds c.args.agent root_agent).chosen in
    let long = classes_read ds c.args.agent c.requires in
    let le : length os ≤ c.loop-class.class = omega (
      arith,
      c.classes-class-end.ensures,
      long,
      c.loop-class-test.false,
    ) in
    counted_all os c.loop-class.class c.loop-class.count (none_count os) le c.loop-class.invariant.0
