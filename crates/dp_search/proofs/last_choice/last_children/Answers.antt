use Rattle.std.proofs.Common.{arith}
use Rattle.dp_spec.specs.Steps.{front_after_choice}
use Rattle.dp_cluster.proofs.ChosenActions.{agents_of}
use Rattle.dp_cluster.proofs.FrontParts.{unassigned_in}
use Rattle.dp_search.specs.declared.planner.Child.{Child}
use Rattle.dp_search.specs.declared.held_front.HeldFront.{HeldFront}
use Rattle.dp_search.specs.HeldFronts.{IsHeldChild, front_meant}
use Rattle.dp_search.proofs.Expansions.{all_more, child_more}
use Rattle.dp_search.proofs.last_choice.last_children.Goals as goal

pub actions-action-end-requires : goal.actions-action-end-requires
actions-action-end-requires c =
    let within = unassigned_in c.args.front.now.front.agents c.args.agent c.args.class c.requires.unassigned in
    omega (arith, within.0, agents_of c.requires.front.of_model.front.agents)

pub last_child-requires-clause-action : goal.last_child-requires-clause-action
last_child-requires-clause-action c = omega (arith, c.loop-action-test.true, c.actions-action-end.ensures)

pub loop-action-preserved : goal.loop-action-preserved
loop-action-preserved c =
    let m = c.args.model.now.model in
    let kept = c.loop-action.children.items in (
      rw c.in_ok-push.ensures.items (child_more (λ (x : Child HeldFront). front_meant m x.front)
          (front_after_choice m c.args.front.now.front c.args.agent c.args.class) c.loop-action.action kept
          c.in_ok-child.child c.loop-action.invariant.0 c.in_ok-child.ensures.front),
      (λ merging path settled. rw c.in_ok-push.ensures.items (all_more
          (IsHeldChild m c.args.bounder.now.horizon c.args.bounder.now.look merging)
          kept c.in_ok-child.child (c.loop-action.invariant.1 merging path settled)
          (c.in_ok-child.ensures.child merging path settled))),
      c.last_child.ensures.look_room,
    )
