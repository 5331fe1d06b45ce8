use Rattle.std.proofs.Common.{◌≡◌, ℕ, pos, get_or, filter, ap, ◌∙◌, arith, rules}
use Rattle.std.specs.Prelude.{unwrap_or}
use Rattle.std.specs.Int.{w128}
use Rattle.std.proofs.lemmas.Int.{to_z-of_z}
use mir.Val.{SFits}
use Rattle.dp_base.specs.Sums.{greatest, numbers_below}
use Rattle.dp_spec.specs.Bound.{agreeing_actions, all_agree}
use Rattle.dp_spec.specs.Front.{class_counts}
use Rattle.dp_spec.specs.JointNumbers.{parts_of}
use Rattle.dp_spec.specs.Model.{joint_actions}
use Rattle.dp_check.proofs.Choices.{best_is_greatest}
use Rattle.dp_check.proofs.bounds.class_bound.Goals as goal

pub returns : goal.returns
unfolding agreeing_actions
returns c =
    let fits : SFits w128 c.unwrap_or.result = search (rules, c.unwrap_or.type_inv) in
    let f = λ (a : ℕ). get_or c.args.row.now a (pos 0) in
    let p = λ (a : ℕ). all_agree c.args.front.now.front.agents
    (parts_of (class_counts c.args.front.now.front.agents) c.args.class)
    (parts_of c.args.m.now.model.actions a) in
    let all : c.loop-action.action ≡ joint_actions c.args.m.now.model = omega
    (arith, c.joint_actions-action-end.ensures.is, c.loop-action-test.false) in
    to_z-of_z w128 _ fits ∙ c.unwrap_or.ensures ∙ ap (λ o. unwrap_or o (pos 0)) c.loop-action.invariant
    ∙ best_is_greatest f (filter p (numbers_below c.loop-action.action))
    ∙ ap (λ n. greatest f (filter p (numbers_below n))) all
