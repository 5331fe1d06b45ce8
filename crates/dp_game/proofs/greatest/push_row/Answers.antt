use Rattle.std.proofs.Common.{◌+◌, ◌*◌, get_or, pos, ◌∙◌, rules}
use Rattle.std.specs.Int.{w128}
use Rattle.std.proofs.lemmas.Int.{to_z-of_z}
use mir.Val.{SFits}
use Rattle.dp_base.specs.Sums.{greatest}
use Rattle.dp_game.specs.Extended.{choices_at, greatest_at}
use Rattle.dp_game.proofs.ClassNumbers.{allowed_below, pushed_map}
use Rattle.dp_game.proofs.greatest.push_row.Goals as goal

pub greatest_of-requires : goal.greatest_of-requires
greatest_of-requires c = λ j lt.
    let bs = c.args.actions.now in
    let are = c.deref.ensures.value ∙ c.in_ok-allowed.ensures in
    allowed_below bs (choices_at bs c.args.extended) c.deref.result.now c.args.table.now c.args.joints
    c.loop-joint.joint j c.count.result are c.count.ensures.is c.requires.table c.loop-joint-test.true lt

pub loop-joint-preserved : goal.loop-joint-preserved
loop-joint-preserved c =
    let bs = c.args.actions.now in
    let fits : SFits w128 c.greatest_of.result = search rules in
    let are = c.deref.ensures.value ∙ c.in_ok-allowed.ensures in
    pushed_map (greatest_at bs c.args.table.now c.args.extended) _ _ _ c.loop-joint.joint _
    (to_z-of_z w128 _ fits ∙ c.greatest_of.ensures
    ∙ (λ j. greatest (λ a. get_or c.args.table.now (c.loop-joint.joint * c.count.ensures.is j + a) (pos 0)) (are j)))
    c.loop-joint.invariant c.in_ok-push.ensures.items
