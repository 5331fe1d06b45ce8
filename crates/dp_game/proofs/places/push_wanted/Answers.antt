use Rattle.std.proofs.Common.{◌/◌, ◌%◌, ◌++◌, [], ◌∷◌, drop, add-one, sym, ap, ◌∙◌, arith}
use Rattle.dp_spec.specs.JointNumbers.{parts_of}
use Rattle.dp_game.specs.Games.{choices_for, own_counts}
use Rattle.dp_game.proofs.Rows.{gone_on}
use Rattle.dp_game.proofs.TakenApart.{apart_next, choices_next, class_in}
use Rattle.dp_game.proofs.places.push_wanted.Goals as goal

pub at-requires : goal.at-requires
at-requires c =
    let lt = class_in c.args.choices.now c.loop-own.own-index c.loop-own.left c.loop-own.rest
    c.loop-own-test.true
    c.own-item.result c.count-left.result (sym c.own-item.is) c.count-left.ensures c.loop-own.invariant.0 in
    let count = c.count-left.ensures in omega arith

pub loop-own-preserved : goal.loop-own-preserved
loop-own-preserved c =
    let oss = c.args.choices.now in
    let j = c.loop-own.own-index in (
      apart_next c.args.choices.now c.loop-own.own-index c.loop-own.left c.loop-own.rest c.loop-own-test.true
          c.own-item.result c.count-left.result (sym c.own-item.is) c.count-left.ensures c.loop-own.invariant.0,
      gone_on _ _ _ _ _ _ _ (ap (λ k. c.push.new.self.items ++ choices_for (drop k oss)
          (parts_of (own_counts (drop k oss)) (c.loop-own.rest % (c.loop-own.left / c.count-left.result))))
          (add-one j)) c.loop-own.invariant.1 (choices_next c.args.choices.now c.loop-own.own-index
          c.loop-own.left
          c.loop-own.rest c.loop-own-test.true c.own-item.result c.count-left.result (sym c.own-item.is)
          c.count-left.ensures c.loop-own.invariant.0)
          (c.in_ok-push.ensures.items ∙ ap (λ x. c.loop-own.wanted.items ++ x ∷ []) c.at.ensures),
    )
