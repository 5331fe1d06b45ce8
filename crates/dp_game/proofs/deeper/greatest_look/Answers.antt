use Rattle.std.proofs.Common.{◌-◌, ◌*◌, ℕ, take, drop, length, ap, ◌∙◌, rules}
use Rattle.std.specs.Int.{w128}
use Rattle.std.proofs.lemmas.Int.{to_z-of_z}
use mir.Val.{SFits}
use Rattle.dp_base.specs.Sums.{greatest}
use Rattle.dp_spec.specs.Arithmetic.{arithmetic}
use Rattle.dp_spec.specs.Quantities.{action_look_ahead_in}
use Rattle.dp_pomdp.specs.Looking.{weights_of}
use Rattle.dp_game.specs.Games.{allowed_actions}
use Rattle.dp_game.proofs.LookAheadRows.{looks_are, row_weights}
use Rattle.dp_game.proofs.deeper.greatest_look.Goals as goal

pub look_of_best-requires-clause-weights : goal.look_of_best-requires-clause-weights
look_of_best-requires-clause-weights c =
    let weights = c.class_weights-weights in
    rw c.stage.ensures (row_weights c.args.model.now.model c.args.front.now c.args.bounder.now
    c.requires.of_model c.requires.bounder c.requires.horizon c.requires.stage c.requires.cells c.args.joint
    c.requires.joint weights.result.now weights.ensures.one_each weights.ensures.are)

pub returns-clause-is : goal.returns-clause-is
returns-clause-is c =
    let m = c.args.model.now.model in
    let b = c.args.bounder.now in
    let weights = c.class_weights-weights in
    let fits : SFits w128 c.in_ok-best.best = search (rules, c.look_of_best.type_inv) in
    let own = c.choices_kept-own.ensures ∙ ap (λ (n : ℕ). take n (drop (c.args.joint * n) c.args.wanted.now))
    c.agents.ensures.is in
    to_z-of_z w128 _ fits ∙ c.in_ok-best.ensures.is
    ∙ (λ j. greatest (λ a. action_look_ahead_in (arithmetic b.is_exact m.scales) m
    (b.horizon - c.stage.ensures j - 1) (weights_of weights.result.now) a c.args.look)
    (allowed_actions c.args.actions.now (own j)))
    ∙ looks_are m c.args.front.now b c.requires.of_model c.requires.bounder c.requires.horizon c.requires.stage
    c.requires.cells c.args.joint c.requires.joint weights.result.now weights.ensures.one_each
    weights.ensures.are c.args.look (allowed_actions c.args.actions.now (take (length c.args.actions.now)
    (drop (c.args.joint * length c.args.actions.now) c.args.wanted.now)))
