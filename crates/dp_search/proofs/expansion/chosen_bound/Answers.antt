use Rattle.std.proofs.Common.{ap, ◌∙◌, rules}
use Rattle.std.specs.Int.{w128}
use Rattle.std.specs.Prelude.{None}
use Rattle.std.proofs.lemmas.Int.{to_z-of_z}
use Rattle.dp_spec.specs.Steps.{chosen_front}
use Rattle.dp_game.specs.Games.{KeptGame, game_bound, with_own_choice}
use Rattle.dp_search.proofs.SpreadSteps.{choice_made, taken_back}
use Rattle.dp_search.proofs.expansion.chosen_bound.Goals as goal

pub unchoose-requires-clause-chosen : goal.unchoose-requires-clause-chosen
unchoose-requires-clause-chosen c = (
  c.args.action,
  rw c.choose.ensures.is (choice_made c.args.game.now c.args.agent c.args.class c.args.action c.requires.agent
      c.requires.class),
)

pub returns-clause-is : goal.returns-clause-is
returns-clause-is c =
    to_z-of_z w128 c.bound-bound.result (search (rules, c.bound-bound.type_inv)) ∙ c.bound-bound.ensures.is
    ∙ ap game_bound c.choose.ensures.is

pub returns-clause-bound : goal.returns-clause-bound
returns-clause-bound c m h look F is =
    to_z-of_z w128 c.bound-bound.result (search (rules, c.bound-bound.type_inv))
    ∙ c.bound-bound.ensures.of_front m h look (chosen_front F c.args.agent c.args.class c.args.action)
    (c.choose.ensures.of_front m h look F is)

pub returns-clause-game : goal.returns-clause-game
returns-clause-game c =
    c.unchoose.ensures.is
    ∙ ap (λ (g : KeptGame). with_own_choice g c.args.agent c.args.class None) c.choose.ensures.is
    ∙ taken_back c.args.game.now c.args.agent c.args.class c.args.action c.requires.agent c.requires.class
    c.requires.unassigned
