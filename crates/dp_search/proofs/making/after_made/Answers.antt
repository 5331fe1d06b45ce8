use Rattle.std.proofs.Common.{◌≡◌, ◌∙◌, Option, ap, subst, sym, true}
use Rattle.std.proofs.lemmas.Option.{IfSome_then}
use Rattle.std.specs.Prelude.{IfSome}
use Rattle.dp_spec.specs.Steps.{chosen_front}
use Rattle.dp_cluster.specs.KeptFronts.{KeptFront}
use Rattle.dp_game.specs.Games.{IsGameOf, KeptGame}
use Rattle.dp_search.specs.FrontPlanners.{IsPlannerFront}
use Rattle.dp_search.proofs.MadeSteps.{after, start_after_is}
use Rattle.dp_search.proofs.making.after_made.Goals as goal
use Rattle.dp_search.proofs.making.after_made.Goals.{else-next, then-next+in_ok-game}

pub returns : goal.returns
returns c h look merging F is at =
    let m = c.args.model.now.model in
    let choice = c.args.choice in
    let k = c.args.made.now.front.value in
    let next = c.in_ok-next.next in
    let here = c.as_ref.ensures in
    let own = subst (λ (f : KeptFront). IsPlannerFront m f.horizon next.front.value) here
    c.in_ok-next.ensures.of_planner in
    let front = c.in_ok-next.ensures.front ∙ ap (λ (f : KeptFront). after m f.front choice) here in
    let same = λ (on : next.same ≡ true). c.in_ok-next.ensures.same on
    ∙ ap (λ (f : KeptFront). chosen_front f.front choice.agent choice.class choice.action) here in
    let Known : Option KeptGame → Type 0 = λ o. IfSome o (λ g. (next.same ≡ true)
    × IsGameOf m h look (chosen_front F choice.agent choice.class choice.action) g) in
    start_after_is m h look merging F k is.of_planner is.front choice at _ own front same
    (elim c.if-next.branch [
      | then-next+in_ok-game w ↦ subst Known (sym w.game-is)
          (IfSome_then w.in_ok-game.game w.in_ok-game.ensures
          (λ g all. (w.if-next.true, all m h look F is.game)))
      | else-next w ↦ subst Known (sym w.game-is) tt
    ])
