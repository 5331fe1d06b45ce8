use Rattle.std.proofs.Common.{ap, sym, subst, ◌∙◌}
use Rattle.dp_spec.specs.Front.{Front}
use Rattle.dp_cluster.specs.KeptFronts.{KeptFront}
use Rattle.dp_game.specs.Games.{IsGameOf}
use Rattle.dp_search.proofs.expansion.branched.Goals as goal

pub returns-clause-room : goal.returns-clause-room
returns-clause-room g c =
    let m = c.args.model.now.model in
    let h = c.args.bounder.now.horizon in
    let look = c.args.bounder.now.look in
    let start = c.requires.start in
    let game = subst (IsGameOf m h look c.as_ref.result.now.front)
    (sym (c.in_ok-new.ensures.ok ∙ c.in_ok-expanded.ensures.game)) c.in_ok-game.ensures.is in
    let at = ap (λ (k : KeptFront). k.front) c.as_ref.ensures ∙ start.front in
    record {
      look_room = c.branched_at.ensures.look_room;
      made = c.in_ok-keep.ensures.kept m h look c.args.options.merge c.requires.room.made (record {
        of_planner = start.of_planner;
        front = start.front;
        game = subst (λ (F : Front). IsGameOf m h look F c.in_ok-new.field-0.value) at game;
        settled = λ on. absurd cc;
      });
    }
