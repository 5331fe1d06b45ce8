use Rattle.std.proofs.Common.{false, Some, ap, sym, subst, ◌∙◌}
use Rattle.dp_spec.specs.Front.{Front}
use Rattle.dp_cluster.specs.KeptFronts.{KeptFront}
use Rattle.dp_game.specs.Games.{IsGameOf}
use Rattle.dp_search.specs.declared.made_fronts.MadeFront.{MadeFront}
use Rattle.dp_search.specs.Paths.{path_front}
use Rattle.dp_search.proofs.MadeFronts.{same_made}
use Rattle.dp_search.proofs.making.kept_with_game.Goals as goal

pub returns-in_err-keep-clause-room : goal.returns-in_err-keep-clause-room
returns-in_err-keep-clause-room c = record {
  look_room = c.own_game.ensures.look_room;
  made = c.in_err-keep.ensures.fails c.args.model.now.model c.args.bounder.now.horizon c.args.bounder.now.look
      c.args.merging c.requires.room.made;
}

pub returns-clause-room : goal.returns-clause-room
returns-clause-room c =
    let m = c.args.model.now.model in
    let h = c.args.bounder.now.horizon in
    let look = c.args.bounder.now.look in
    let merging = c.args.merging in
    let F = path_front m c.args.path.now.value in
    let start = c.requires.start in
    let game = subst (IsGameOf m h look c.as_ref.result.now.front) (sym c.in_ok-new.ensures.ok)
    c.in_ok-game.ensures.is in
    let at = ap (λ (k : KeptFront). k.front) c.as_ref.ensures ∙ start.front in
    let same = c.in_ok-same.ensures in
    let made : MadeFront = record {
      front = c.args.start.front;
      game = Some c.in_ok-new.field-0;
      settled = false;
    } in
    record {
      look_room = c.own_game.ensures.look_room;
      made = c.in_ok-keep.ensures.kept m h look merging c.requires.room.made
          (same_made m h look merging F made c.in_ok-same.same same.front same.game same.settled (record {
            of_planner = start.of_planner;
            front = start.front;
            game = subst (λ (G : Front). IsGameOf m h look G c.in_ok-new.field-0.value) at game;
            settled = λ on. absurd cc;
          }));
    }
