use Rattle.std.proofs.Common.{ℕ, subst}
use Rattle.dp_pomdp.specs.Rooms.{IsRoomFor}
use Rattle.dp_game.proofs.bounder.Bounder.room.Goals as goal

pub returns : goal.returns
returns c =
    subst (λ (k : ℕ). IsRoomFor c.args.self.now.is_exact c.args.model.now.model k c.in_ok-room.room) c.look.ensures
    (c.in_ok-room.ensures c.args.self.now.is_exact)
