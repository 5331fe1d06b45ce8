use Rattle.std.proofs.Common.{◌≡◌, ◌+◌, ℕ, suc, subst, arith}
use Rattle.dp_pomdp.specs.Rooms.{IsRoomFor}
use Rattle.dp_game.proofs.bounder.Bounder.deeper_looks.Goals as goal

pub looks_of-requires-clause-look_room : goal.looks_of-requires-clause-look_room
looks_of-requires-clause-look_room c =
    let b = c.args.self.now in
    let look : c.look.result + 1 ≡ suc b.look = omega (arith, c.look.ensures) in
    subst (λ (n : ℕ). IsRoomFor b.is_exact c.args.model.now.model n c.reach.new.self) look
    (c.in_ok-reach.ensures.reached b.is_exact b.look c.requires.look_room)
