use Rattle.std.proofs.Common.{◌≡◌, ◌+◌, ℕ, suc, subst, arith}
use Rattle.dp_game.specs.DeeperLooks.{AreLooksFor}
use Rattle.dp_game.proofs.LooksBefore.{looks_for}
use Rattle.dp_game.proofs.bounder.Bounder.deeper_bound.Goals as goal

pub bound_of-requires-clause-look_room : goal.bound_of-requires-clause-look_room
bound_of-requires-clause-look_room c =
    c.in_ok-reach.ensures.reached c.args.self.now.is_exact c.args.self.now.look c.requires.look_room

pub bound_of-requires-clause-before : goal.bound_of-requires-clause-before
bound_of-requires-clause-before c =
    let m = c.args.model.now.model in
    let b = c.args.self.now in
    let k = c.args.front.now in
    let look : suc b.look ≡ c.look-look.result + 1 = omega (arith, c.look-look.ensures) in
    subst (λ (n : ℕ). AreLooksFor m b k.front n c.args.before.now) look
    (looks_for m b k c.args.before.now c.requires.of_model c.requires.before)
