use Rattle.std.proofs.Common.{◌<◌, ◌≤◌, ◌%◌, ℕ, [], length, get_or, slice_index, sym, subst, arith}
use Rattle.std.proofs.Math.Nat.{mod-lt}
use Rattle.dp_game.specs.Games.{KeptGame}
use Rattle.dp_search.proofs.large_game.falls_each_time.Goals as goal

pub falls-requires-clause-agent : goal.falls-requires-clause-agent
falls-requires-clause-agent c =
    subst (λ (g : KeptGame). c.args.agent < length g.choices) (sym c.loop-round.invariant) c.requires.agent

within : (x n : ℕ) → 512 ≤ n → x % 512 < n
within x n le = let lt : x % 512 < 512 = mod-lt x (omega arith) in omega arith

pub falls-requires-clause-class : goal.falls-requires-clause-class
falls-requires-clause-class c =
    subst (λ (g : KeptGame). c.loop-round.round % 512 < length (get_or g.choices c.args.agent [])) (sym
    c.loop-round.invariant)
    (within c.loop-round.round _ c.requires.classes)

pub falls-requires-clause-action : goal.falls-requires-clause-action
falls-requires-clause-action c =
    subst (λ (g : KeptGame). 0 < slice_index g.actions c.args.agent) (sym c.loop-round.invariant) c.requires.action
