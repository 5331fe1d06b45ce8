use Rattle.std.proofs.Common.{ℕ, Bool, length}
use Rattle.dp_spec.specs.Model.{Model}
use Rattle.dp_search.specs.MadeFronts.{AreMade}
use Rattle.dp_search.proofs.made_fronts.MadeFronts.make_room.Given as goal

abbrev pub invariant-loop-self : goal.invariant-loop-self
invariant-loop-self l =
    (m : Model) (h look : ℕ) (merging : Bool) → AreMade m h look merging l.initial.self
    → AreMade m h look merging l.self

abbrev pub decreases-loop-self : goal.decreases-loop-self
decreases-loop-self l = length l.self.entries.entries
