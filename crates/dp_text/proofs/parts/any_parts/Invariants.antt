use Rattle.std.proofs.Common.{◌≡◌, map, take}
use Rattle.dp_meaning.specs.declared.statement.Part.TheVariants.{Any}
use Rattle.dp_text.proofs.parts.any_parts.Given as goal

abbrev pub invariant-loop-list : goal.invariant-loop-list
invariant-loop-list l = l.parts.items ≡ map (λ _. Any) (take l._list-index l.axis)
