use Rattle.std.proofs.Common.{◌≡◌, map, take}
use Rattle.dp_meaning.specs.NameLists.{size_of}
use Rattle.dp_reader.proofs.lists.sizes.Given as goal

abbrev pub invariant-loop-list : goal.invariant-loop-list
invariant-loop-list l = l.sizes.items ≡ map size_of (take l.list-index l.lists)
