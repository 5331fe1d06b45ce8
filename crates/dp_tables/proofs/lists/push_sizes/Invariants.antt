use Rattle.std.proofs.Common.{◌≡◌, ◌++◌, take, map}
use Rattle.dp_meaning.specs.NameLists.{size_of}
use Rattle.dp_tables.proofs.lists.push_sizes.Given as goal

abbrev pub invariant-loop-list : goal.invariant-loop-list
invariant-loop-list l = l.sizes.items ≡ l.fn.sizes.items ++ map size_of (take l.list-index l.lists)
