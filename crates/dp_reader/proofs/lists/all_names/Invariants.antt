use Rattle.std.proofs.Common.{◌≡◌, ◌++◌, map}
use Rattle.std.specs.Vec.Iter.{into_iter_items}
use Rattle.dp_meaning.specs.NameLists.{names_in}
use Rattle.dp_reader.proofs.lists.all_names.Given as goal

abbrev pub invariant-loop-list : goal.invariant-loop-list
invariant-loop-list l = l.names.items ++ map names_in (into_iter_items l.list-iterator) ≡ map names_in l.fn.lists
