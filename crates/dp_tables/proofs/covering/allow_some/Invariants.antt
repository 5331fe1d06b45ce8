use Rattle.std.proofs.Common.{◌≡◌, ◌-◌, map}
use Rattle.std.specs.List.{list_any, range_with_len}
use Rattle.dp_spec.specs.JointNumbers.{parts_of}
use Rattle.dp_meaning.specs.Cells.{allow}
use Rattle.dp_meaning.specs.NameLists.{size_of}
use Rattle.dp_tables.proofs.covering.allow_some.Given as goal

abbrev pub invariant-loop-number : goal.invariant-loop-number
invariant-loop-number l =
    list_any (λ n. allow l.parts (parts_of (map size_of l.lists) n)) (range_with_len l.number (l.count - l.number))
    ≡ list_any (λ n. allow l.parts (parts_of (map size_of l.lists) n)) (range_with_len 0 l.count)
