use Rattle.std.proofs.Common.{◌≡◌, drop, is_some, map}
use Rattle.std.specs.List.{list_all}
use Rattle.dp_words.specs.Command.{values_of}
use Rattle.dp_words.proofs.line.all_given.Given as goal

-- those still to come are given exactly where all are
abbrev pub invariant-loop-name : goal.invariant-loop-name
invariant-loop-name l =
    list_all (λ name. is_some (values_of l.given name)) (map (λ name. name.now) (drop l.name-index l.names))
    ≡ list_all (λ name. is_some (values_of l.given name)) (map (λ name. name.now) l.names)
