use Rattle.std.proofs.Common.{◌≡◌, drop, map}
use Rattle.std.specs.List.{list_all}
use Rattle.dp_words.specs.Words.{is_allowed}
use Rattle.dp_words.specs.Command.{values_of}
use Rattle.dp_words.proofs.line.all_allowed.Given as goal

-- those still to come are allowed exactly where all are
abbrev pub invariant-loop-name : goal.invariant-loop-name
invariant-loop-name l =
    list_all (is_allowed (map (λ n. n.now) l.allowed) (values_of l.given))
    (map (λ n. n.now) (drop l.name-index l.options))
    ≡ list_all (is_allowed (map (λ n. n.now) l.allowed) (values_of l.given)) (map (λ n. n.now) l.options)
