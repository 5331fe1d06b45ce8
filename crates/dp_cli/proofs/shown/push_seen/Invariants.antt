use Rattle.std.proofs.Common.{◌≡◌, ◌++◌, true, drop}
use Rattle.std.specs.Prelude.{◌==◌}
use Rattle.dp_model.specs.Names.{names_of}
use Rattle.dp_cli.specs.ShownPolicies.{names_text}
use Rattle.dp_cli.proofs.shown.push_seen.Given as goal

abbrev pub invariant-loop-place : goal.invariant-loop-place
invariant-loop-place l =
    l.fn.text.items ++ names_text (names_of l.names.observations l.agent) true l.history
    ≡ l.text.items ++ names_text (names_of l.names.observations l.agent) (l.place == 0) (drop l.place l.history)
