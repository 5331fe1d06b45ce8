use Rattle.std.proofs.Common.{◌≡◌, ◌++◌, [], get_or, length}
use Rattle.std.specs.List.{flat_map, range_with_len}
use Rattle.std.specs.Prelude.{slice_index}
use Rattle.dp_spec.specs.SharedPolicy.{unfolded_tree}
use Rattle.dp_cli.specs.ShownPolicies.{numbered_text}
use Rattle.dp_cli.proofs.shown.push_stage.Given as goal

abbrev pub invariant-loop-number : goal.invariant-loop-number
invariant-loop-number l =
    l.text.items ≡ l.fn.text.items ++ flat_map (numbered_text l.model.names l.agent
    (slice_index l.model.model.observations l.agent) (unfolded_tree (get_or l.policy.rows l.agent []) 0)
    (length l.fn.history)) (range_with_len 0 l.number)
