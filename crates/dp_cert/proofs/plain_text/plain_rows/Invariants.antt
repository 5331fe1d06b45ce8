use Rattle.std.proofs.Common.{◌≡◌, ◌++◌, ◌*◌, drop}
use Rattle.std.specs.List.{range_with_len}
use Rattle.dp_cert.specs.PolicyGrammar.{rows_from}
use Rattle.dp_cert.proofs.plain_text.plain_rows.Given as goal

abbrev pub invariant-loop-action : goal.invariant-loop-action
invariant-loop-action l = record {
  rows : l.rows.items ++ rows_from l.observations (range_with_len 0 l.nexts) l.action-index
      (drop l.action-index l.actions)
      ≡ rows_from l.observations (range_with_len 0 l.nexts) 0 l.actions;
  first : l.first ≡ l.action-index * l.observations;
}
