use Rattle.std.proofs.Common.{◌≡◌, ◌<◌, ℕ, length, get_or, []}
use Rattle.dp_links.specs.Links.{IsLinkedRow}
use Rattle.dp_links.proofs.links.linked_rows.Given as goal

abbrev pub invariant-loop-action : goal.invariant-loop-action
invariant-loop-action l = record {
  filled : length l.rows.items ≡ l.action;
  rows : (a : ℕ) → a < l.action → IsLinkedRow l.model.model l.backwards a (get_or l.rows.items a []);
}
