use Rattle.std.proofs.Common.{◌≡◌, ◌<◌, ℕ, length, get_or, []}
use Rattle.dp_links.specs.Links.{linked}
use Rattle.dp_links.proofs.links.linked_row.Given as goal

abbrev pub invariant-loop-state : goal.invariant-loop-state
invariant-loop-state l = record {
  filled : length l.row.items ≡ l.state;
  lists : (s : ℕ) → s < l.state → get_or l.row.items s [] ≡ linked l.model.model l.backwards l.action s;
}
