use Rattle.std.proofs.Common.{◌≡◌, ◌<◌, ℕ, length, get_or, []}
use Rattle.dp_links.specs.Links.{seen_after}
use Rattle.dp_links.proofs.links.seen_rows.Given as goal

abbrev pub invariant-loop-action : goal.invariant-loop-action
invariant-loop-action l = record {
  filled : length l.rows.items ≡ l.action;
  lists : (a : ℕ) → a < l.action → get_or l.rows.items a [] ≡ seen_after l.model.model a;
}
