use Rattle.std.proofs.Common.{◌≡◌}
use Rattle.dp_links.specs.Links.{seen_chance, those_of}
use Rattle.dp_links.proofs.links.seen_row.Given as goal

abbrev pub invariant-loop-joint : goal.invariant-loop-joint
invariant-loop-joint l = l.seen.items ≡ those_of (seen_chance l.model.model l.action) l.joint
