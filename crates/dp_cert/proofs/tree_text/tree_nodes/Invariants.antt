use Rattle.std.proofs.Common.{◌≡◌, ◌≤◌, length}
use Rattle.dp_lines.specs.Scanning.{front_of}
use Rattle.dp_cert.specs.CertificateGrammar.{tree_lines}
use Rattle.dp_cert.specs.OpenNodes.{frames_of, left_below, opened}
use Rattle.dp_cert.proofs.tree_text.tree_nodes.Given as goal

-- what waits and what is to be read make the whole tree
abbrev pub invariant-loop-waiting : goal.invariant-loop-waiting
invariant-loop-waiting l = record {
  same : front_of (tree_lines 2048) l.from.line l.from.rest.now
      ≡ opened (left_below (frames_of l.waiting.items)) (frames_of l.waiting.items) l.at.line l.at.rest.now;
  few : length l.waiting.items ≤ 2048;
}

abbrev pub decreases-loop-waiting : goal.decreases-loop-waiting
decreases-loop-waiting l = length l.at.rest.now
