use Rattle.std.proofs.Common.{◌≡◌, ℕ, ◌≤◌, List, length}
use Rattle.dp_tree.specs.TreeValue.{bound_tree}
use Rattle.dp_cert.specs.OpenNodes.{closed, frames_of, left_below}
use Rattle.dp_cert.proofs.tree_text.close.Given as goal

-- what is done and what waits make what all make
abbrev pub invariant-loop-above : goal.invariant-loop-above
invariant-loop-above l = record {
  same : (line : ℕ) (bytes : List ℕ) →
      closed (left_below (frames_of l.fn.waiting.items)) (frames_of l.fn.waiting.items) (bound_tree l.fn.tree)
      line bytes
      ≡ closed (left_below (frames_of l.waiting.items)) (frames_of l.waiting.items) (bound_tree l.done)
      line bytes;
  few : length l.waiting.items ≤ 2048;
}

abbrev pub decreases-loop-above : goal.decreases-loop-above
decreases-loop-above l = length l.waiting.items
