use Rattle.std.proofs.Common.{ℕ, List, ◌+◌, ◌++◌, ◌≤◌, take}
use Rattle.std.specs.Char.{is_ascii_digit}
use Rattle.std.specs.List.{prefix_len}
use Rattle.dp_base.specs.Significands.{IsSeen}
use Rattle.dp_base.proofs.significand.Significand.scan.Given as goal

abbrev pub invariant-loop-count : goal.invariant-loop-count
invariant-loop-count l = record {
  seen : (ds : List ℕ) → IsSeen ds l.fn.self → IsSeen (ds ++ take l.count l.text) l.seen;
  run : l.count ≤ prefix_len is_ascii_digit l.text;
  room : l.seen.len + l.seen.zeros ≤ l.fn.self.len + l.fn.self.zeros + l.count;
}
