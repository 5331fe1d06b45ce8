use Rattle.std.proofs.Common.{◌≡◌, ◌≤◌, take}
use Rattle.std.specs.Prelude.{count_by}
use Rattle.dp_lexer.specs.Bytes.{is_line_feed}
use Rattle.dp_lexer.proofs.place.line_feeds.Given as goal

abbrev pub invariant-loop-byte : goal.invariant-loop-byte
invariant-loop-byte l = record {
  is : l.count ≡ count_by is_line_feed (take l.byte-index l.text);
  few : l.count
      ≤ l.byte-index;
}
