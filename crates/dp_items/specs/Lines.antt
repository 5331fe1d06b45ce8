-- Lines as stretches of the pieces of a text, line ends aside.
use Rattle.std.specs.Prelude.{◌≡◌, ℕ, ◌<◌, ◌≤◌, ◌^◌, Bool, true, false, if◌then◌else◌, nat_lt, List, [], ◌∷◌, length}
use Rattle.std.specs.Prelude.{map, filter, slice_range}
use Rattle.dp_lexer.specs.declared.Kind.{Kind}
use Rattle.dp_lexer.specs.declared.Kind.TheVariants.{LineEnd}
use Rattle.dp_meaning.specs.Items.{Piece, Line, Item, begins_item, has_pieces, lines_of}
use Rattle.dp_items.specs.declared.line.LineRange.{LineRange}

-- whether a token is no line end
abbrev pub is_no_line_end : Kind → Bool
is_no_line_end LineEnd = false
is_no_line_end _ = true

-- the pieces that are no line ends
abbrev pub kept_pieces : List Piece → List Piece
kept_pieces pieces = filter (λ p. is_no_line_end p.kind) pieces

-- the line of a stretch of pieces
abbrev pub line_of : List Piece → LineRange → Line
line_of pieces range = record { pieces = slice_range pieces range.first range.past; ends = range.ends }

-- a stretch begins here, holds a piece, and ends within a text of at most 2^26 bytes
pub record BeginsAt (from : ℕ) (range : LineRange) : Type 0 where
  pub first : range.first ≡ from
  pub some : from < range.past
  pub limit : range.ends ≤ 2 ^ 26

-- Each stretch begins where the one before it ends, the first of them at `from`, and the last ends at `past`.
abbrev pub AreOneRun : ℕ → List LineRange → ℕ → Type 0
AreOneRun from [] past = from ≡ past
AreOneRun from (range ∷ ranges) past = BeginsAt from range × AreOneRun range.past ranges past

-- a stretch alone, or none where it has no pieces
abbrev pub unless_empty : LineRange → List LineRange
unless_empty range = if nat_lt range.first range.past then range ∷ [] else []

-- all lines that have pieces, of the pieces of a text that ends at `end`: one run over the pieces that are no line
-- ends
pub record AreLinesOf (end : ℕ) (pieces : List Piece) (ranges : List LineRange) : Type 0 where
  pub one_run : AreOneRun 0 ranges (length (kept_pieces pieces))
  pub lines : map (line_of (kept_pieces pieces)) ranges ≡ filter has_pieces (lines_of end pieces)

-- the item of a first line and those that follow it
abbrev pub item_of : List Piece → LineRange → List LineRange → ℕ → Item
item_of pieces first more next = record {
  first = line_of pieces first;
  more = map (line_of pieces) more;
  next =
      next;
}

-- an item's lines are one stretch of pieces, up to `past`
pub record IsItem (pieces : List Piece) (first : LineRange) (more : List LineRange) (past next : ℕ) : Type 0 where
  pub begins : begins_item (slice_range pieces first.first first.past) ≡ true
  pub limit : first.ends ≤ 2 ^ 26
  pub one_run : AreOneRun first.past more past
  pub within : past ≤ length pieces
  pub next_limit : next ≤ 2 ^ 26
