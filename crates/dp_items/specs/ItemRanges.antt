-- Items as stretches of the lines of a text.
use Rattle.std.specs.Prelude.{◌≡◌, ℕ, ◌+◌, ◌<◌, ◌≤◌, List, map, length, take, All, slice_range, slice_index_or}
use Rattle.dp_meaning.specs.Items.{Piece, Item, Items, items_of}
use Rattle.dp_items.specs.declared.line.LineRange.{LineRange}
use Rattle.dp_items.specs.declared.item_range.ItemRange.{ItemRange}
use Rattle.dp_items.specs.declared.item_range.ItemRanges.{ItemRanges}
use Rattle.dp_items.specs.Lines.{line_of, item_of, IsItem}

-- an empty stretch, in the place of a line that is not there
abbrev pub no_line : LineRange
no_line = record { first = 0; past = 0; ends = 0 }

-- the first line of an item
abbrev pub first_of : List LineRange → ItemRange → LineRange
first_of lines range = slice_index_or lines range.line no_line

-- the lines behind the first line of an item
abbrev pub more_of : List LineRange → ItemRange → List LineRange
more_of lines range = slice_range lines (range.line + 1) range.lines_past

-- the item of a stretch of lines
abbrev pub item_in : List Piece → List LineRange → ItemRange → Item
item_in pieces lines range = item_of pieces (first_of lines range) (more_of lines range) range.next

-- the stretch is one of these lines, and they are an item
pub record IsItemRange (pieces : List Piece) (lines : List LineRange) (range : ItemRange) : Type 0 where
  pub in_order : range.line < range.lines_past
  pub within : range.lines_past ≤ length lines
  pub item : IsItem pieces (first_of lines range) (more_of lines range) range.past range.next

-- the lines before the first item, and the items
abbrev pub items_in : List Piece → List LineRange → ItemRanges → Items
items_in pieces lines ranges = record {
  before = map (line_of pieces) (take ranges.before lines);
  items = map (item_in pieces lines) ranges.items.items;
}

-- all items of the lines of a text that ends at `end`
pub record AreItemsOf (end : ℕ) (pieces : List Piece) (lines : List LineRange) (ranges : ItemRanges) : Type 0 where
  pub before : ranges.before ≤ length lines
  pub each : All (IsItemRange pieces lines) ranges.items.items
  pub items : items_of end (map (line_of pieces) lines) ≡ items_in pieces lines ranges
