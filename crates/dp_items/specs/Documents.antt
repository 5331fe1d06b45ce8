-- What a text is to its readers: its lines before the first item, its items, and its end.
use Rattle.std.specs.Prelude.{ℕ, ◌≤◌, ◌^◌, List, length, All}
use Rattle.dp_lexer.specs.declared.Token.{Token}
use Rattle.dp_meaning.specs.Items.{Line, Item, Items}
use Rattle.dp_items.specs.declared.line.LineRange.{LineRange}
use Rattle.dp_items.specs.declared.item_range.ItemRanges.{ItemRanges}
use Rattle.dp_items.specs.Tokens.{ArePiecesOf, pieces_of_text}
use Rattle.dp_items.specs.Lines.{AreOneRun}
use Rattle.dp_items.specs.ItemRanges.{IsItemRange, items_in}

-- the lines before the first item, the items, and where the text ends
pub record ItemsOfText : Type 0 where
  pub before : List Line
  pub items : List Item
  pub end : ℕ

-- the lines and items of a text that ends at `end`
abbrev pub with_end : ℕ → Items → ItemsOfText
with_end end items = record { before = items.before; items = items.items; end = end }

-- the items of stretches of the tokens of a text, line ends aside
abbrev pub items_of_text : List ℕ → List Token → List LineRange → ItemRanges → ℕ → ItemsOfText
items_of_text bytes tokens lines items end = with_end end (items_in (pieces_of_text bytes tokens) lines items)

-- these are stretches of tokens of a text of at most 2^26 bytes
pub record IsDocument (bytes : List ℕ) (tokens : List Token) (lines : List LineRange) (items : ItemRanges) (end : ℕ) :
    Type 0 where
  pub pieces : ArePiecesOf bytes tokens
  pub one_run : AreOneRun 0 lines (length (pieces_of_text bytes tokens))
  pub before : items.before ≤ length lines
  pub each : All (IsItemRange (pieces_of_text bytes tokens) lines) items.items.items
  pub limit : end ≤ 2 ^ 26
