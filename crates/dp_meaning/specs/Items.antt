-- The items of a model file: from its tokens to its lines, and from these to the entries and the statements.
use Rattle.std.specs.Prelude.{ℕ, Bool, true, false, nat_lt, List, [], ◌∷◌, ◌++◌, length, filter, drop, slice_range}
use Rattle.std.specs.List.{flat_map}
use Rattle.dp_lexer.specs.declared.Kind.{Kind}
use Rattle.dp_lexer.specs.declared.Kind.TheVariants.{Colon, Star, LineEnd}
use Rattle.dp_lexer.specs.declared.Token.{Token}

-- a token by its bytes, and the offset at which it stands
pub record Piece : Type 0 where
  pub at : ℕ
  pub kind : Kind
  pub text : List ℕ

-- the piece of a token of these bytes
abbrev pub piece_of : List ℕ → Token → Piece
piece_of bytes token = record { at = token.start; kind = token.kind; text = slice_range bytes token.start token.end }

-- whether a token is a Colon
abbrev pub is_colon : Kind → Bool
is_colon Colon = true
is_colon _ = false

-- whether a token is a Star
abbrev pub is_star : Kind → Bool
is_star Star = true
is_star _ = false

-- ---- lines

-- the pieces of a line, and where its line end stands, or the text ends
pub record Line : Type 0 where
  pub pieces : List Piece
  pub ends : ℕ

-- the pieces of a line
abbrev pub pieces_of : Line → List Piece
pieces_of line = line.pieces

-- one more piece in front: a line end begins a line of its own, any other piece joins the first line
abbrev pub with_piece : Kind → Piece → List Line → List Line
with_piece LineEnd piece lines = record { pieces = []; ends = piece.at } ∷ lines
with_piece _ piece [] = []
with_piece _ piece (line ∷ lines) = record line { pieces = piece ∷ line.pieces } ∷ lines

-- the lines of a text that ends at `end`
unfoldable pub lines_of : ℕ → List Piece → List Line
lines_of end [] = record { pieces = []; ends = end } ∷ []
lines_of end (piece ∷ pieces) = with_piece piece.kind piece (lines_of end pieces)

-- lines without pieces are dropped
abbrev pub has_pieces : Line → Bool
has_pieces line = nat_lt 0 (length line.pieces)

-- ---- items

-- An item begins at each line whose second token is a Colon, and holds the lines that follow it, up to the next
-- item. The place of a token that it lacks is where the next item begins, or the text ends.
pub record Item : Type 0 where
  pub first : Line
  pub more : List Line
  pub next : ℕ

-- the lines before the first item, and the items
pub record Items : Type 0 where
  pub before : List Line
  pub items : List Item

-- a line begins an item where its second piece is a Colon
abbrev pub begins_item : List Piece → Bool
begins_item (first ∷ second ∷ _) = is_colon second.kind
begins_item _ = false

-- where the first of these pieces stands, or `end`
abbrev pub first_at : ℕ → List Piece → ℕ
first_at end [] = end
first_at end (piece ∷ _) = piece.at

-- where the first of these items begins, or `end`
abbrev pub first_item_at : ℕ → List Item → ℕ
first_item_at end [] = end
first_item_at end (item ∷ _) = first_at end item.first.pieces

-- one more line in front, which begins an item or does not
abbrev pub with_line : ℕ → Bool → Line → Items → Items
with_line end true line others =
    record {
      before = [];
      items = record {
        first = line;
        more = others.before;
        next =
            first_item_at end others.items;
      } ∷ others.items;
    }
with_line end false line others = record others { before = line ∷ others.before }

-- the items of the lines of a text that ends at `end`
unfoldable pub items_of : ℕ → List Line → Items
items_of end [] = record { before = []; items = [] }
items_of end (line ∷ lines) = with_line end (begins_item line.pieces) line (items_of end lines)

-- the items of the tokens of a text that ends at `end`
abbrev pub items_of_pieces : ℕ → List Piece → Items
items_of_pieces end pieces = items_of end (filter has_pieces (lines_of end pieces))

-- where an item begins
abbrev pub item_at : Item → ℕ
item_at item = first_at item.next item.first.pieces

-- what stands on its first line after the first Colon
abbrev pub after_colon : Item → List Piece
after_colon item = drop 2 item.first.pieces

-- the value of an entry: every token after its first Colon, line ends aside
abbrev pub value_pieces : Item → List Piece
value_pieces item = after_colon item ++ flat_map pieces_of item.more
