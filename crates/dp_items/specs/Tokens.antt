-- The tokens of a text as the reading functions take them.
use Rattle.std.specs.Prelude.{ℕ, ◌<◌, ◌≤◌, ◌^◌, List, length, map, All, AllPairs}
use Rattle.dp_lexer.specs.declared.Token.{Token}
use Rattle.dp_lexer.specs.TokenLaws.{IsOfKind, slice_of}
use Rattle.dp_meaning.specs.Items.{Piece, piece_of}

-- a token of a text of at most 2^26 bytes: its bytes are those of its kind, and at least one
pub record IsPieceOf (bytes : List ℕ) (token : Token) : Type 0 where
  pub some : token.start < token.end
  pub within : token.end ≤ length bytes
  pub kind : IsOfKind token.kind (slice_of bytes token)

-- tokens of a text of at most 2^26 bytes, in order
pub record ArePiecesOf (bytes : List ℕ) (tokens : List Token) : Type 0 where
  pub each : All (IsPieceOf bytes) tokens
  pub in_order : AllPairs (λ a b. a.end ≤ b.start) tokens
  pub limit : length bytes ≤ 2 ^ 26

-- the pieces of tokens
abbrev pub pieces_of_text : List ℕ → List Token → List Piece
pieces_of_text bytes tokens = map (piece_of bytes) tokens

-- what is known of a piece: where it stands, and that its bytes are of its kind
pub record IsPiece (piece : Piece) : Type 0 where
  pub at : piece.at < 2 ^ 26
  pub kind : IsOfKind piece.kind piece.text
  pub limit : length piece.text ≤ 2 ^ 26
