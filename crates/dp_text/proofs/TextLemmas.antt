-- The text of a file from its tokens.
use Rattle.std.proofs.Common.{◌≡◌, ℕ, List, length, map, Result, Ok, refl, ap, ◌∙◌}
use Rattle.dp_lexer.specs.declared.Token.{Token}
use Rattle.dp_lexer.specs.TokenLaws.{AreTokensOf}
use Rattle.dp_lexer.specs.Tokens.{tokens_of}
use Rattle.dp_lexer.proofs.WholeText.{tokens_are_of_text}
use Rattle.dp_meaning.specs.declared.why.Fault.{Fault}
use Rattle.dp_meaning.specs.declared.text.Text.{Text}
use Rattle.dp_meaning.specs.Faults.{◌>>=◌}
use Rattle.dp_meaning.specs.Items.{Piece, piece_of, items_of_pieces}
use Rattle.dp_meaning.specs.Header.{header_of, no_entries}
use Rattle.dp_meaning.specs.Statements.{statements_of}
use Rattle.dp_meaning.specs.Meaning.{pieces_of_tokens, unless_lines, text_of}
use Rattle.dp_items.specs.Documents.{with_end}
use Rattle.dp_text.specs.TextSteps.{text_of_items}

-- the steps of reading a text of these pieces
abbrev steps : List ℕ → Result (List Piece) Fault → Result Text Fault
steps bytes read = do
  pieces ← read
  let items = items_of_pieces (length bytes) pieces
  _ ← unless_lines (length bytes) items.before
  header ← header_of (length bytes) no_entries items.items
  statements ← statements_of header.0 header.1
  Ok (record { header = header.0; statements = statements })

by_steps : (bytes : List ℕ) → text_of bytes ≡ steps bytes (pieces_of_tokens bytes (tokens_of bytes))
unfolding text_of
by_steps bytes = refl

-- a text with these tokens
pub by_items : (bytes : List ℕ) (tokens : List Token) → AreTokensOf bytes tokens
    → text_of bytes
    ≡ text_of_items (with_end (length bytes) (items_of_pieces (length bytes) (map (piece_of bytes) tokens)))
unfolding text_of_items
by_items bytes tokens are =
    by_steps bytes ∙ ap (λ (r : Result (List Token) ℕ). steps bytes (pieces_of_tokens bytes r))
    ((tokens_are_of_text bytes tokens).1 are)
