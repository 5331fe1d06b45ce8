-- What the tokens of a text are, in words that do not follow the text from byte to byte.
use Rattle.std.specs.Prelude.{◌≡◌, ℕ, ◌-◌, ◌<◌, ◌≤◌, ◌↔◌, true, false, List, [], ◌∷◌, length, Ok, All, AllPairs}
use Rattle.std.specs.Prelude.{slice_index}
use Rattle.std.specs.List.{list_all, flat_map, range_with_len, slice_range}
use Rattle.std.specs.Result.{result_err}
use Rattle.dp_base.specs.Bytes.{is_name_byte}
use Rattle.dp_base.specs.DecimalShape.{is_decimal}
use Rattle.dp_base.specs.Names.{is_word}
use Rattle.dp_lexer.specs.declared.Kind.{Kind}
use Rattle.dp_lexer.specs.declared.Kind.TheVariants.{Word, Number, Colon, Star, LineEnd}
use Rattle.dp_lexer.specs.declared.Token.{Token}
use Rattle.dp_lexer.specs.Bytes.{line_feed, colon, star, line_at}
use Rattle.dp_lexer.specs.Comments.{kept_offsets, without_blanks_and_comments, first_bad}
use Rattle.dp_lexer.specs.Tokens.{tokens_of}

-- the bytes of a token
abbrev pub slice_of : List ℕ → Token → List ℕ
slice_of text token = slice_range text token.start token.end

-- the offsets at which the bytes of a token stand
abbrev pub offsets_of : Token → List ℕ
offsets_of token = range_with_len token.start (token.end - token.start)

-- what the bytes of a token of each kind are
abbrev pub IsOfKind : Kind → List ℕ → Type 0
IsOfKind Word bytes = is_word bytes ≡ true
IsOfKind Number bytes = (list_all is_name_byte bytes ≡ true) × (is_decimal bytes ≡ true)
IsOfKind Colon bytes = bytes ≡ colon ∷ []
IsOfKind Star bytes = bytes ≡ star ∷ []
IsOfKind LineEnd bytes = bytes ≡ line_feed ∷ []

-- a word or a number does not go on in the byte that follows it, which at the end of the text is 0
abbrev pub IsLongest : Kind → ℕ → Type 0
IsLongest Word next = is_name_byte next ≡ false
IsLongest Number next = is_name_byte next ≡ false
IsLongest _ next = Unit {0}

-- one slice of the text, on this line, that is all of a word or a number, or a mark
pub record IsTokenOf (text : List ℕ) (token : Token) : Type 0 where
  pub some : token.start < token.end
  pub within : token.end ≤ length text
  pub line : token.line ≡ line_at text token.start
  pub kind : IsOfKind token.kind (slice_of text token)
  pub longest : IsLongest token.kind (slice_index text token.end)

-- Each is a token of the text, each ends before the later ones begin, and together they are the text without
-- blanks and comments: their bytes are its bytes, and they stand where it stands.
pub record AreTokensOf (text : List ℕ) (tokens : List Token) : Type 0 where
  pub each : All (IsTokenOf text) tokens
  pub in_order : AllPairs (λ a b. a.end ≤ b.start) tokens
  pub together : flat_map (slice_of text) tokens ≡ without_blanks_and_comments text
  pub in_place : flat_map offsets_of tokens ≡ kept_offsets text

-- This describes the tokens of a text: they are so, and no other list is.
abbrev pub TokensAreOfText : Type 0
TokensAreOfText =
    (text : List ℕ) (tokens : List Token) → (tokens_of text ≡ Ok tokens) ↔ AreTokensOf text tokens

-- A text has no tokens exactly where a byte outside comments is not in the alphabet, and the first of these is
-- named.
abbrev pub FirstBadByteIsNamed : Type 0
FirstBadByteIsNamed = (text : List ℕ) → result_err (tokens_of text) ≡ first_bad text
