-- The tokens of a text.
use Rattle.std.specs.Prelude.{◌≡◌, ℕ, zero, suc, ◌+◌, ◌==◌, if◌then◌else◌, List, [], ◌∷◌, take, Option, Some, None}
use Rattle.std.specs.Prelude.{Result, Ok, Err}
use Rattle.std.specs.List.{prefix_len}
use Rattle.dp_base.specs.Bytes.{is_name_byte}
use Rattle.dp_base.specs.DecimalShape.{is_decimal}
use Rattle.dp_lexer.specs.declared.Kind.{Kind}
use Rattle.dp_lexer.specs.declared.Kind.TheVariants.{Word, Number, Colon, Star, LineEnd}
use Rattle.dp_lexer.specs.declared.Token.{Token}
use Rattle.dp_lexer.specs.declared.LexFault.{LexFault}
use Rattle.dp_lexer.specs.declared.LexFault.TheVariants.{BadByte, Memory}
use Rattle.dp_lexer.specs.declared.lexemes.Class.{Class}
use Rattle.dp_lexer.specs.declared.lexemes.Class.TheVariants.{Blank, Comment, Run, LineFeed, Mark, Bad}
use Rattle.dp_lexer.specs.Comments.{first_bad}
use Rattle.dp_lexer.specs.Bytes.{is_blank, is_line_feed, is_no_line_feed, hash, colon, star, line_at, column_at}

-- what begins at a byte that stands in no comment and in no run
abbrev pub class_of : ℕ → Class
class_of b =
    if is_name_byte b then Run
    else if is_blank b then Blank
    else if is_line_feed b then LineFeed
    else if b == hash then Comment
    else if b == colon then Mark Colon
    else if b == star then Mark Star
    else Bad

-- How many of the bytes that follow belong to what begins at a byte of this class: a run is the longest, and a
-- comment goes up to the next line feed.
abbrev pub more_of : Class → List ℕ → ℕ
more_of Run rest = prefix_len is_name_byte rest
more_of Comment rest = prefix_len is_no_line_feed rest
more_of _ rest = 0

-- which token such a text is, if it is one
abbrev pub kind_of : Class → List ℕ → Option Kind
kind_of Run text = Some (if is_decimal text then Number else Word)
kind_of LineFeed text = Some LineEnd
kind_of (Mark kind) text = Some kind
kind_of _ text = None

-- the token of this kind that begins here and has so many bytes, where there is one, and then the other tokens
abbrev pub with_token : List ℕ → ℕ → ℕ → Option Kind → Result (List Token) ℕ → Result (List Token) ℕ
with_token text at len (Some kind) (Ok others) =
    Ok (record { start = at; end = at + len; line = line_at text at; kind = kind } ∷ others)
with_token text at len None (Ok others) = Ok others
with_token text at len kind (Err bad) = Err bad

-- a bad byte comes before whatever follows it
abbrev pub unless_bad : Class → ℕ → Result (List Token) ℕ → Result (List Token) ℕ
unless_bad Bad at others = Err at
unless_bad _ at others = others

-- The tokens of the rest of a text from an offset on, or the offset of its first bad byte. The first `more` bytes
-- of the rest belong to what began before them.
unfoldable pub tokens_from : List ℕ → ℕ → ℕ → List ℕ → Result (List Token) ℕ
tokens_from text more at [] = Ok []
tokens_from text (suc more) at (b ∷ rest) = tokens_from text more (at + 1) rest
tokens_from text zero at (b ∷ rest) =
    let class = class_of b in
    let more = more_of class rest in
    let kind = kind_of class (take (suc more) (b ∷ rest)) in
    unless_bad class at (with_token text at (suc more) kind (tokens_from text more (at + 1) rest))

-- the tokens of a text, or the offset of its first bad byte
unfoldable pub tokens_of : List ℕ → Result (List Token) ℕ
tokens_of text = tokens_from text 0 0 text

-- the fault is want of memory, or it names the first bad byte by its line and column
abbrev pub NamesFirstBadByte : List ℕ → LexFault → Type 0
NamesFirstBadByte text (BadByte line column) =
    (at : ℕ) × (tokens_of text ≡ Err at) × (first_bad text ≡ Some at)
    × (line ≡ line_at text at) × (column ≡ column_at text at)
NamesFirstBadByte text Memory = Unit {0}
