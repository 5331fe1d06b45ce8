-- The lines and the items of a text, by their symbols.
use Rattle.std.proofs.Common.{◌≡◌, ℕ, zero, suc, Bool, true, false, cond, List, [], ◌∷◌, ◌++◌, length, map}
use Rattle.std.proofs.Common.{Ok, refl, ap, ◌∙◌, append_assoc, subst, drop}
use Rattle.std.specs.Prelude.{filter, nat_lt}
use Rattle.std.specs.List.{flat_map}
use Rattle.std.proofs.lemmas.Bool.{lt-ltb}
use Rattle.dp_lexer.specs.declared.Kind.{Kind}
use Rattle.dp_lexer.specs.declared.Kind.TheVariants.{Word, Number, Colon, Star, LineEnd}
use Rattle.dp_lexer.specs.Tokens.{tokens_of}
use Rattle.dp_meaning.specs.Items.{Piece, piece_of, is_colon, Line, pieces_of, with_piece, lines_of, has_pieces}
use Rattle.dp_meaning.specs.Items.{Item, Items, begins_item, items_of, items_of_pieces, after_colon}
use Rattle.dp_meaning.specs.Items.{value_pieces}
use Rattle.dp_meaning.specs.Meaning.{pieces_of_tokens}
use Rattle.dp_meaning.proofs.Each.{Each}
use Rattle.dp_writer.specs.WrittenLines.{Words, lines_text}
use Rattle.dp_writer.proofs.Symbols.{Symbol, symbol_of, line_end_symbol}
use Rattle.dp_writer.proofs.SpelledLines.{is_line_end, IsWithinLine, IsTextLine, ended, AreLinesOf, text_lines}
use Rattle.dp_writer.proofs.SpelledLines.{lines_read}

-- ---- lines

-- the symbols of a line
abbrev pub line_symbols : Line → List Symbol
line_symbols line = map symbol_of line.pieces

-- one more symbol in front of lines
abbrev with_front : Bool → Symbol → List (List Symbol) → List (List Symbol)
with_front true symbol lines = [] ∷ lines
with_front false symbol [] = []
with_front false symbol (line ∷ lines) = (symbol ∷ line) ∷ lines

-- the lines of symbols
abbrev symbol_lines : List Symbol → List (List Symbol)
symbol_lines [] = [] ∷ []
symbol_lines (symbol ∷ symbols) = with_front (is_line_end symbol.kind) symbol (symbol_lines symbols)

front_symbols : (kind : Kind) (piece : Piece) (lines : List Line)
    → map line_symbols (with_piece kind piece lines)
    ≡ with_front (is_line_end kind) (symbol_of piece) (map line_symbols lines)
front_symbols LineEnd piece lines = refl
front_symbols Word piece [] = refl
front_symbols Word piece (line ∷ lines) = refl
front_symbols Number piece [] = refl
front_symbols Number piece (line ∷ lines) = refl
front_symbols Colon piece [] = refl
front_symbols Colon piece (line ∷ lines) = refl
front_symbols Star piece [] = refl
front_symbols Star piece (line ∷ lines) = refl

-- the lines of pieces have the lines of their symbols
lines_symbols : (end : ℕ) (pieces : List Piece)
    → map line_symbols (lines_of end pieces) ≡ symbol_lines (map symbol_of pieces)
unfolding lines_of
lines_symbols end [] = refl
lines_symbols end (piece ∷ pieces) =
    front_symbols piece.kind piece (lines_of end pieces)
    ∙ ap (with_front (is_line_end piece.kind) (symbol_of piece)) (lines_symbols end pieces)

-- a line stands in front
line_front : (line rest : List Symbol) → Each IsWithinLine line
    → symbol_lines (line ++ line_end_symbol ∷ rest) ≡ line ∷ symbol_lines rest
line_front [] rest within = refl
line_front (symbol ∷ line) rest within =
    ap (λ b. with_front b symbol (symbol_lines (line ++ line_end_symbol ∷ rest))) within.0
    ∙ ap (with_front false symbol) (line_front line rest within.1)

-- the symbols of lines have these lines, and behind the last line end an empty one
ended_lines : (lines : List (List Symbol)) → Each IsTextLine lines → symbol_lines (ended lines) ≡ lines ++ [] ∷ []
ended_lines [] are = refl
ended_lines (line ∷ lines) are =
    ap symbol_lines (append_assoc line (line_end_symbol ∷ []) (ended lines))
    ∙ line_front line (ended lines) are.0.within
    ∙ ap (λ l. line ∷ l) (ended_lines lines are.1)

-- lines without symbols are dropped
abbrev some_symbols : List Symbol → Bool
some_symbols line = nat_lt 0 (length line)

filtered : (lines : List Line)
    → map line_symbols (filter has_pieces lines) ≡ filter some_symbols (map line_symbols lines)
filtered [] = refl
filtered (line ∷ lines) =
    by (has_pieces line) (filtered lines)
    ∙ ap (λ b. cond b (line_symbols line ∷ filter some_symbols (map line_symbols lines))
    (filter some_symbols (map line_symbols lines))) (ap (nat_lt 0) (length_symbols line.pieces))
  where
    length_symbols : (pieces : List Piece) → length pieces ≡ length (map symbol_of pieces)
    length_symbols [] = refl
    length_symbols (piece ∷ pieces) = ap suc (length_symbols pieces)

    by : (b : Bool) → map line_symbols (filter has_pieces lines) ≡ filter some_symbols (map line_symbols lines)
        → map line_symbols (cond b (line ∷ filter has_pieces lines) (filter has_pieces lines))
        ≡ cond b (line_symbols line ∷ filter some_symbols (map line_symbols lines))
        (filter some_symbols (map line_symbols lines))
    by true more = ap (λ l. line_symbols line ∷ l) more
    by false more = more

kept_lines : (lines : List (List Symbol)) → Each IsTextLine lines → filter some_symbols (lines ++ [] ∷ []) ≡ lines
kept_lines [] are = refl
kept_lines (line ∷ lines) are =
    rw (lt-ltb 0 (length line) are.0.some) (ap (λ l. line ∷ l) (kept_lines lines are.1))

-- the lines of a text that are not empty
pub text_lines_are : (end : ℕ) (pieces : List Piece) (lines : List (List Symbol)) → Each IsTextLine lines
    → map symbol_of pieces ≡ ended lines
    → map line_symbols (filter has_pieces (lines_of end pieces)) ≡ lines
text_lines_are end pieces lines are e =
    filtered (lines_of end pieces)
    ∙ ap (filter some_symbols) (lines_symbols end pieces ∙ ap symbol_lines e ∙ ended_lines lines are)
    ∙ kept_lines lines are

-- ---- items

-- an item by its lines
pub record SymbolItem : Type 0 where
  pub first : List Symbol
  pub more : List (List Symbol)

-- the symbols of an item
abbrev pub item_symbols : Item → SymbolItem
item_symbols item = record { first = line_symbols item.first; more = map line_symbols item.more }

-- the lines of an item
abbrev pub item_lines : SymbolItem → List (List Symbol)
item_lines item = item.first ∷ item.more

-- a line begins an item where its second symbol is a Colon
abbrev pub begins : List Symbol → Bool
begins (first ∷ second ∷ _) = is_colon second.kind
begins _ = false

-- the item's first line begins it, and its others begin none
pub record IsSymbolItem (item : SymbolItem) : Type 0 where
  pub first : begins item.first ≡ true
  pub more : Each (λ line. begins line ≡ false) item.more

begins_same : (pieces : List Piece) → begins_item pieces ≡ begins (map symbol_of pieces)
begins_same [] = refl
begins_same (first ∷ []) = refl
begins_same (first ∷ second ∷ pieces) = refl

-- lines before the first item and the items, by their symbols
record AreItems (items : Items) (before : List (List Symbol)) (its : List SymbolItem) : Type 0 where
  before_are : map line_symbols items.before ≡ before
  items_are : map item_symbols items.items ≡ its

line_before : (end : ℕ) (line : Line) (lines : List Line) (before : List (List Symbol)) (its : List SymbolItem)
    → begins (line_symbols line) ≡ false → AreItems (items_of end lines) before its
    → AreItems (items_of end (line ∷ lines)) (line_symbols line ∷ before) its
unfolding items_of
line_before end line lines before its none are =
    rw (begins_same line.pieces, none) (record {
      before_are = ap (λ l. line_symbols line ∷ l) are.before_are;
      items_are = are.items_are;
    })

line_begins : (end : ℕ) (line : Line) (lines : List Line) (before : List (List Symbol)) (its : List SymbolItem)
    → begins (line_symbols line) ≡ true → AreItems (items_of end lines) before its
    → AreItems (items_of end (line ∷ lines)) [] (record { first = line_symbols line; more = before } ∷ its)
unfolding items_of
line_begins end line lines before its begin are =
    rw (begins_same line.pieces, begin) (record {
      before_are = refl;
      items_are = λ i. record { first = line_symbols line; more = are.before_are i } ∷ are.items_are i;
    })

-- lines that begin no item, before others
lines_before : (end : ℕ) (lines : List Line) (more rest : List (List Symbol)) (its : List SymbolItem)
    → Each (λ line. begins line ≡ false) more → map line_symbols lines ≡ more ++ rest
    → ((others : List Line) → map line_symbols others ≡ rest → AreItems (items_of end others) [] its)
    → AreItems (items_of end lines) more its
lines_before end lines [] rest its none e then = then lines e
lines_before end [] (line ∷ more) rest its none e then = absurd cc
lines_before end (here ∷ lines) (line ∷ more) rest its none e then =
    let same : line_symbols here ≡ line = cc in
    let others : map line_symbols lines ≡ more ++ rest = cc in
    subst (λ l. AreItems (items_of end (here ∷ lines)) (l ∷ more) its) same
    (line_before end here lines more its (ap begins same ∙ none.0)
    (lines_before end lines more rest its none.1 others then))

-- the items of lines
items_are : (end : ℕ) (lines : List Line) (its : List SymbolItem) → Each IsSymbolItem its
    → map line_symbols lines ≡ flat_map item_lines its → AreItems (items_of end lines) [] its
unfolding items_of
items_are end [] [] each e = record { before_are = refl; items_are = refl }
items_are end (line ∷ lines) [] each e = absurd cc
items_are end [] (item ∷ its) each e = absurd cc
items_are end (line ∷ lines) (item ∷ its) each e =
    let same : line_symbols line ≡ item.first = cc in
    let others : map line_symbols lines ≡ item.more ++ flat_map item_lines its = cc in
    subst (λ l. AreItems (items_of end (line ∷ lines)) [] (record { first = l; more = item.more } ∷ its)) same
    (line_begins end line lines item.more its (ap begins same ∙ each.0.first)
    (lines_before end lines item.more (flat_map item_lines its) its each.0.more others
    (λ rest f. items_are end rest its each.1 f)))

-- ---- the items of a text

-- the items of these bytes have these symbols
pub record HasItems (bytes : List ℕ) (its : List SymbolItem) : Type 0 where
  pub pieces : List Piece
  pub lexed : pieces_of_tokens bytes (tokens_of bytes) ≡ Ok pieces
  pub before : (items_of_pieces (length bytes) pieces).before ≡ []
  pub items : map item_symbols (items_of_pieces (length bytes) pieces).items ≡ its

-- a list of which nothing is made is empty
pub none_mapped : {A B : Type 0} (f : A → B) (xs : List A) → map f xs ≡ [] → xs ≡ []
none_mapped f [] e = refl
none_mapped f (x ∷ xs) e = absurd cc

-- the items of lines that are written
pub items_read : (lines : List Words) (its : List SymbolItem) → AreLinesOf lines (flat_map item_lines its)
    → Each IsSymbolItem its → HasItems (lines_text lines) its
unfolding tokens_of
items_read lines its are each =
    let bytes = lines_text lines in
    let read = (lines_read lines (flat_map item_lines its) are).reads bytes 0 refl in
    let pieces = map (piece_of bytes) read.tokens in
    let kept = text_lines_are (length bytes) pieces (flat_map item_lines its)
    (text_lines lines (flat_map item_lines its) are) read.symbols_are in
    let items = items_are (length bytes) (filter has_pieces (lines_of (length bytes) pieces)) its each kept in
    record {
      pieces = pieces;
      lexed = ap (pieces_of_tokens bytes) read.lexed;
      before = none_mapped line_symbols (items_of_pieces (length bytes) pieces).before items.before_are;
      items = items.items_are;
    }

-- ---- parts of an item

map-drop : {A B : Type 0} (f : A → B) (n : ℕ) (xs : List A) → map f (drop n xs) ≡ drop n (map f xs)
map-drop f zero xs = refl
map-drop f (suc n) [] = refl
map-drop f (suc n) (x ∷ xs) = map-drop f n xs

map-append : {A B : Type 0} (f : A → B) (xs ys : List A) → map f (xs ++ ys) ≡ map f xs ++ map f ys
map-append f [] ys = refl
map-append f (x ∷ xs) ys = ap (λ l. f x ∷ l) (map-append f xs ys)

-- what stands after the first Colon on the first line
pub after_colon_symbols : (item : Item) → map symbol_of (after_colon item) ≡ drop 2 (item_symbols item).first
after_colon_symbols item = map-drop symbol_of 2 item.first.pieces

-- what stands on the other lines
pub more_symbols : (lines : List Line)
    → map symbol_of (flat_map pieces_of lines) ≡ flat_map (λ line. line) (map line_symbols lines)
more_symbols [] = refl
more_symbols (line ∷ lines) =
    map-append symbol_of line.pieces (flat_map pieces_of lines)
    ∙ ap (λ l. line_symbols line ++ l) (more_symbols lines)

-- the value of an entry
pub value_symbols : (item : Item)
    → map symbol_of (value_pieces item) ≡ drop 2 (item_symbols item).first
    ++ flat_map (λ line. line) (item_symbols item).more
value_symbols item =
    map-append symbol_of (after_colon item) (flat_map pieces_of item.more)
    ∙ (λ i. after_colon_symbols item i ++ more_symbols item.more i)
