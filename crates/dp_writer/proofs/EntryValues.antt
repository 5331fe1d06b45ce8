-- The values of the header's entries, read from items by their symbols.
use Rattle.std.proofs.Common.{◌≡◌, ℕ, zero, suc, ◌+◌, ◌<◌, Bool, true, false, cond, pos, List, [], ◌∷◌, ◌++◌}
use Rattle.std.proofs.Common.{length, map, drop, refl, sym, ap, ◌∙◌, arith}
use Rattle.std.specs.Prelude.{codes, not, ◌&&◌, ◌||◌, ◌==◌, if◌then◌else◌}
use Rattle.std.specs.List.{flat_map, range_with_len}
use Rattle.std.specs.Str.{bytes_eq}
use Rattle.std.proofs.lemmas.Bool.{eq-eqb, ne_eqb}
use Rattle.std.proofs.lemmas.List.{append-nil}
use Rattle.dp_base.specs.declared.decimal.Decimal.{Decimal}
use Rattle.dp_base.specs.DecimalShape.{is_decimal}
use Rattle.dp_base.specs.Names.{is_name, is_word}
use Rattle.dp_meaning.specs.declared.given_list.GivenList.{GivenList}
use Rattle.dp_meaning.specs.declared.header.Start.TheVariants.{AnyState, StartRow}
use Rattle.dp_meaning.specs.declared.why.Why.TheVariants.{Expected}
use Rattle.dp_meaning.specs.Faults.{fault}
use Rattle.dp_meaning.specs.Items.{Piece, Line, Item, after_colon, pieces_of, value_pieces}
use Rattle.dp_meaning.specs.Numbers.{ended, is_chance, number, numbers}
use Rattle.dp_meaning.specs.NameLists.{name_list, name_lists, size_of}
use Rattle.dp_meaning.specs.Entries.{discount_of, is_cost, start_of}
use Rattle.dp_meaning.specs.Entries.{agent_lines as entry_lines}
use Rattle.dp_meaning.proofs.Each.{Each}
use Rattle.dp_meaning.proofs.FaultSteps.{done}
use Rattle.dp_writer.specs.WrittenLines.{Words}
use Rattle.dp_writer.specs.WrittenModel.{are_equal, chance_word, list_words, row_words}
use Rattle.dp_writer.specs.WrittenNumbers.{decimal_over}
use Rattle.dp_writer.specs.WrittenText.{chance_decimals, given_list}
use Rattle.dp_writer.proofs.ReadPieces.{IsNumberOf, IsWrittenList, list_read, number_read, numbers_read, other_bytes}
use Rattle.dp_writer.proofs.ReadPieces.{step_done, text_is}
use Rattle.dp_writer.proofs.Symbols.{run_symbol, symbol_of}
use Rattle.dp_writer.proofs.SymbolItems.{SymbolItem, after_colon_symbols, item_symbols, line_symbols, none_mapped}
use Rattle.dp_writer.proofs.SymbolItems.{value_symbols}
use Rattle.dp_writer.proofs.WrittenFacts.{IsWrittenRow}
use Rattle.dp_writer.proofs.WrittenItems.{word_item}

-- ---- the pieces of a value

-- a value on the entry's own line
pub own_value : (item : Item) (word : List ℕ) (words : Words) → item_symbols item ≡ word_item word words []
    → map symbol_of (value_pieces item) ≡ map run_symbol words
own_value item word words e =
    value_symbols item ∙ ap (λ (i : SymbolItem). drop 2 i.first ++ flat_map (λ l. l) i.more) e
    ∙ append-nil (map run_symbol words)

-- a value on the next line
pub next_value : (item : Item) (word : List ℕ) (words : Words) → item_symbols item ≡ word_item word [] (words ∷ [])
    → map symbol_of (value_pieces item) ≡ map run_symbol words
next_value item word words e =
    value_symbols item ∙ ap (λ (i : SymbolItem). drop 2 i.first ++ flat_map (λ l. l) i.more) e
    ∙ append-nil (map run_symbol words)

line_pieces : (lines : List Line) → map (map symbol_of) (map pieces_of lines) ≡ map line_symbols lines
line_pieces [] = refl
line_pieces (line ∷ lines) = ap (λ l. line_symbols line ∷ l) (line_pieces lines)

-- the lines below an entry
pub below_value : (item : Item) (word : List ℕ) (lines : List Words) → item_symbols item ≡ word_item word [] lines
    → map (map symbol_of) (entry_lines item) ≡ map (map run_symbol) lines
below_value item word lines e =
    let none : after_colon item ≡ [] = none_mapped symbol_of (after_colon item)
    (after_colon_symbols item ∙ ap (λ (i : SymbolItem). drop 2 i.first) e) in
    rw none (line_pieces item.more ∙ ap (λ (i : SymbolItem). i.more) e)

-- ---- values

-- the discount
pub discount_read : (next : ℕ) (pieces : List Piece) (text : List ℕ) (d : Decimal)
    → map symbol_of pieces ≡ run_symbol text ∷ [] → IsNumberOf is_chance text d → discount_of next pieces ≡ done d
discount_read next [] text d e is = absurd cc
discount_read next (piece ∷ []) text d e is =
    let same : symbol_of piece ≡ run_symbol text = cc in
    step_done (number is_chance piece) (λ n. ended n []) d
    (number_read is_chance piece text d (text_is piece text same) is)
discount_read next (piece ∷ more ∷ pieces) text d e is = absurd cc

-- what is read are rewards
pub rewards_read : (next : ℕ) (pieces : List Piece) → map symbol_of pieces ≡ run_symbol (codes "reward") ∷ []
    → is_cost next pieces ≡ done false
rewards_read next [] e = absurd cc
rewards_read next (piece ∷ []) e =
    let same : symbol_of piece ≡ run_symbol (codes "reward") = cc in
    ap (λ t. cond (bytes_eq (codes "reward") t) (ended false [])
    (cond (bytes_eq (codes "cost") t) (ended true []) (fault Expected piece.at))) (text_is piece (codes "reward") same)
rewards_read next (piece ∷ more ∷ pieces) e = absurd cc

-- the lists of the agents
pub lists_read : (names : ℕ → List (List ℕ)) (counts : ℕ → ℕ) (next a n : ℕ) (lines : List (List Piece))
    → ((i : ℕ) → i < a + n → IsWrittenList (names i) (counts i))
    → map (map symbol_of) lines
    ≡ map (map run_symbol) (map (λ i. list_words (names i) (counts i)) (range_with_len a n))
    → name_lists next n lines ≡ done (map (λ i. given_list (names i) (counts i)) (range_with_len a n))
unfolding name_lists
lists_read names counts next a zero [] each e = refl
lists_read names counts next a zero (line ∷ lines) each e = absurd cc
lists_read names counts next a (suc n) [] each e = absurd cc
lists_read names counts next a (suc n) (line ∷ lines) each e =
    let here : map symbol_of line ≡ map run_symbol (list_words (names a) (counts a)) = cc in
    let others : map (map symbol_of) lines
    ≡ map (map run_symbol) (map (λ i. list_words (names i) (counts i)) (range_with_len (a + 1) n)) = cc in
    step_done (name_list next line) _ (given_list (names a) (counts a))
    (list_read (names a) (counts a) next line (each a (omega arith)) here)
    ∙ step_done (name_lists next n lines) _ (map (λ i. given_list (names i) (counts i)) (range_with_len (a + 1) n))
    (lists_read names counts next (a + 1) n lines (λ i below. each i (omega (arith, below))) others)

-- ---- the start

-- a number is no word
pub number_no_name : (text : List ℕ) → is_decimal text ≡ true → is_name text ≡ false
unfolding is_name is_word
number_no_name text shape = rw shape (by (bytes_eq text (codes "uniform") || bytes_eq text (codes "identity")) _)
  where
    by : (b c : Bool) → ((c && false) && not b) ≡ false
    by b true = refl
    by b false = refl

-- a number does not say a word
pub number_says : (word text : List ℕ) → is_decimal word ≡ false → is_decimal text ≡ true → bytes_eq word text ≡ false
number_says word text other shape = other_bytes word text (λ same. clash (sym other ∙ ap is_decimal same ∙ shape))
  where
    clash : false ≡ true → ⊥
    clash e = cc

pub uniform_no_number : is_decimal (codes "uniform") ≡ false
unfolding is_decimal
uniform_no_number = refl

pub identity_no_number : is_decimal (codes "identity") ≡ false
unfolding is_decimal
identity_no_number = refl

-- a row of one cell is a row of equal cells
one_cell : (n : ℕ) → are_equal (n ∷ []) ≡ true
one_cell n = rw (eq-eqb n n refl) refl

-- a row that is written in decimals
row_read : (states : GivenList) (next scale : ℕ) (cells : List ℕ) (pieces : List Piece) → are_equal cells ≡ false
    → Each (λ n. IsNumberOf is_chance (chance_word scale n) (decimal_over 18 (pos n) scale)) cells
    → size_of states ≡ length cells → 0 < length cells
    → map symbol_of pieces ≡ map run_symbol (map (chance_word scale) cells)
    → (at : ℕ) × (start_of states next pieces ≡ done (StartRow at (chance_decimals scale cells)))
unfolding start_of
row_read states next scale [] pieces differ each size some e = absurd (omega (arith, some))
row_read states next scale (n ∷ []) pieces differ each size some e = absurd (let one = one_cell n in cc)
row_read states next scale (n ∷ m ∷ cells) [] differ each size some e = absurd cc
row_read states next scale (n ∷ m ∷ cells) (piece ∷ []) differ each size some e = absurd cc
row_read states next scale (n ∷ m ∷ cells) (piece ∷ second ∷ pieces) differ each size some e =
    let same : symbol_of piece ≡ run_symbol (chance_word scale n) = cc in
    let text = text_is piece (chance_word scale n) same in
    let shape : is_decimal piece.text ≡ true = ap is_decimal text ∙ each.0.shape in
    let no_uniform = number_says (codes "uniform") piece.text uniform_no_number shape in
    let no_name = number_no_name piece.text shape in
    let more : (length (second ∷ pieces) == 0) ≡ false =
    ne_eqb (length (second ∷ pieces)) 0 (λ z. absurd (omega (arith, z))) in (
      piece.at,
      rw (no_uniform, no_name, more)
          (step_done (numbers is_chance next (size_of states) (piece ∷ second ∷ pieces))
          (λ row. done (StartRow piece.at row))
          (chance_decimals scale (n ∷ m ∷ cells))
          (numbers_read is_chance next (size_of states) (chance_word scale) (λ c. decimal_over 18 (pos c) scale)
          (n ∷ m ∷ cells)
          (piece ∷ second ∷ pieces) size each e)),
    )

-- the start
pub start_read : (states : GivenList) (next scale : ℕ) (cells : List ℕ) (pieces : List Piece) →
    IsWrittenRow scale cells
    → size_of states ≡ length cells → map symbol_of pieces ≡ map run_symbol (row_words scale cells)
    → (at : ℕ) × (start_of states next pieces
    ≡ done (if are_equal cells then AnyState else StartRow at (chance_decimals scale cells)))
unfolding start_of row_words
start_read states next scale cells pieces is size e = by (are_equal cells) refl pieces e
  where
    by : (b : Bool) → are_equal cells ≡ b → (pieces : List Piece)
        → map symbol_of pieces ≡ map run_symbol (cond b (codes "uniform" ∷ []) (map (chance_word scale) cells))
        → (at : ℕ) × (start_of states next pieces
        ≡ done (cond b AnyState (StartRow at (chance_decimals scale cells))))
    by true t [] f = absurd cc
    by true t (piece ∷ []) f =
        let same : symbol_of piece ≡ run_symbol (codes "uniform") = cc in
        let says_it : bytes_eq (codes "uniform") piece.text ≡ true
        = ap (bytes_eq (codes "uniform")) (text_is piece (codes "uniform") same) in
        (0, rw says_it refl)
    by true t (piece ∷ more ∷ pieces) f = absurd cc
    by false t pieces f = row_read states next scale cells pieces t (is.numbers t) size is.some f
