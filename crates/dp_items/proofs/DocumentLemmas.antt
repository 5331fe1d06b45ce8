-- What a document holds is what its text means.
use Rattle.std.proofs.Common.{◌≡◌, ◌≢◌, ℕ, zero, suc, ◌<◌, ◌≤◌, ◌^◌, Bool, true, false, cond, List, [], ◌∷◌, length}
use Rattle.std.proofs.Common.{get_or, take, map, Some, refl, sym, ap, subst, ◌∙◌, arith}
use Rattle.std.specs.Prelude.{slice_get, filter, All, option_map}
use Rattle.std.proofs.lemmas.List.{get_or_default}
use Rattle.std.proofs.lemmas.Option.{slice_get-map, slice_get-get_or}
use Rattle.std.proofs.lemmas.List.Elements.{All-filter}
use Rattle.std.proofs.lemmas.List.Kept.{AllPairs-filter}
use Rattle.dp_lexer.specs.declared.Token.{Token}
use Rattle.dp_lexer.specs.TokenLaws.{AreTokensOf}
use Rattle.dp_meaning.specs.declared.why.Why.TheVariants.{Expected}
use Rattle.dp_meaning.specs.Faults.{fault}
use Rattle.dp_meaning.specs.Items.{Piece, Item, piece_of, first_at, items_of, items_of_pieces}
use Rattle.dp_meaning.specs.Meaning.{unless_lines}
use Rattle.dp_items.specs.declared.line.LineRange.{LineRange}
use Rattle.dp_items.specs.declared.item_range.ItemRange.{ItemRange}
use Rattle.dp_items.specs.declared.item_range.ItemRanges.{ItemRanges}
use Rattle.dp_items.specs.Tokens.{IsPieceOf, ArePiecesOf, pieces_of_text}
use Rattle.dp_items.specs.Lines.{is_no_line_end, kept_pieces, line_of, item_of, AreOneRun, AreLinesOf}
use Rattle.dp_items.specs.ItemRanges.{no_line, more_of, item_in, IsItemRange, AreItemsOf}
use Rattle.dp_items.specs.Documents.{with_end, items_of_text, IsDocument}
use Rattle.dp_items.proofs.PieceLemmas.{pieces_of_tokens}

abbrev pub kept_tokens : List Token → List Token
kept_tokens tokens = filter (λ t. is_no_line_end t.kind) tokens

pub kept_are_pieces : (bytes : List ℕ) (tokens : List Token) → ArePiecesOf bytes tokens
    → ArePiecesOf bytes (kept_tokens tokens)
kept_are_pieces bytes tokens are = record {
  each = All-filter (λ t. is_no_line_end t.kind) (IsPieceOf bytes) tokens are.each;
  in_order = AllPairs-filter (λ a b. a.end ≤ b.start) (λ t. is_no_line_end t.kind) tokens are.in_order;
  limit = are.limit;
}

-- the pieces of the tokens that are kept are the pieces that are kept
pub pieces_of_kept : (bytes : List ℕ) (tokens : List Token)
    → pieces_of_text bytes (kept_tokens tokens) ≡ kept_pieces (pieces_of_text bytes tokens)
pieces_of_kept bytes [] = refl
pieces_of_kept bytes (t ∷ ts) = chosen (is_no_line_end t.kind)
    ∙ ap (λ (l : List Piece). cond (is_no_line_end t.kind) (piece_of bytes t ∷ l) l) (pieces_of_kept bytes ts)
  where
    chosen : (b : Bool) → pieces_of_text bytes (cond b (t ∷ kept_tokens ts) (kept_tokens ts))
        ≡ cond b (piece_of bytes t ∷ pieces_of_text bytes (kept_tokens ts)) (pieces_of_text bytes (kept_tokens ts))
    chosen true = refl
    chosen false = refl

module _ (bytes : List ℕ) (tokens : List Token) (lines : List LineRange) where
  pub lines_are_one_run : AreLinesOf (length bytes) (pieces_of_text bytes tokens) lines
      → AreOneRun 0 lines (length (pieces_of_text bytes (kept_tokens tokens)))
  lines_are_one_run are = subst (λ (l : List Piece). AreOneRun 0 lines (length l))
      (sym (pieces_of_kept bytes tokens)) are.one_run

  module _ (items : ItemRanges) (lines_are : AreLinesOf (length bytes) (pieces_of_text bytes tokens) lines)
      (items_are : AreItemsOf (length bytes) (pieces_of_text bytes (kept_tokens tokens)) lines items) where
    pub is_document : AreTokensOf bytes tokens → length bytes ≤ 2 ^ 26
        → IsDocument bytes (kept_tokens tokens) lines items (length bytes)
    is_document are h = record {
      pieces = kept_are_pieces bytes tokens (pieces_of_tokens bytes tokens h are);
      one_run = lines_are_one_run lines_are;
      before = items_are.before;
      each = items_are.each;
      limit = h;
    }

    pub means_items : items_of_text bytes (kept_tokens tokens) lines items (length bytes)
        ≡ with_end (length bytes) (items_of_pieces (length bytes) (map (piece_of bytes) tokens))
    means_items = ap (with_end (length bytes)) (sym items_are.items
        ∙ ap (λ (l : List Piece). items_of (length bytes) (map (line_of l) lines)) (pieces_of_kept bytes tokens)
        ∙ ap (items_of (length bytes)) lines_are.lines)

pub first_line_stands : (end : ℕ) (pieces : List Piece) (lines : List LineRange) (before : ℕ) (d : LineRange)
    → before ≢ 0 → before ≤ length lines
    → unless_lines end (map (line_of pieces) (take before lines))
    ≡ fault Expected (first_at end (line_of pieces (get_or lines 0 d)).pieces)
first_line_stands end pieces lines zero d some h = absurd (some refl)
first_line_stands end pieces [] (suc n) d some h = absurd (omega arith)
first_line_stands end pieces (line ∷ lines) (suc n) d some h = refl

-- the item at a place, put together from its stretch
pub item_there : (pieces : List Piece) (lines : List LineRange) (items : List ItemRange) (place : ℕ)
    (range : ItemRange)
    (first : LineRange) (item : Item)
    → place < length items → All (IsItemRange pieces lines) items
    → range ≡ get_or items place range → first ≡ get_or lines range.line first
    → item ≡ item_of pieces first (more_of lines range) range.next
    → slice_get (map (item_in pieces lines) items) place ≡ Some item
item_there pieces lines items place range first item inside each range_is first_is item_is =
    let is : IsItemRange pieces lines range = subst (IsItemRange pieces lines) (sym range_is)
    (each place range inside) in
    let in_order = is.in_order in
    let within = is.within in
    let line : get_or lines range.line no_line ≡ first =
    get_or_default lines range.line no_line first (omega arith) ∙ sym first_is in
    slice_get-map (item_in pieces lines) items place
    ∙ ap (option_map (item_in pieces lines)) (slice_get-get_or items place range inside)
    ∙ ap (λ (s : ItemRange). Some (item_in pieces lines s)) (sym range_is)
    ∙ ap (λ (l : LineRange). Some (item_of pieces l (more_of lines range) range.next)) line
    ∙ ap Some (sym item_is)
