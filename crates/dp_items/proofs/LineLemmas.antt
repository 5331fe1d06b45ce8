-- Cutting pieces into lines, one piece after the other.
use Rattle.std.proofs.Common.{◌≡◌, ℕ, ◌+◌, ◌-◌, ◌<◌, ◌≤◌, ◌^◌, Bool, true, false, cond, List, [], ◌∷◌, ◌++◌, length}
use Rattle.std.proofs.Common.{take, drop, map, Option, Some, None, refl, sym, ap, subst, ◌∙◌, append_assoc, arith}
use Rattle.std.specs.Prelude.{filter, nat_lt, slice_get, slice_range}
use Rattle.std.proofs.lemmas.List.{append-nil, length-drop, length-take, map-append, drop-drop}
use Rattle.std.proofs.lemmas.Bool.Decides.{nat_tests}
use Rattle.dp_lexer.specs.declared.Kind.{Kind}
use Rattle.dp_lexer.specs.declared.Kind.TheVariants.{Word, Number, Colon, Star, LineEnd}
use Rattle.dp_meaning.specs.Items.{Piece, Line, with_piece, lines_of, has_pieces}
use Rattle.dp_items.specs.declared.line.LineRange.{LineRange}
use Rattle.dp_items.specs.Lines.{is_no_line_end, kept_pieces, line_of, AreOneRun, unless_empty, AreLinesOf}
use Rattle.dp_items.proofs.Places.{drop_at, drop_none}
use Rattle.dp_items.proofs.ItemLemmas.{stretches, empty_stretch}

-- these pieces at the front of the first line
abbrev pub onto : List Piece → List Line → List Line
onto pieces [] = []
onto pieces (line ∷ lines) = record { pieces = pieces ++ line.pieces; ends = line.ends } ∷ lines

onto_none : (lines : List Line) → onto [] lines ≡ lines
onto_none [] = refl
onto_none (line ∷ lines) = refl

onto_more : (pieces : List Piece) (p : Piece) (lines : List Line)
    → onto pieces (onto (p ∷ []) lines) ≡ onto (pieces ++ p ∷ []) lines
onto_more pieces p [] = refl
onto_more pieces p (line ∷ lines) = ap (λ (l : List Piece). record { pieces = l; ends = line.ends } ∷ lines)
    (sym (append_assoc pieces (p ∷ []) line.pieces))

other_piece : (k : Kind) (p : Piece) (lines : List Line) → (k ≡ LineEnd → ⊥)
    → with_piece k p lines ≡ onto (p ∷ []) lines
other_piece LineEnd p lines other = absurd (other refl)
other_piece Word p [] other = refl
other_piece Word p (line ∷ lines) other = refl
other_piece Number p [] other = refl
other_piece Number p (line ∷ lines) other = refl
other_piece Colon p [] other = refl
other_piece Colon p (line ∷ lines) other = refl
other_piece Star p [] other = refl
other_piece Star p (line ∷ lines) other = refl

other_kept : (k : Kind) → (k ≡ LineEnd → ⊥) → is_no_line_end k ≡ true
other_kept LineEnd other = absurd (other refl)
other_kept Word other = refl
other_kept Number other = refl
other_kept Colon other = refl
other_kept Star other = refl

keeps : (p : Piece) (rest : List Piece) → (p.kind ≡ LineEnd → ⊥) → kept_pieces (p ∷ rest) ≡ p ∷ kept_pieces rest
keeps p rest other = ap (λ b. cond b (p ∷ kept_pieces rest) (kept_pieces rest)) (other_kept p.kind other)

drops : (p : Piece) (rest : List Piece) → p.kind ≡ LineEnd → kept_pieces (p ∷ rest) ≡ kept_pieces rest
drops p rest is = ap (λ k. cond (is_no_line_end k) (p ∷ kept_pieces rest) (kept_pieces rest)) is

one_stretch : (b : Bool) (from : ℕ) (range : LineRange) → nat_lt range.first range.past ≡ b → from ≡ range.first
    → range.first ≤ range.past
    → range.ends ≤ 2 ^ 26 → AreOneRun from (cond b (range ∷ []) []) range.past
one_stretch true from range test run h limit = (
  record {
    first = sym run;
    some = grind (arith, nat_tests);
    limit =
        limit;
  },
  refl,
)
one_stretch false from range test run h limit = grind (arith, nat_tests)

pub none_of : {X : Type 0} (found : Option X) → ((x : X) → found ≡ Some x → ⊥) → found ≡ None
none_of None other = refl
none_of (Some x) other = absurd (other x refl)

-- one more stretch, unless it is empty
run_push : (from : ℕ) (ranges : List LineRange) (range : LineRange) → AreOneRun from ranges range.first
    → range.first ≤ range.past → range.ends ≤ 2 ^ 26
    → AreOneRun from (ranges ++ unless_empty range) range.past
run_push from [] range run h limit = one_stretch (nat_lt range.first range.past) from range refl run h limit
run_push from (s ∷ ranges) range run h limit = (run.0, run_push s.past ranges range run.1 h limit)

module _ (end : ℕ) (pieces : List Piece) where
  abbrev kept : List Piece
  kept = kept_pieces pieces

  -- the lines so far, and the pieces of the next one
  pub record AreLinesSoFar (ranges : List LineRange) (first past at : ℕ) : Type 0 where
    pub in_order : first ≤ past
    pub behind : past ≤ at
    pub within : past ≤ length (kept_pieces pieces)
    pub left : drop past (kept_pieces pieces) ≡ kept_pieces (drop at pieces)
    pub one_run : AreOneRun 0 ranges first
    pub so_far : map (line_of (kept_pieces pieces)) ranges
        ++ filter has_pieces (onto (slice_range (kept_pieces pieces) first past) (lines_of end (drop at pieces)))
        ≡ filter has_pieces (lines_of end pieces)

  pub at_start : AreLinesSoFar [] 0 0 0
  at_start = record {
    in_order = omega arith;
    behind = omega arith;
    within = omega arith;
    left = refl;
    one_run = refl;
    so_far = ap (filter has_pieces) (onto_none (lines_of end pieces));
  }

  same_test : (first past len : ℕ) → len ≡ past - first → nat_lt 0 len ≡ nat_lt first past
  same_test first past len e = grind (arith, nat_tests)

  -- a line is dropped where its stretch is empty
  shown : (range : LineRange) (others : List Line) → range.past ≤ length kept
      → filter has_pieces (line_of kept range ∷ others)
      ≡ map (line_of kept) (unless_empty range) ++ filter has_pieces others
  shown range others h =
      let long : length (slice_range kept range.first range.past) ≡ range.past - range.first =
      omega (arith, length-take (range.past - range.first) (drop range.first kept), length-drop range.first kept) in
      ap (λ b. cond b (line_of kept range ∷ filter has_pieces others) (filter has_pieces others))
      (same_test range.first range.past _ long)
      ∙ chosen (nat_lt range.first range.past)
    where
      chosen : (b : Bool) → cond b (line_of kept range ∷ filter has_pieces others) (filter has_pieces others)
          ≡ map (line_of kept) (cond b (range ∷ []) []) ++ filter has_pieces others
      chosen true = refl
      chosen false = refl

  -- the lines so far with one that ends here
  closes : (ranges : List LineRange) (range : LineRange) (at : ℕ) (others : List Line)
      → AreLinesSoFar ranges range.first range.past at
      → lines_of end (drop at pieces) ≡ record { pieces = []; ends = range.ends } ∷ others
      → map (line_of kept) (ranges ++ unless_empty range) ++ filter has_pieces others
      ≡ filter has_pieces (lines_of end pieces)
  closes ranges range at others so_far is =
      let now : List Piece = slice_range kept range.first range.past in
      let first : onto (slice_range kept range.first range.past) (lines_of end (drop at pieces))
      ≡ line_of kept range ∷ others =
      ap (onto now) is ∙ ap (λ (l : List Piece). record { pieces = l; ends = range.ends } ∷ others)
      (append-nil now) in
      ap (λ (l : List Line). l ++ filter has_pieces others) (map-append (line_of kept) ranges (unless_empty range))
      ∙ append_assoc (map (line_of kept) ranges) (map (line_of kept) (unless_empty range)) (filter has_pieces others)
      ∙ ap (λ (l : List Line). map (line_of kept) ranges ++ l) (sym (shown range others so_far.within))
      ∙ ap (λ (l : List Line). map (line_of kept) ranges ++ filter has_pieces l) (sym first)
      ∙ so_far.so_far

  pub ends_line : (ranges : List LineRange) (range : LineRange) (at : ℕ) (p : Piece)
      → AreLinesSoFar ranges range.first range.past at
      → slice_get pieces at ≡ Some p → p.kind ≡ LineEnd → range.ends ≡ p.at → p.at < 2 ^ 26
      → AreLinesSoFar (ranges ++ unless_empty range) range.past range.past (at + 1)
  unfolding lines_of
  ends_line ranges range at p so_far here kind ends limit =
      let cut = drop_at pieces at p here in
      let others : List Line = lines_of end (drop (at + 1) pieces) in
      let line : lines_of end (drop at pieces) ≡ record {
        pieces = [];
        ends =
            range.ends;
      } ∷ lines_of end (drop (at + 1) pieces) =
      ap (lines_of end) cut ∙ ap (λ k. with_piece k p others) kind
      ∙ ap (λ e. record { pieces = []; ends = e } ∷ others) (sym ends) in
      record {
        in_order = omega arith;
        behind = (let behind = so_far.behind in omega arith);
        within = so_far.within;
        left = so_far.left ∙ ap kept_pieces cut ∙ drops p (drop (at + 1) pieces) kind;
        one_run = run_push 0 ranges range so_far.one_run so_far.in_order (omega arith);
        so_far = ap (λ (l : List Piece). map (line_of kept) (ranges ++ unless_empty range)
            ++ filter has_pieces (onto l others)) (empty_stretch kept range.past)
            ∙ ap (λ (l : List Line). map (line_of kept) (ranges ++ unless_empty range) ++ filter has_pieces l)
            (onto_none others)
            ∙ closes ranges range at others so_far line;
      }

  pub goes_on : (ranges : List LineRange) (first past at : ℕ) (p : Piece) → AreLinesSoFar ranges first past at
      → slice_get pieces at ≡ Some p → (p.kind ≡ LineEnd → ⊥) → AreLinesSoFar ranges first (past + 1) (at + 1)
  unfolding lines_of
  goes_on ranges first past at p so_far here other =
      let cut = drop_at pieces at p here in
      let others : List Line = lines_of end (drop (at + 1) pieces) in
      let in_order = so_far.in_order in
      let left : drop past kept ≡ p ∷ kept_pieces (drop (at + 1) pieces) =
      so_far.left ∙ ap kept_pieces cut ∙ keeps p (drop (at + 1) pieces) other in
      let one : (past + 1) - past ≡ 1 = omega arith in
      let last : slice_range kept past (past + 1) ≡ p ∷ [] =
      ap (λ k. take k (drop past kept)) one ∙ ap (take 1) left in
      let more : slice_range kept first (past + 1) ≡ slice_range kept first past ++ p ∷ [] =
      sym (stretches kept first past (past + 1) in_order (omega arith))
      ∙ ap (λ (l : List Piece). slice_range kept first past ++ l) last in
      let line : onto (slice_range kept first (past + 1)) others
      ≡ onto (slice_range kept first past) (lines_of end (drop at pieces)) =
      ap (λ (l : List Piece). onto l others) more ∙ sym (onto_more (slice_range kept first past) p others)
      ∙ ap (onto (slice_range kept first past)) (sym (ap (lines_of end) cut ∙ other_piece p.kind p others other)) in
      record {
        in_order = omega arith;
        behind = (let behind = so_far.behind in omega arith);
        within = (let size = ap length left in omega (arith, length-drop past kept));
        left = sym (drop-drop 1 past kept) ∙ ap (drop 1) left;
        one_run = so_far.one_run;
        so_far = ap (λ (l : List Line). map (line_of kept) ranges ++ filter has_pieces l) line ∙ so_far.so_far;
      }

  pub at_end : (ranges : List LineRange) (range : LineRange) (at : ℕ) → AreLinesSoFar ranges range.first range.past at
      → slice_get pieces at ≡ None → range.ends ≡ end → end ≤ 2 ^ 26
      → AreLinesOf end pieces (ranges ++ unless_empty range)
  unfolding lines_of
  at_end ranges range at so_far none ends limit =
      let cut = drop_none pieces at none in
      let line : lines_of end (drop at pieces) ≡ record { pieces = []; ends = range.ends } ∷ [] =
      ap (lines_of end) cut ∙ ap (λ e. record { pieces = []; ends = e } ∷ []) (sym ends) in
      let size = ap length (so_far.left ∙ ap kept_pieces cut) in
      let within = so_far.within in
      let past : range.past ≡ length kept = omega (arith, length-drop range.past kept) in
      record {
        one_run = subst (AreOneRun 0 (ranges ++ unless_empty range)) past
            (run_push 0 ranges range so_far.one_run so_far.in_order (omega arith));
        lines = sym (append-nil (map (line_of kept) (ranges ++ unless_empty range)))
            ∙ closes ranges range at [] so_far line;
      }
