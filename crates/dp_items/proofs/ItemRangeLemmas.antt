-- Gathering lines into items, from the last line to the first.
use Rattle.std.proofs.Common.{◌≡◌, ℕ, zero, suc, ◌+◌, ◌-◌, ◌<◌, ◌≤◌, ◌^◌, Bool, true, false, List, [], ◌∷◌, ◌++◌}
use Rattle.std.proofs.Common.{length, get_or, take, drop, map, refl, sym, ap, subst, ◌∙◌, arith}
use Rattle.std.specs.Prelude.{slice_range, reverse, All}
use Rattle.std.proofs.lemmas.List.{drop_more, drop-drop, drop_all, reverse-append}
use Rattle.std.proofs.lemmas.List.Elements.{All-push}
use Rattle.dp_meaning.specs.Items.{Piece, Item, Items, begins_item, with_line, items_of, first_item_at, first_at}
use Rattle.dp_items.specs.declared.line.LineRange.{LineRange}
use Rattle.dp_items.specs.declared.item_range.ItemRange.{ItemRange}
use Rattle.dp_items.specs.declared.item_range.ItemRanges.{ItemRanges}
use Rattle.dp_items.specs.Lines.{line_of, item_of, AreOneRun}
use Rattle.dp_items.specs.ItemRanges.{no_line, item_in, IsItemRange, AreItemsOf}
use Rattle.dp_items.proofs.ItemLemmas.{run_ahead, empty_stretch}

-- where the first of these stretches begins, or `past`
abbrev pub start : List LineRange → ℕ → ℕ
start [] past = past
start (range ∷ ranges) past = range.first

run_start : (from : ℕ) (ranges : List LineRange) (past : ℕ) → AreOneRun from ranges past → from ≡ start ranges past
run_start from [] past run = run
run_start from (range ∷ ranges) past run = sym run.0.first

-- the run behind some stretches, and before the others
run_drop : (n from : ℕ) (ranges : List LineRange) (past : ℕ) → AreOneRun from ranges past
    → AreOneRun (start (drop n ranges) past) (drop n ranges) past
run_drop zero from ranges past run = subst (λ k. AreOneRun k ranges past) (run_start from ranges past run) run
run_drop (suc n) from [] past run = refl
run_drop (suc n) from (range ∷ ranges) past run = run_drop n range.past ranges past run.1

run_take : (n from : ℕ) (ranges : List LineRange) (past : ℕ) → AreOneRun from ranges past
    → AreOneRun from (take n ranges) (start (drop n ranges) past)
run_take zero from ranges past run = run_start from ranges past run
run_take (suc n) from [] past run = run
run_take (suc n) from (range ∷ ranges) past run = (run.0, run_take n range.past ranges past run.1)

all_reverse : {X : Type 0} (P : X → Type 0) (xs : List X) → All P xs → All P (reverse xs)
all_reverse P [] all = all
all_reverse P (x ∷ xs) all = subst (All P) (sym (reverse-append (x ∷ []) xs))
    (All-push P (reverse xs) x (all_reverse P xs (λ k d l. all (suc k) d (omega arith))) (all 0 x (omega arith)))

module _ (end : ℕ) (pieces : List Piece) (lines : List LineRange) where
  abbrev gathered : List LineRange → List Item → Items
  gathered before items = record { before = map (line_of pieces) before; items = items }

  -- the items of the lines from `at` on, of which those up to `before` stand before the first item; the items are
  -- known from the last to the first
  pub record AreItemsFrom (at before past next : ℕ) (ranges : List ItemRange) : Type 0 where
    pub in_order : at ≤ before
    pub within : before ≤ length lines
    pub past_is : past ≡ start (drop before lines) (length pieces)
    pub next_is : next ≡ first_item_at end (map (item_in pieces lines) (reverse ranges))
    pub next_limit : next ≤ 2 ^ 26
    pub each : All (IsItemRange pieces lines) ranges
    pub items : items_of end (map (line_of pieces) (drop at lines))
        ≡ record {
          before = map (line_of pieces) (slice_range lines at before);
          items =
              map (item_in pieces lines) (reverse ranges);
        }

  pub at_start : end ≤ 2 ^ 26 → AreItemsFrom (length lines) (length lines) (length pieces) end []
  unfolding items_of
  at_start limit =
      let gone = drop_all (length lines) lines (omega arith) in
      record {
        in_order = omega arith;
        within = omega arith;
        past_is = sym (ap (λ (l : List LineRange). start l (length pieces)) gone);
        next_is = refl;
        next_limit = limit;
        each = λ k d l. absurd (omega arith);
        items = ap (λ (l : List LineRange). items_of end (map (line_of pieces) l)) gone
            ∙ ap (λ (l : List LineRange). gathered l []) (sym (empty_stretch lines (length lines)));
      }

  pub one_back : (at before past next : ℕ) (ranges : List ItemRange) → 0 < at
      → AreItemsFrom at before past next ranges
      → AreItemsFrom (at - 1 + 1) before past next ranges
  one_back at before past next ranges h so_far =
      let same : at ≡ at - 1 + 1 = omega arith in subst (λ k. AreItemsFrom k before past next ranges) same so_far

  module _ (run : AreOneRun 0 lines (length pieces)) (at : ℕ) (h : at < length lines) where
    abbrev line : LineRange
    line = get_or lines at no_line

    cut : drop at lines ≡ line ∷ drop (at + 1) lines
    cut = drop_more lines at no_line h

    -- the line, and the run behind it
    run_here : AreOneRun (start (line ∷ drop (at + 1) lines) (length pieces)) (line ∷ drop (at + 1) lines)
        (length pieces)
    run_here = subst (λ (l : List LineRange). AreOneRun (start l (length pieces)) l (length pieces)) cut
        (run_drop at 0 lines (length pieces) run)

    module _ (before past next : ℕ) (ranges : List ItemRange)
        (so_far : AreItemsFrom (at + 1) before past next ranges) where
      abbrev range : ItemRange
      range = record { line = at; lines_past = before; past = past; next = next }

      behind : AreOneRun line.past (slice_range lines (at + 1) before) past
      behind =
          let in_order = so_far.in_order in
          let place : (at + 1) + (before - (at + 1)) ≡ before = omega arith in
          let rest : drop (before - (at + 1)) (drop (at + 1) lines) ≡ drop before lines =
          drop-drop (before - (at + 1)) (at + 1) lines ∙ ap (λ k. drop k lines) place in
          subst (AreOneRun line.past (slice_range lines (at + 1) before))
          (ap (λ (l : List LineRange). start l (length pieces)) rest ∙ sym so_far.past_is)
          (run_take (before - (at + 1)) line.past (drop (at + 1) lines) (length pieces) run_here.1)

      past_within : past ≤ length pieces
      past_within =
          let is = so_far.past_is in
          let ahead = run_ahead (start (drop before lines) (length pieces)) (drop before lines) (length pieces)
          (run_drop before 0 lines (length pieces) run) in
          omega arith

      is_item : begins_item (slice_range pieces line.first line.past) ≡ true → IsItemRange pieces lines range
      is_item b = record {
        in_order = (let in_order = so_far.in_order in omega arith);
        within = so_far.within;
        item = record {
          begins = b;
          limit = run_here.0.limit;
          one_run = behind;
          within = past_within;
          next_limit =
              so_far.next_limit;
        };
      }

      -- the items with this line in front
      in_front : (b : Bool) → begins_item (slice_range pieces line.first line.past) ≡ b
          → items_of end (map (line_of pieces) (drop at lines))
          ≡ with_line end b (line_of pieces line) (gathered (slice_range lines (at + 1) before)
          (map (item_in pieces lines) (reverse ranges)))
      unfolding items_of
      in_front b e =
          ap (λ (l : List LineRange). items_of end (map (line_of pieces) l)) cut
          ∙ ap (λ v. with_line end v (line_of pieces line)
          (items_of end (map (line_of pieces) (drop (at + 1) lines)))) e
          ∙ ap (with_line end b (line_of pieces line)) so_far.items

      pub begins : begins_item (slice_range pieces line.first line.past) ≡ true
          → first_at end (slice_range pieces line.first line.past) ≤ 2 ^ 26
          → AreItemsFrom at at line.first (first_at end (slice_range pieces line.first line.past))
          (ranges ++ range ∷ [])
      begins b limit =
          let last : reverse (ranges ++ range ∷ []) ≡ range ∷ reverse ranges = reverse-append ranges (range ∷ []) in
          record {
            in_order = omega arith;
            within = omega arith;
            past_is = sym (ap (λ (l : List LineRange). start l (length pieces)) cut);
            next_is = sym (ap (λ (l : List ItemRange). first_item_at end (map (item_in pieces lines) l)) last);
            next_limit = limit;
            each = All-push (IsItemRange pieces lines) ranges range so_far.each (is_item b);
            items = in_front true b
                ∙ ap (λ n. gathered [] (item_of pieces line (slice_range lines (at + 1) before) n ∷ map
                (item_in pieces lines) (reverse ranges))) (sym so_far.next_is)
                ∙ ap (λ (l : List LineRange). gathered l (map (item_in pieces lines) (range ∷ reverse ranges)))
                (sym (empty_stretch lines at))
                ∙ ap (λ (l : List ItemRange). gathered (slice_range lines at at) (map (item_in pieces lines) l))
                (sym last);
          }

      pub goes_on : begins_item (slice_range pieces line.first line.past) ≡ false
          → AreItemsFrom at before past next ranges
      goes_on b =
          let in_order = so_far.in_order in
          let more : before - at ≡ suc (before - (at + 1)) = omega arith in
          let front : slice_range lines at before ≡ line ∷ slice_range lines (at + 1) before =
          ap (take (before - at)) cut ∙ ap (λ k. take k (line ∷ drop (at + 1) lines)) more in
          record {
            in_order = omega arith;
            within = so_far.within;
            past_is = so_far.past_is;
            next_is = so_far.next_is;
            next_limit = so_far.next_limit;
            each = so_far.each;
            items = in_front false b ∙ ap (λ (l : List LineRange).
                gathered l (map (item_in pieces lines) (reverse ranges))) (sym front);
          }

  pub at_end : (before past next : ℕ) (ranges : ItemRanges) (made : List ItemRange)
      → AreItemsFrom 0 before past next made
      → ranges.before ≡ before → ranges.items.items ≡ reverse made → AreItemsOf end pieces lines ranges
  at_end before past next ranges made so_far before_is items_are = record {
    before = (let within = so_far.within in omega arith);
    each = subst (All (IsItemRange pieces lines)) (sym items_are)
        (all_reverse (IsItemRange pieces lines) made so_far.each);
    items = so_far.items
        ∙ ap (λ k. gathered (take k lines) (map (item_in pieces lines) (reverse made)))
        (let e : before - 0 ≡ ranges.before = omega arith in e)
        ∙ ap (λ (l : List ItemRange). gathered (take ranges.before lines) (map (item_in pieces lines) l))
        (sym items_are);
  }
