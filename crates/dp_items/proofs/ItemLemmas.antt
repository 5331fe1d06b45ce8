-- The lines of an item are one stretch of pieces.
use Rattle.std.proofs.Common.{◌≡◌, ℕ, zero, suc, ◌+◌, ◌-◌, ◌<◌, ◌≤◌, true, List, [], ◌∷◌, ◌++◌, length, get_or, take}
use Rattle.std.proofs.Common.{drop, map, None, Some, refl, sym, ap, ◌∙◌, arith}
use Rattle.std.specs.Prelude.{slice_get, slice_range}
use Rattle.std.specs.List.{flat_map}
use Rattle.std.proofs.Math.Seq.{take-add}
use Rattle.std.proofs.lemmas.List.{length-append, length-take, drop-append-le, drop-drop, length-map}
use Rattle.std.proofs.lemmas.Option.{slice_get_past}
use Rattle.dp_meaning.specs.Items.{Piece, begins_item, pieces_of, value_pieces}
use Rattle.dp_items.specs.declared.line.LineRange.{LineRange}
use Rattle.dp_items.specs.Lines.{line_of, item_of, AreOneRun, IsItem}

-- ---- stretches of a list

-- two stretches, one behind the other
pub stretches : {X : Type 0} (xs : List X) (a b c : ℕ) → a ≤ b → b ≤ c
    → slice_range xs a b ++ slice_range xs b c ≡ slice_range xs a c
stretches {X} xs a b c a_b b_c =
    let whole : c - a ≡ (b - a) + (c - b) = omega arith in
    let there : a + (b - a) ≡ b = omega arith in
    let rest : drop (b - a) (drop a xs) ≡ drop b xs = drop-drop (b - a) a xs ∙ ap (λ k. drop k xs) there in
    sym (ap (λ k. take k (drop a xs)) whole ∙ take-add (b - a) (c - b) (drop a xs)
    ∙ ap (λ (l : List X). take (b - a) (drop a xs) ++ take (c - b) l) rest)

pub empty_stretch : {X : Type 0} (xs : List X) (a : ℕ) → slice_range xs a a ≡ []
empty_stretch xs a = let none : a - a ≡ 0 = omega arith in rw none refl

-- ---- runs of lines

pub run_ahead : (from : ℕ) (ranges : List LineRange) (past : ℕ) → AreOneRun from ranges past → from ≤ past
run_ahead from [] past run = omega arith
run_ahead from (range ∷ ranges) past run =
    let some = run.0.some in
    let rest = run_ahead range.past ranges past run.1 in omega arith

-- a line of a run is a stretch
pub run_at : (from : ℕ) (ranges : List LineRange) (past i : ℕ) (d : LineRange) → AreOneRun from ranges past
    → i < length ranges
    → ((get_or ranges i d).first < (get_or ranges i d).past) × ((get_or ranges i d).past ≤ past)
run_at from [] past i d run h = absurd (omega arith)
run_at from (range ∷ ranges) past zero d run h =
    let first = run.0.first in
    let some = run.0.some in
    let rest = run_ahead range.past ranges past run.1 in (omega arith, omega arith)
run_at from (range ∷ ranges) past (suc i) d run h = run_at range.past ranges past i d run.1 (omega arith)

-- the pieces of a run are one stretch
run_pieces : (pieces : List Piece) (from : ℕ) (ranges : List LineRange) (past : ℕ) → AreOneRun from ranges past
    → flat_map pieces_of (map (line_of pieces) ranges) ≡ slice_range pieces from past
run_pieces pieces from [] past run = sym (ap (slice_range pieces from) (sym run) ∙ empty_stretch pieces from)
run_pieces pieces from (range ∷ ranges) past run =
    let some = run.0.some in
    let ahead = run_ahead range.past ranges past run.1 in
    ap (λ (k : ℕ). slice_range pieces k range.past ++ flat_map pieces_of (map (line_of pieces) ranges)) run.0.first
    ∙ ap (λ (l : List Piece). slice_range pieces from range.past ++ l)
    (run_pieces pieces range.past ranges past run.1)
    ∙ stretches pieces from range.past past (omega arith) ahead

-- ---- items

pub begins_with_two : (pieces : List Piece) → begins_item pieces ≡ true → 2 ≤ length pieces
begins_with_two [] e = absurd (cc)
begins_with_two (p ∷ []) e = absurd (cc)
begins_with_two (p ∷ q ∷ pieces) e = omega arith

module _ (pieces : List Piece) (first : LineRange) (more : List LineRange) (past next : ℕ)
    (is : IsItem pieces first more past next) where
  pub two : 2 ≤ length (slice_range pieces first.first first.past)
  two = begins_with_two _ is.begins

  pub first_ahead : first.first ≤ first.past
  first_ahead = let h = two in omega (arith, length-take (first.past - first.first) (drop first.first pieces))

  pub first_within : first.past ≤ past
  first_within = run_ahead first.past more past is.one_run

  abbrev whole : List Piece
  whole = slice_range pieces first.first first.past ++ slice_range pieces first.past past

  whole_is : slice_range pieces first.first past ≡ whole
  whole_is = sym (stretches pieces first.first first.past past first_ahead first_within)

  pub two_of_all : 2 ≤ length (slice_range pieces first.first past)
  two_of_all = rw whole_is (let h = two in omega (
    arith,
    length-append (slice_range pieces first.first first.past) (slice_range pieces first.past past),
  ))

  pub value_is : drop 2 (slice_range pieces first.first past) ≡ value_pieces (item_of pieces first more next)
  value_is = ap (drop 2) whole_is
      ∙ drop-append-le 2 (slice_range pieces first.first first.past) (slice_range pieces first.past past) two
      ∙ ap (λ (l : List Piece). drop 2 (slice_range pieces first.first first.past) ++ l)
      (sym (run_pieces pieces first.past more past is.one_run))

-- a line by its place
pub line_by_place : (pieces : List Piece) (ranges : List LineRange) (i : ℕ) (d : LineRange) → i < length ranges
    → slice_get (map pieces_of (map (line_of pieces) ranges)) i
    ≡ Some (slice_range pieces (get_or ranges i d).first (get_or ranges i d).past)
line_by_place pieces [] i d h = absurd (omega arith)
line_by_place pieces (range ∷ ranges) zero d h = refl
line_by_place pieces (range ∷ ranges) (suc i) d h = line_by_place pieces ranges i d (omega arith)

pub no_line : (pieces : List Piece) (ranges : List LineRange) (i : ℕ) → length ranges ≤ i
    → slice_get (map pieces_of (map (line_of pieces) ranges)) i ≡ None
no_line pieces ranges i h =
    slice_get_past _ i (rw (length-map (map (line_of pieces) ranges) pieces_of, length-map ranges (line_of pieces)) h)
