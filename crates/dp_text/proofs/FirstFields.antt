-- The first field of a line is what stands before its first Colon.
use Rattle.std.proofs.Common.{◌≡◌, ℕ, zero, suc, ◌+◌, ◌<◌, Bool, true, false, cond, List, [], ◌∷◌, length, take, drop}
use Rattle.std.proofs.Common.{refl, sym, ap, ◌∙◌, arith, add-one, length-take}
use Rattle.std.specs.Prelude.{not, Some, None}
use Rattle.std.proofs.lemmas.List.{drop_all}
use Rattle.std.proofs.lemmas.Option.{slice_get_within}
use Rattle.std.specs.List.{prefix_len, slice_get}
use Rattle.dp_meaning.specs.Items.{Piece, is_colon}
use Rattle.dp_meaning.specs.Fields.{fields_of, with_field_piece}
use Rattle.dp_text.specs.FirstFields.{is_no_colon, is_colon_in, with_field}

no_colon : (line : List Piece) → slice_get line (prefix_len is_no_colon line) ≡ None
    → fields_of line ≡ record { fields = []; rest = line }
unfolding fields_of
no_colon [] h = refl
no_colon (piece ∷ pieces) h = by (no_colon pieces) (is_colon piece.kind) h
  where
    by : (slice_get pieces (prefix_len is_no_colon pieces) ≡ None
        → fields_of pieces ≡ record { fields = []; rest = pieces })
        → (b : Bool) → slice_get (piece ∷ pieces) (cond (not b) (1 + prefix_len is_no_colon pieces) 0) ≡ None
        → with_field_piece b piece (fields_of pieces) ≡ record { fields = []; rest = piece ∷ pieces }
    by others true f = cc
    by others false f =
        let one : 1 + prefix_len is_no_colon pieces ≡ suc (prefix_len is_no_colon pieces) = omega arith in
        ap (with_field_piece false piece) (others (rw one at f))

pub no_first_field : (line : List Piece) (c : ℕ) → c ≡ prefix_len is_no_colon line → None ≡ slice_get line c
    → fields_of line ≡ record { fields = []; rest = line }
no_first_field line c e h = no_colon line (ap (slice_get line) (sym e) ∙ sym h)

-- the line's fields are what stands before the Colon at c and, in their order, those of what stands behind it
abbrev pub IsFirstColon : List Piece → ℕ → Piece → Type 0
IsFirstColon line c colon =
    fields_of line ≡ with_field (record { pieces = take c line; colon = colon.at }) (fields_of (drop (suc c) line))

first_colon : (line : List Piece) (c : ℕ) (colon : Piece) → prefix_len is_no_colon line ≡ c
    → slice_get line c ≡ Some colon
    → IsFirstColon line c colon
unfolding fields_of
first_colon [] c colon e h = cc
first_colon (piece ∷ pieces) zero colon e h = by (is_colon piece.kind) e
  where
    by : (b : Bool) → cond (not b) (1 + prefix_len is_no_colon pieces) 0 ≡ 0
        → with_field_piece b piece (fields_of pieces)
        ≡ with_field (record { pieces = []; colon = colon.at }) (fields_of pieces)
    by true f = let same : piece ≡ colon = cc in ap (λ (p : Piece). with_field_piece true p (fields_of pieces)) same
    by false f = absurd (omega arith)
first_colon (piece ∷ pieces) (suc c) colon e h = by (λ f. first_colon pieces c colon f h) (is_colon piece.kind) e
  where
    by : (prefix_len is_no_colon pieces ≡ c → IsFirstColon pieces c colon)
        → (b : Bool) → cond (not b) (1 + prefix_len is_no_colon pieces) 0 ≡ suc c
        → with_field_piece b piece (fields_of pieces)
        ≡ with_field (record { pieces = piece ∷ take c pieces; colon = colon.at }) (fields_of (drop (suc c) pieces))
    by others true f = absurd (omega arith)
    by others false f = ap (with_field_piece false piece) (others (omega arith))

pub first_field_is : (line : List Piece) (c : ℕ) (colon : Piece) → c ≡ prefix_len is_no_colon line
    → Some colon ≡ slice_get line c
    → fields_of line
    ≡ with_field (record { pieces = take c line; colon = colon.at })
    (fields_of (drop (length (take c line) + 1) line))
first_field_is line c colon e h =
    let within = slice_get_within line c colon (sym h) in
    let len : length (take c line) + 1 ≡ suc c = omega (arith, length-take {A = Piece}) in
    rw len (first_colon line c colon (sym e) (sym h))

-- ---- the place of the first Colon

stops : (line : List Piece) (c : ℕ) → is_colon_in line c ≡ true → prefix_len is_no_colon (drop c line) ≡ 0
stops [] c h = cc
stops (piece ∷ pieces) zero h = rw h refl
stops (piece ∷ pieces) (suc c) h = stops pieces c h

goes : (line : List Piece) (c : ℕ) → c < length line → is_colon_in line c ≡ false
    → prefix_len is_no_colon (drop c line) ≡ 1 + prefix_len is_no_colon (drop (suc c) line)
goes [] c h e = absurd (omega arith)
goes (piece ∷ pieces) zero h e = rw e refl
goes (piece ∷ pieces) (suc c) h e = goes pieces c (omega arith) e

-- how many pieces before the first Colon are passed, and how many are left
abbrev pub IsPassed : List Piece → ℕ → Type 0
IsPassed line c = prefix_len is_no_colon line ≡ c + prefix_len is_no_colon (drop c line)

pub starts : (line : List Piece) → IsPassed line 0
starts line = omega arith

pub stops_at : (line : List Piece) (c : ℕ) → IsPassed line c → is_colon_in line c ≡ true
    → c ≡ prefix_len is_no_colon line
stops_at line c h e = let none = stops line c e in omega arith

pub goes_on : (line : List Piece) (c : ℕ) → IsPassed line c → c < length line → is_colon_in line c ≡ false
    → IsPassed line (c + 1)
goes_on line c h l e = rw add-one (let one = goes line c l e in omega arith)

pub ends_at : (line : List Piece) → IsPassed line (length line) → length line ≡ prefix_len is_no_colon line
ends_at line h = let none = drop_all (length line) line (omega arith) in
    let zero_left = ap (prefix_len is_no_colon) none in omega arith

pub ruleset steps = (starts, stops_at, goes_on, ends_at)
