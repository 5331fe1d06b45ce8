-- The steps that grammars of texts are made of. (Own.)
use Rattle.std.specs.Prelude.{ℕ, ℤ, pos, unsigned_abs, List, [], ◌∷◌, Option, Some, None}
use Rattle.dp_spec.specs.TextLines.{Item}
use Rattle.dp_lines.specs.Grammar.{Grammar, ends, passes, next, ◌>>=◌}
use Rattle.dp_lines.specs.Lines.{fixed_form}

-- a line of these words
abbrev pub the_words : {L : Type 0} → List (List ℕ) → Grammar L (Unit {0})
the_words words = next (fixed_form words ∷ []) (λ k zs. ends tt)

-- a line of this form, which says its numbers
abbrev pub the_numbers : {L : Type 0} → List Item → Grammar L (List ℤ)
the_numbers form = next (form ∷ []) (λ k zs. ends zs)

-- a line of one of two forms, which says 0 or 1
abbrev pub one_of : {L : Type 0} → List Item → List Item → Grammar L ℕ
one_of first second = next (first ∷ second ∷ []) (λ k zs. ends k)

-- no line, but a limit that may be passed
abbrev pub unless_passed : {L : Type 0} → Option L → Grammar L (Unit {0})
unless_passed None = ends tt
unless_passed (Some limit) = passes limit

-- one, and then others behind it
abbrev pub and_then : {L A : Type 0} → Grammar L A → Grammar L (List A) → Grammar L (List A)
and_then one others = do
  x ← one
  xs ← others
  ends (x ∷ xs)

-- the first number of a line
abbrev pub first_number : List ℤ → ℤ
first_number [] = pos 0
first_number (z ∷ zs) = z

-- the first number of a line, where it is plain
abbrev pub first_plain : List ℤ → ℕ
first_plain zs = unsigned_abs (first_number zs)
