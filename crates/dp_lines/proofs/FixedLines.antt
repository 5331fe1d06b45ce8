-- A line of fixed words is never bad but by its shape.
use Rattle.std.proofs.Common.{◌≡◌, true, List, [], ◌∷◌, ℕ, Err, refl}
use Rattle.std.specs.Prelude.{ℤ, Option, Some, None}
use Rattle.dp_lines.specs.declared.why.FileWhy.{FileWhy}
use Rattle.dp_lines.specs.declared.why.FileWhy.TheVariants.{Shape}
use Rattle.dp_lines.specs.Lines.{fixed_form}
use Rattle.dp_lines.specs.Scanning.{line_at, numbers_at, are_typed, are_in_range, judged_line}

words_typed : (ws : List (List ℕ)) (zs : List ℤ) → are_typed (fixed_form ws) zs ≡ true
unfolding are_typed
words_typed [] zs = refl
words_typed (w ∷ ws) zs = words_typed ws zs

words_inside : (ws : List (List ℕ)) (zs : List ℤ) → are_in_range (fixed_form ws) zs ≡ true
unfolding are_in_range
words_inside [] zs = refl
words_inside (w ∷ ws) zs = words_inside ws zs

pub only_shape : (ws : List (List ℕ)) (bytes : List ℕ) (why : FileWhy) → line_at (fixed_form ws) bytes ≡ Err why
    → why ≡ Shape
unfolding line_at
only_shape ws bytes why e = by_numbers (numbers_at (fixed_form ws) bytes) e
  where
    by_numbers : (o : Option (List ℤ × List ℕ)) → judged_line (fixed_form ws) o ≡ Err why → why ≡ Shape
    by_numbers None e = cc
    by_numbers (Some found) e = absurd (let f = rw (words_typed ws found.0, words_inside ws found.0) at e in
        cc f)
