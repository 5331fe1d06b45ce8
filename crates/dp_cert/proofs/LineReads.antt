-- Lists of lines as a grammar reads them: what it reads is what their text says.
use Rattle.std.proofs.Common.{◌≡◌, ℕ, List, [], ◌∷◌, refl, sym, ap, subst}
use Rattle.std.specs.Prelude.{ℤ, Option, Some, None}
use Rattle.dp_spec.specs.TextLines.{Allows, Item, Line, fixed_line, line_text, text_of_lines}
use Rattle.dp_lines.specs.Grammar.{Grammar, IsText, ends, next, nth_form, passes, ◌>>=◌}
use Rattle.dp_lines.specs.Lines.{fixed_form}
use Rattle.dp_lines.specs.Steps.{and_then, the_numbers, the_words, unless_passed}
use Rattle.dp_lines.proofs.WrittenLines.{allowed_typed, line_text-says}
use Rattle.dp_cert.proofs.ReadLines.{allowed_words}

-- the line of a form that says these numbers
abbrev pub the_line : List Item → List ℤ → Line
the_line form zs = record { form = form; numbers = zs }

-- a grammar reads these lines as a value, up to the rest of them
abbrev pub Reads : {L V : Type 0} → Grammar L V → List Line → V → List Line → Type 0
Reads (ends x) lines v rest = (x ≡ v) × (lines ≡ rest)
Reads (passes l) lines v rest = ⊥
Reads (next forms after) lines v rest =
    (k : ℕ) × (form : List Item) × (zs : List ℤ) × (more : List Line) × (nth_form forms k ≡ Some form)
    × Allows form zs × (lines ≡ the_line form zs ∷ more) × Reads (after k zs) more v rest

-- what follows is read after what is read
pub reads_bind : {L V W : Type 0} (g : Grammar L V) (f : V → Grammar L W) (lines mid rest : List Line) (v : V) (w : W)
    → Reads g lines v mid → Reads (f v) mid w rest → Reads (g >>= f) lines w rest
reads_bind (ends x) f lines mid rest v w r s =
    subst (λ y. Reads (f y) lines w rest) (sym r.0) (subst (λ (l : List Line). Reads (f v) l w rest) (sym r.1) s)
reads_bind (passes l) f lines mid rest v w r s = absurd r
reads_bind (next forms after) f lines mid rest v w r s =
    (r.0, r.1, r.2, r.3, r.4, r.5, r.6, reads_bind (after r.0 r.2) f r.3 mid rest v w r.7 s)

-- the text of lines that are read says what they are read as
pub reads_text : {L V : Type 0} (g : Grammar L V) (lines : List Line) (v : V) → Reads g lines v []
    → IsText g (text_of_lines lines) v
reads_text (ends x) lines v r = (r.0, ap text_of_lines r.1)
reads_text (passes l) lines v r = absurd r
reads_text (next forms after) lines v r =
    let t = allowed_typed r.1 r.2 r.5 in (
      r.0,
      r.2,
      text_of_lines r.3,
      record {
        form = r.1;
        begins = record {
          is_form = r.4;
          line = line_text r.1 r.2;
          says = line_text-says r.1 r.2 r.5;
          first = ap text_of_lines r.6;
        };
        typed = t.0;
        in_range = t.1;
      },
      reads_text (after r.0 r.2) r.3 v r.7,
    )

-- ---- the steps

pub reads_numbers : (L : Type 0) (form : List Item) (zs : List ℤ) (rest : List Line) → Allows form zs
    → Reads {L = L} (the_numbers form) (the_line form zs ∷ rest) zs rest
reads_numbers L form zs rest a = (0, form, zs, rest, refl, a, refl, (refl, refl))

pub reads_words : (L : Type 0) (ws : List (List ℕ)) (rest : List Line)
    → Reads {L = L} (the_words ws) (fixed_line (fixed_form ws) ∷ rest) tt rest
reads_words L ws rest = (0, fixed_form ws, [], rest, refl, allowed_words ws, refl, (refl, refl))

pub reads_unless : {L : Type 0} (o : Option L) (rest : List Line) → o ≡ None → Reads (unless_passed o) rest tt rest
reads_unless None rest e = (refl, refl)
reads_unless (Some l) rest e = absurd cc

pub reads_and : {L A : Type 0} (g : Grammar L A) (G : Grammar L (List A)) (lines mid rest : List Line) (x : A)
    (xs : List A) → Reads g lines x mid → Reads G mid xs rest → Reads (and_then g G) lines (x ∷ xs) rest
reads_and g G lines mid rest x xs r s =
    reads_bind g (λ y. G >>= λ ys. ends (y ∷ ys)) lines mid rest x (x ∷ xs) r
    (reads_bind G (λ ys. ends (x ∷ ys)) mid rest rest xs (x ∷ xs) s (refl, refl))
