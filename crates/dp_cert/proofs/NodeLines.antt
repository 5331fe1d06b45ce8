-- The line of a node, by its first byte.
use Rattle.std.proofs.Common.{◌≡◌, ℕ, suc, ◌+◌, ◌<◌, Bool, true, false, cond, List, [], ◌∷◌, length, get_or, Result}
use Rattle.std.proofs.Common.{Ok, Err, refl, sym, ap, subst, ◌∙◌, arith}
use Rattle.std.specs.Prelude.{pos, Some, IfOk}
use Rattle.std.proofs.lemmas.List.{length-append}
use Rattle.dp_spec.specs.TextLines.{Item, fixed, signed}
use Rattle.dp_spec.specs.CertificateText.{leaf_form, branch_form, merge_form}
use Rattle.dp_lines.specs.declared.why.FileWhy.TheVariants.{Shape, Number, Range}
use Rattle.dp_lines.specs.declared.line.LineFault.{LineFault}
use Rattle.dp_lines.specs.declared.line.LineFault.TheVariants as line_faults
use Rattle.dp_lines.specs.Forms.{AreInRange}
use Rattle.dp_lines.specs.Lines.{GivesLine}
use Rattle.dp_lines.proofs.FirstLines.{IsLineAnswer, lines_answer}
use Rattle.dp_lines.specs.Scanning.{Found, is_break, item_of, line_at, lines_at}
use Rattle.dp_lines.proofs.LineAnswers.{word_is_not}
use Rattle.dp_cert.specs.declared.tree_text.Node.{Node}
use Rattle.dp_cert.specs.declared.tree_text.Node.TheVariants as nodes
use Rattle.dp_cert.specs.CertificateGrammar.{node_forms}
use Rattle.dp_cert.specs.NodeLines.{GivesFound, HasChild, found_of, numbers_of, kind_of}

-- ---- the first byte

item_first : (bytes : List ℕ) (w : ℕ) → item_of bytes ≡ w ∷ [] → get_or bytes 0 0 ≡ w
item_first [] w e = absurd cc
item_first (b ∷ bytes) w e = by_break (is_break b) e
  where
    by_break : (v : Bool) → cond v [] (b ∷ item_of bytes) ≡ w ∷ [] → b ≡ w
    by_break true e = absurd cc
    by_break false e = cc

pub other_first : (w : ℕ) (bytes : List ℕ) (form : List Item) → (get_or bytes 0 0 ≡ w → ⊥)
    → line_at (fixed (w ∷ []) ∷ form) bytes ≡ Err Shape
other_first w bytes form other = word_is_not (w ∷ []) bytes form (λ e. other (item_first bytes w e))

not_by : (x a b : ℕ) → x ≡ a → (a ≡ b → ⊥) → x ≡ b → ⊥
not_by x a b e differ f = differ (sym e ∙ f)

-- ---- each kind

pub leaf_found : {X : Type 0} (node : X → Node) (rest : X → List ℕ) (r : Result X LineFault) (bytes : List ℕ)
    → get_or bytes 0 0 ≡ 76
    → GivesLine (λ x. (numbers_of (node x), rest x)) r (line_at leaf_form bytes)
    → IfOk r (λ x. kind_of (node x) ≡ 0) → GivesFound (λ x. found_of (node x) (rest x)) r
    (lines_at node_forms bytes)
unfolding lines_at
leaf_found node rest (Ok x) bytes first gives kind = rw (gives, kind) refl
leaf_found node rest (Err (line_faults.Bad Shape)) bytes first gives kind =
    rw (
      gives,
      other_first 66 bytes _ (λ e. absurd (omega (arith, first, e))),
      other_first 77 bytes _ (λ e. absurd (omega (arith, first, e))),
    ) refl
leaf_found node rest (Err (line_faults.Bad Number)) bytes first gives kind = rw gives refl
leaf_found node rest (Err (line_faults.Bad Range)) bytes first gives kind = rw gives refl
leaf_found node rest (Err line_faults.Memory) bytes first gives kind = tt

pub branch_found : {X : Type 0} (node : X → Node) (rest : X → List ℕ) (r : Result X LineFault) (bytes : List ℕ)
    → get_or bytes 0 0 ≡ 66
    → GivesLine (λ x. (numbers_of (node x), rest x)) r (line_at branch_form bytes)
    → IfOk r (λ x. kind_of (node x) ≡ 1) → GivesFound (λ x. found_of (node x) (rest x)) r
    (lines_at node_forms bytes)
unfolding lines_at
branch_found node rest (Ok x) bytes first gives kind =
    rw (other_first 76 bytes (signed ∷ []) (λ e. absurd (omega (arith, first, e))), gives, kind) refl
branch_found node rest (Err (line_faults.Bad Shape)) bytes first gives kind =
    rw (
      other_first 76 bytes (signed ∷ []) (λ e. absurd (omega (arith, first, e))),
      gives,
      other_first 77 bytes _ (λ e. absurd (omega (arith, first, e))),
    ) refl
branch_found node rest (Err (line_faults.Bad Number)) bytes first gives kind =
    rw (other_first 76 bytes (signed ∷ []) (λ e. absurd (omega (arith, first, e))), gives) refl
branch_found node rest (Err (line_faults.Bad Range)) bytes first gives kind =
    rw (other_first 76 bytes (signed ∷ []) (λ e. absurd (omega (arith, first, e))), gives) refl
branch_found node rest (Err line_faults.Memory) bytes first gives kind = tt

pub merge_found : {X : Type 0} (node : X → Node) (rest : X → List ℕ) (r : Result X LineFault) (bytes : List ℕ)
    → get_or bytes 0 0 ≡ 77
    → GivesLine (λ x. (numbers_of (node x), rest x)) r (line_at merge_form bytes)
    → IfOk r (λ x. kind_of (node x) ≡ 2) → GivesFound (λ x. found_of (node x) (rest x)) r
    (lines_at node_forms bytes)
unfolding lines_at
merge_found node rest (Ok x) bytes first gives kind =
    rw (
      other_first 76 bytes (signed ∷ []) (λ e. absurd (omega (arith, first, e))),
      other_first 66 bytes _ (λ e. absurd (omega (arith, first, e))),
      gives,
      kind,
    ) refl
merge_found node rest (Err (line_faults.Bad Shape)) bytes first gives kind =
    rw (
      other_first 76 bytes (signed ∷ []) (λ e. absurd (omega (arith, first, e))),
      other_first 66 bytes _ (λ e. absurd (omega (arith, first, e))),
      gives,
    ) refl
merge_found node rest (Err (line_faults.Bad Number)) bytes first gives kind =
    rw (
      other_first 76 bytes (signed ∷ []) (λ e. absurd (omega (arith, first, e))),
      other_first 66 bytes _ (λ e. absurd (omega (arith, first, e))),
      gives,
    ) refl
merge_found node rest (Err (line_faults.Bad Range)) bytes first gives kind =
    rw (
      other_first 76 bytes (signed ∷ []) (λ e. absurd (omega (arith, first, e))),
      other_first 66 bytes _ (λ e. absurd (omega (arith, first, e))),
      gives,
    ) refl
merge_found node rest (Err line_faults.Memory) bytes first gives kind = tt

-- no node begins with another byte
pub none_found : (bytes : List ℕ) → (get_or bytes 0 0 ≡ 76 → ⊥) → (get_or bytes 0 0 ≡ 66 → ⊥)
    → (get_or bytes 0 0 ≡ 77 → ⊥) → lines_at node_forms bytes ≡ Err Shape
unfolding lines_at
none_found bytes leaf branch merge = rw (
  other_first 76 bytes (signed ∷ []) leaf,
  other_first 66 bytes _ branch,
  other_first 77 bytes _ merge,
) refl

-- fewer bytes follow a node's line
pub node_shorter : (bytes : List ℕ) (found : Found) → lines_at node_forms bytes ≡ Ok found
    → length found.more < length bytes
node_shorter bytes found e =
    let a = subst (IsLineAnswer node_forms bytes) e (lines_answer node_forms bytes
    ((assumption, tt), ((assumption, tt), ((assumption, tt), tt)))) in
    let sizes : length bytes ≡ length a.begins.line + suc (length found.more) = ap length a.begins.first
    ∙ length-append a.begins.line (10 ∷ found.more) in
    omega (arith, sizes)

-- the line of a branch has a child
pub node_child : (bytes : List ℕ) (node : Node) (more : List ℕ)
    → lines_at node_forms bytes ≡ Ok (found_of node more) → HasChild node
node_child bytes (nodes.Leaf z) more e = tt
node_child bytes (nodes.Merge i a b) more e = tt
node_child bytes (nodes.Branch i c k) more e =
    let a = subst (IsLineAnswer node_forms bytes) e (lines_answer node_forms bytes
    ((assumption, tt), ((assumption, tt), ((assumption, tt), tt)))) in
    let form : branch_form ≡ a.form = same_form branch_form a.form a.begins.is_form in
    let inside = subst (λ (f : List Item). AreInRange f (pos i ∷ pos c ∷ pos k ∷ [])) (sym form) a.in_range in
    omega (arith, inside.2.2.0)
  where
    same_form : (f g : List Item) → Some f ≡ Some g → f ≡ g
    same_form f g e = cc
