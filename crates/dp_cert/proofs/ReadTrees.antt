-- Trees that were read: their lines, their depth and their branches.
use Rattle.std.proofs.Common.{◌≡◌, ℕ, zero, suc, ◌+◌, ◌≤◌, List, [], ◌∷◌, length, max, Ok, refl, sym, ap, subst, ◌∙◌}
use Rattle.std.proofs.Common.{arith}
use Rattle.std.specs.Prelude.{ℤ, pos, negsuc, Some}
use Rattle.std.proofs.lemmas.List.{length-append}
use Rattle.dp_spec.specs.BoundTree.{BoundTree, BoundTrees, HasSmallBranches, HaveSmallBranches, branch, child_count}
use Rattle.dp_spec.specs.BoundTree.{depth_of, greatest_depth, leaf, merge, more_bound_trees, no_bound_trees}
use Rattle.dp_spec.specs.BoundTree.{node_count, node_counts}
use Rattle.dp_spec.specs.CertificateText.{branch_form, branch_line, children_lines, leaf_form, merge_form, node_lines}
use Rattle.dp_spec.specs.TextLines.{Item}
use Rattle.dp_model.specs.declared.limit.TooLarge.{TooLarge}
use Rattle.dp_lines.specs.Grammar.{ends, nth_form, ◌>>=◌}
use Rattle.dp_lines.specs.Scanning.{Rest, front_of}
use Rattle.dp_lines.proofs.FirstLines.{AllHaveItems, proper_items}
use Rattle.dp_policy.proofs.ReadBytes.{IsLine, same_rest, split}
use Rattle.dp_cert.specs.CertificateGrammar.{branch_below, leaf_only, merge_below, node_below, node_forms, repeated}
use Rattle.dp_cert.specs.CertificateGrammar.{tree_lines}
use Rattle.dp_lines.specs.Reading.{rest_at}
use Rattle.dp_cert.specs.PolicyGrammar.{Text}
use Rattle.dp_lines.specs.Steps.{first_number}
use Rattle.dp_cert.proofs.CertificateAnswers.{forms_proper}
use Rattle.dp_cert.proofs.ReadLines.{AreLines, line_then, lines_then, next_read, no_lines}

-- a tree with at most so many branches and merges on a path, and its lines
pub record IsTree (left : ℕ) (T : BoundTree) (bytes more : List ℕ) : Type 0 where
  pub depth : depth_of T ≤ left
  pub children : HasSmallBranches T
  pub lines : AreLines (node_lines T) bytes more

-- so many such trees
record AreTrees (left count : ℕ) (ks : BoundTrees) (bytes more : List ℕ) : Type 0 where
  depth : greatest_depth ks ≤ left
  children : HaveSmallBranches ks
  all : child_count ks ≡ count
  lines : AreLines (children_lines ks) bytes more

-- what is read by a grammar is such a tree
abbrev ReadsTree : ℕ → Text BoundTree → Type 0
ReadsTree left g = (line : ℕ) (bytes : List ℕ) (rest : Rest BoundTree) → front_of g line bytes ≡ Ok rest
    → IsTree left rest.value bytes rest.bytes

max_least : (a b c : ℕ) → a ≤ c → b ≤ c → max a b ≤ c
max_least a b c p q = grind arith

repeated_read : (left : ℕ) (g : Text BoundTree) → ReadsTree left g → (count line : ℕ) (bytes : List ℕ)
    (rest : Rest BoundTrees) → front_of (repeated g count) line bytes ≡ Ok rest
    → AreTrees left count rest.value bytes rest.bytes
repeated_read left g reads zero line bytes rest e =
    let one : Rest BoundTrees = rest_at no_bound_trees line bytes in
    subst (λ (r : Rest BoundTrees). AreTrees left 0 r.value bytes r.bytes) (same_rest one rest e)
    (record { depth = omega arith; children = tt; all = refl; lines = no_lines bytes })
repeated_read left g reads (suc count) line bytes rest e =
    let s = split g (λ first. repeated g count >>= λ others. ends (more_bound_trees first others))
    line bytes rest e in
    let first = reads line bytes s.mid s.front in
    let u = split (repeated g count) (λ others. ends (more_bound_trees s.mid.value others))
    s.mid.line s.mid.bytes rest
    s.behind in
    let others = repeated_read left g reads count s.mid.line s.mid.bytes u.mid u.front in
    let one : Rest BoundTrees = rest_at (more_bound_trees s.mid.value u.mid.value) u.mid.line u.mid.bytes in
    subst (λ (r : Rest BoundTrees). AreTrees left (suc count) r.value bytes r.bytes)
    (same_rest one rest u.behind)
    (record {
      depth = max_least _ _ _ first.depth others.depth;
      children = (first.children, others.children);
      all = (let k = others.all in omega (arith, k));
      lines = lines_then (node_lines s.mid.value) (children_lines u.mid.value)
          bytes s.mid.bytes u.mid.bytes first.lines
          others.lines;
    })

-- ---- a node

leaf_read : (left line : ℕ) (zs : List ℤ) (bytes more : List ℕ) (rest : Rest BoundTree)
    → IsLine leaf_form bytes zs more
    → front_of {L = TooLarge} (ends (leaf (first_number zs))) line more ≡ Ok rest
    → IsTree left rest.value bytes rest.bytes
leaf_read left line [] bytes more rest is e = absurd is.allowed
leaf_read left line (z ∷ y ∷ zs) bytes more rest is e = absurd is.allowed.1
leaf_read left line (z ∷ []) bytes more rest is e =
    let one : Rest BoundTree = rest_at (leaf z) line more in
    subst (λ (r : Rest BoundTree). IsTree left r.value bytes r.bytes) (same_rest one rest e)
    (record {
      depth = omega arith;
      children = tt;
      lines = line_then leaf_form (z ∷ []) [] bytes more more is (no_lines more);
    })

branch_read : (left : ℕ) (g : Text BoundTree) → ReadsTree left g
    → (line : ℕ) (zs : List ℤ) (bytes more : List ℕ)
    (rest : Rest BoundTree) → IsLine branch_form bytes zs more
    → front_of (branch_below g zs) line more ≡ Ok rest
    → IsTree (suc left) rest.value bytes rest.bytes
branch_read left g reads line [] bytes more rest is e = absurd is.allowed
branch_read left g reads line (negsuc i ∷ zs) bytes more rest is e = absurd is.allowed
branch_read left g reads line (pos i ∷ []) bytes more rest is e = absurd is.allowed.3
branch_read left g reads line (pos i ∷ negsuc c ∷ zs) bytes more rest is e = absurd is.allowed.3
branch_read left g reads line (pos i ∷ pos c ∷ []) bytes more rest is e = absurd is.allowed.3.3
branch_read left g reads line (pos i ∷ pos c ∷ negsuc k ∷ zs) bytes more rest is e = absurd is.allowed.3.3
branch_read left g reads line (pos i ∷ pos c ∷ pos k ∷ z ∷ zs) bytes more rest is e = absurd is.allowed.3.3.3
branch_read left g reads line (pos i ∷ pos c ∷ pos k ∷ []) bytes more rest is e =
    let s = split (repeated g k) (λ kids. ends (branch i c kids)) line more rest e in
    let kids = repeated_read left g reads k line more s.mid s.front in
    let one : Rest BoundTree = rest_at (branch i c s.mid.value) s.mid.line s.mid.bytes in
    let many = kids.all in
    let some : 1 ≤ k = is.allowed.3.3.1 in
    let few : k ≤ 256 = is.allowed.3.3.2 in
    subst (λ (r : Rest BoundTree). IsTree (suc left) r.value bytes r.bytes) (same_rest one rest s.behind)
    (record {
      depth = (let d = kids.depth in omega (arith, d));
      children = (omega (arith, many, some), omega (arith, many, few), kids.children);
      lines = subst (λ (n : ℕ). AreLines (branch_line i c n ∷ children_lines s.mid.value) bytes s.mid.bytes)
          (sym many)
          (line_then branch_form (pos i ∷ pos c ∷ pos k ∷ []) (children_lines s.mid.value)
          bytes more s.mid.bytes is
          kids.lines);
    })

merge_read : (left : ℕ) (g : Text BoundTree) → ReadsTree left g → (line : ℕ) (zs : List ℤ) (bytes more : List ℕ)
    (rest : Rest BoundTree) → IsLine merge_form bytes zs more → front_of (merge_below g zs) line more ≡ Ok rest
    → IsTree (suc left) rest.value bytes rest.bytes
merge_read left g reads line [] bytes more rest is e = absurd is.allowed
merge_read left g reads line (negsuc i ∷ zs) bytes more rest is e = absurd is.allowed
merge_read left g reads line (pos i ∷ []) bytes more rest is e = absurd is.allowed.3
merge_read left g reads line (pos i ∷ negsuc c ∷ zs) bytes more rest is e = absurd is.allowed.3
merge_read left g reads line (pos i ∷ pos c ∷ []) bytes more rest is e = absurd is.allowed.3.3
merge_read left g reads line (pos i ∷ pos c ∷ negsuc k ∷ zs) bytes more rest is e = absurd is.allowed.3.3
merge_read left g reads line (pos i ∷ pos c ∷ pos k ∷ z ∷ zs) bytes more rest is e = absurd is.allowed.3.3.3
merge_read left g reads line (pos i ∷ pos a ∷ pos b ∷ []) bytes more rest is e =
    let s = split g (λ kid. ends (merge i a b kid)) line more rest e in
    let kid = reads line more s.mid s.front in
    let one : Rest BoundTree = rest_at (merge i a b s.mid.value) s.mid.line s.mid.bytes in
    subst (λ (r : Rest BoundTree). IsTree (suc left) r.value bytes r.bytes) (same_rest one rest s.behind)
    (record {
      depth = (let d = kid.depth in omega (arith, d));
      children = kid.children;
      lines = line_then merge_form (pos i ∷ pos a ∷ pos b ∷ []) (node_lines s.mid.value)
          bytes more s.mid.bytes is
          kid.lines;
    })

form_of : (form other : List Item) (bytes more : List ℕ) (zs : List ℤ)
    → (let one : _ = Some form in one ≡ Some other)
    → IsLine other bytes zs more → IsLine form bytes zs more
form_of form other bytes more zs e is =
    let same : form ≡ other = cc in subst (λ (f : List Item). IsLine f bytes zs more) (sym same) is

only_read : (k line : ℕ) (form : List Item) (zs : List ℤ) (bytes more : List ℕ) (rest : Rest BoundTree)
    → nth_form node_forms k ≡ Some form → IsLine form bytes zs more
    → front_of (leaf_only k zs) line more ≡ Ok rest
    → IsTree 0 rest.value bytes rest.bytes
only_read zero line form zs bytes more rest at is e =
    leaf_read 0 line zs bytes more rest (form_of leaf_form form bytes more zs at is) e
only_read (suc k) line form zs bytes more rest at is e = absurd cc

node_read : (left : ℕ) (g : Text BoundTree) → ReadsTree left g → (k line : ℕ) (form : List Item) (zs : List ℤ)
    (bytes more : List ℕ) (rest : Rest BoundTree) → nth_form node_forms k ≡ Some form
    → IsLine form bytes zs more
    → front_of (node_below g k zs) line more ≡ Ok rest → IsTree (suc left) rest.value bytes rest.bytes
node_read left g reads zero line form zs bytes more rest at is e =
    leaf_read (suc left) line zs bytes more rest (form_of leaf_form form bytes more zs at is) e
node_read left g reads (suc zero) line form zs bytes more rest at is e =
    branch_read left g reads line zs bytes more rest (form_of branch_form form bytes more zs at is) e
node_read left g reads (suc (suc zero)) line form zs bytes more rest at is e =
    merge_read left g reads line zs bytes more rest (form_of merge_form form bytes more zs at is) e
node_read left g reads (suc (suc (suc k))) line form zs bytes more rest at is e = absurd cc

node_items : AllHaveItems node_forms
node_items = proper_items node_forms forms_proper

pub tree_read : (left : ℕ) → ReadsTree left (tree_lines left)
tree_read zero line bytes rest e =
    let n = next_read node_forms leaf_only line bytes rest node_items e in
    only_read n.k (suc line) n.form n.zs bytes n.more rest n.is_form n.is_line n.behind
tree_read (suc left) line bytes rest e =
    let n = next_read node_forms (node_below (tree_lines left)) line bytes rest node_items e in
    node_read left (tree_lines left) (tree_read left) n.k (suc line)
    n.form n.zs bytes n.more rest n.is_form n.is_line
    n.behind

-- ---- one line for each node

mutual
  pub node_line_count : (T : BoundTree) → length (node_lines T) ≡ node_count T
  node_line_count (leaf x) = refl
  node_line_count (branch i c ks) = ap suc (children_line_count ks)
  node_line_count (merge i a b k) = ap suc (node_line_count k)

  children_line_count : (ks : BoundTrees) → length (children_lines ks) ≡ node_counts ks
  children_line_count no_bound_trees = refl
  children_line_count (more_bound_trees k ks) =
      length-append (node_lines k) (children_lines ks)
      ∙ (λ j. node_line_count k j + children_line_count ks j)
