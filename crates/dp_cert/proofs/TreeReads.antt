-- The lines of a bound tree are read as the tree.
use Rattle.std.proofs.Common.{◌≡◌, ℕ, zero, suc, ◌+◌, ◌≤◌, List, [], ◌∷◌, ◌++◌, max, refl, sym, subst, add-one}
use Rattle.std.proofs.Common.{append_assoc, arith}
use Rattle.std.specs.Prelude.{pos, codes}
use Rattle.dp_spec.specs.BoundTree.{BoundTree, BoundTrees, branch, child_count, depth_of, greatest_depth, leaf, merge}
use Rattle.dp_spec.specs.BoundTree.{more_bound_trees, no_bound_trees}
use Rattle.dp_spec.specs.CertificateText.{branch_form, children_lines, leaf_form, merge_form, node_lines}
use Rattle.dp_spec.specs.TextLines.{AllAllowed, Line}
use Rattle.dp_model.specs.declared.limit.TooLarge.{TooLarge}
use Rattle.dp_laws.proofs.WholeTexts.{AllAllowed-parts}
use Rattle.dp_lines.specs.Grammar.{ends, ◌>>=◌}
use Rattle.dp_lines.specs.Steps.{the_words}
use Rattle.dp_cert.specs.CertificateGrammar.{repeated, tree_grammar, tree_lines}
use Rattle.dp_cert.proofs.LineReads.{Reads, reads_bind, reads_words}
use Rattle.dp_cert.proofs.ReadCertificates.{tree_part_lines}

first_least : (a b c : ℕ) → max a b ≤ c → a ≤ c
first_least a b c le = grind arith

others_least : (a b c : ℕ) → max a b ≤ c → b ≤ c
others_least a b c le = grind arith

mutual
  pub tree_reads : (left : ℕ) (T : BoundTree) (rest : List Line) → depth_of T ≤ left → AllAllowed (node_lines T)
      → Reads (tree_lines left) (node_lines T ++ rest) T rest
  tree_reads zero (leaf z) rest deep a = (0, leaf_form, z ∷ [], rest, refl, a.0, refl, (refl, refl))
  tree_reads zero (branch i c ks) rest deep a = absurd (omega (arith, deep))
  tree_reads zero (merge i u v k) rest deep a = absurd (omega (arith, deep))
  tree_reads (suc left) (leaf z) rest deep a = (0, leaf_form, z ∷ [], rest, refl, a.0, refl, (refl, refl))
  tree_reads (suc left) (branch i c ks) rest deep a = (
    1,
    branch_form,
    pos i ∷ pos c ∷ pos (child_count ks) ∷ [],
    children_lines ks ++ rest,
    refl,
    a.0,
    refl,
    reads_bind (repeated (tree_lines left) (child_count ks)) (λ kids. ends (branch i c kids))
        (children_lines ks ++ rest) rest rest ks (branch i c ks)
        (children_reads left ks rest (omega (arith, deep)) a.1) (refl, refl),
  )
  tree_reads (suc left) (merge i u v k) rest deep a = (
    2,
    merge_form,
    pos i ∷ pos u ∷ pos v ∷ [],
    node_lines k ++ rest,
    refl,
    a.0,
    refl,
    reads_bind (tree_lines left) (λ kid. ends (merge i u v kid)) (node_lines k ++ rest) rest rest k (merge i u v k)
        (tree_reads left k rest (omega (arith, deep)) a.1) (refl, refl),
  )

  children_reads : (left : ℕ) (ks : BoundTrees) (rest : List Line) → greatest_depth ks ≤ left
      → AllAllowed (children_lines ks)
      → Reads (repeated (tree_lines left) (child_count ks)) (children_lines ks ++ rest) ks rest
  children_reads left no_bound_trees rest deep a = (refl, refl)
  children_reads left (more_bound_trees k ks) rest deep a =
      let parts = AllAllowed-parts (node_lines k) (children_lines ks) a in
      let first = tree_reads left k (children_lines ks ++ rest)
      (first_least (depth_of k) (greatest_depth ks) left deep) parts.0 in
      let others = children_reads left ks rest (others_least (depth_of k) (greatest_depth ks) left deep) parts.1 in
      subst (λ n. Reads (repeated (tree_lines left) n) ((node_lines k ++ children_lines ks) ++ rest)
      (more_bound_trees k ks) rest) (sym (add-one (child_count ks)))
      (subst (λ (l : List Line). Reads (repeated (tree_lines left) (suc (child_count ks))) l
      (more_bound_trees k ks) rest)
      (sym (append_assoc (node_lines k) (children_lines ks) rest))
      (reads_bind (tree_lines left) (λ one. repeated (tree_lines left) (child_count ks) >>= λ more. ends
      (more_bound_trees one more)) (node_lines k ++ (children_lines ks ++ rest)) (children_lines ks ++ rest) rest k
      (more_bound_trees k ks) first
      (reads_bind (repeated (tree_lines left) (child_count ks)) (λ more. ends (more_bound_trees k more))
      (children_lines ks ++ rest) rest rest ks (more_bound_trees k ks) others (refl, refl))))

-- with the lines before it and behind it
pub tree_part_reads : (T : BoundTree) → depth_of T ≤ 2048 → AllAllowed (tree_part_lines T)
    → Reads tree_grammar (tree_part_lines T) T []
tree_part_reads T deep a =
    let tree = AllAllowed-parts (node_lines T) _ a.1 in
    reads_bind (the_words (codes "tree" ∷ [])) (λ title. tree_lines 2048 >>= λ tree. the_words (codes "end" ∷ [])
    >>= λ end. ends tree) (tree_part_lines T) _ [] tt T (reads_words TooLarge (codes "tree" ∷ []) _)
    (reads_bind (tree_lines 2048) (λ tree. the_words (codes "end" ∷ []) >>= λ end. ends tree) _ _ [] T T
    (tree_reads 2048 T _ deep tree.0)
    (reads_bind {L = TooLarge} (the_words (codes "end" ∷ [])) (λ end. ends T) _ [] [] tt T
    (reads_words TooLarge (codes "end" ∷ []) [])
    (refl, refl)))
