-- The grammar of certificate texts of both versions: what each line has to be, given the lines before it. (Own.)
use Rattle.std.specs.Prelude.{ℕ, zero, suc, ◌+◌, ℤ, pos, unsigned_abs, Bool, true, false, ◌==◌, cond, List, [], ◌∷◌}
use Rattle.std.specs.Prelude.{Option, codes}
use Rattle.dp_spec.specs.Model.{Model}
use Rattle.dp_spec.specs.BoundTree.{BoundTree, BoundTrees, leaf, branch, merge, no_bound_trees, more_bound_trees}
use Rattle.dp_spec.specs.Certificate.{Certificate}
use Rattle.dp_spec.specs.SharedPolicy.{SharedPolicy}
use Rattle.dp_spec.specs.TextLines.{Item}
use Rattle.dp_spec.specs.PolicyText.{horizon_form, title_form}
use Rattle.dp_spec.specs.CertificateText.{look_form, mode_form, signed_form, inner_form, leaf_form, branch_form}
use Rattle.dp_spec.specs.CertificateText.{merge_form}
use Rattle.dp_model.specs.Horizons.{horizon_limits, long_horizon_passed}
use Rattle.dp_model.specs.Limits.{first_passed}
use Rattle.dp_model.specs.declared.limit.Limit.TheVariants.{Depth}
use Rattle.dp_model.specs.declared.limit.TooLarge.{TooLarge}
use Rattle.dp_lines.specs.Grammar.{ends, passes, next, ◌>>=◌}
use Rattle.dp_cert.specs.PolicyGrammar.{Text, policy_grammar}
use Rattle.dp_lines.specs.Steps.{the_words, the_numbers, one_of, unless_passed, first_number, first_plain}

-- ---- the lines before the policy

-- the version
abbrev pub title_grammar : Text ℕ
title_grammar = do
  k ← one_of (title_form (codes "certificate") 1) (title_form (codes "certificate") 2)
  ends (k + 1)

-- the limit that a horizon passes in a version
unfoldable pub horizon_passed : Model → ℕ → ℕ → Option TooLarge
horizon_passed m version h = cond (version == 1) (first_passed (horizon_limits m h)) (long_horizon_passed h)

-- the horizon, which keeps its limits
abbrev pub horizon_grammar : Model → ℕ → Text ℕ
horizon_grammar m version = do
  zs ← the_numbers horizon_form
  kept ← unless_passed (horizon_passed m version (first_plain zs))
  ends (first_plain zs)

-- the unit and the ends of the interval
pub record Interval : Type 0 where
  pub unit : ℤ
  pub lower : ℤ
  pub upper : ℤ

abbrev pub interval_grammar : Text Interval
interval_grammar = do
  unit ← the_numbers (signed_form (codes "unit"))
  lower ← the_numbers (signed_form (codes "lower"))
  upper ← the_numbers (signed_form (codes "upper"))
  ends (record { unit = first_number unit; lower = first_number lower; upper = first_number upper })

-- what stands between the horizon and the policy
pub record Head : Type 0 where
  pub look : ℕ
  pub is_exact : Bool
  pub interval : Interval
  pub inner : ℕ

abbrev pub head_grammar : Text Head
head_grammar = do
  look ← the_numbers look_form
  mode ← one_of (mode_form true) (mode_form false)
  interval ← interval_grammar
  inner ← the_numbers inner_form
  title ← the_words (codes "policy" ∷ [])
  ends (record {
    look = first_plain look;
    is_exact = mode == 0;
    interval = interval;
    inner = first_plain inner;
  })

-- ---- the tree

-- one inner node more than a path may have
abbrev pub deepest : TooLarge
deepest = record { what = Depth; count = 2049 }

-- one tree after the other
abbrev pub repeated : Text BoundTree → ℕ → Text BoundTrees
repeated tree zero = ends no_bound_trees
repeated tree (suc left) = do
  first ← tree
  others ← repeated tree left
  ends (more_bound_trees first others)

-- the forms of a node's line: a leaf, a branch, a merge
abbrev pub node_forms : List (List Item)
node_forms = leaf_form ∷ branch_form ∷ merge_form ∷ []

-- what follows the line of a branch, below which such trees stand
abbrev pub branch_below : Text BoundTree → List ℤ → Text BoundTree
branch_below below (i ∷ c ∷ k ∷ []) = do
  kids ← repeated below (unsigned_abs k)
  ends (branch (unsigned_abs i) (unsigned_abs c) kids)
branch_below below zs = ends (leaf (pos 0))

-- what follows the line of a merge
abbrev pub merge_below : Text BoundTree → List ℤ → Text BoundTree
merge_below below (i ∷ a ∷ b ∷ []) = do
  kid ← below
  ends (merge (unsigned_abs i) (unsigned_abs a) (unsigned_abs b) kid)
merge_below below zs = ends (leaf (pos 0))

-- what follows a node's line of this form, where no inner node may stand
abbrev pub leaf_only : ℕ → List ℤ → Text BoundTree
leaf_only zero zs = ends (leaf (first_number zs))
leaf_only (suc form) zs = passes deepest

-- what follows a node's line of this form, where trees like this one may stand below it
abbrev pub node_below : Text BoundTree → ℕ → List ℤ → Text BoundTree
node_below below zero zs = ends (leaf (first_number zs))
node_below below (suc zero) zs = branch_below below zs
node_below below (suc (suc form)) zs = merge_below below zs

-- a tree in preorder with at most so many inner nodes on a path
abbrev pub tree_lines : ℕ → Text BoundTree
tree_lines zero = next node_forms leaf_only
tree_lines (suc left) = next node_forms (node_below (tree_lines left))

-- the lines behind the policy
abbrev pub tree_grammar : Text BoundTree
tree_grammar = do
  title ← the_words (codes "tree" ∷ [])
  tree ← tree_lines 2048
  end ← the_words (codes "end" ∷ [])
  ends tree

-- ---- the whole text

-- what the parts of a text say together
abbrev pub certificate_from : ℕ → ℕ → Head → SharedPolicy → BoundTree → Certificate
certificate_from version h head policy tree = record {
  version = version;
  horizon = h;
  look = head.look;
  is_exact = head.is_exact;
  unit = head.interval.unit;
  lower = head.interval.lower;
  upper = head.interval.upper;
  inner = head.inner;
  policy = policy;
  tree = tree;
}

-- the texts of certificates for a model
unfoldable pub certificate_grammar : Model → Text Certificate
certificate_grammar m = do
  version ← title_grammar
  h ← horizon_grammar m version
  head ← head_grammar
  policy ← policy_grammar m version h
  tree ← tree_grammar
  ends (certificate_from version h head policy tree)
