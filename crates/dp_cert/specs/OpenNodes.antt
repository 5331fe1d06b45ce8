-- Open nodes: branches and merges of which not all children are read, and what they make of a finished child.
use Rattle.std.specs.Prelude.{◌≡◌, ℕ, ℤ, zero, suc, ◌-◌, List, [], ◌∷◌, length, map, reverse, Option, Some, None}
use Rattle.std.specs.Prelude.{Result, Ok, Err}
use Rattle.dp_spec.specs.BoundTree.{BoundTree, BoundTrees, branch, merge, more_bound_trees}
use Rattle.dp_model.specs.declared.limit.TooLarge.{TooLarge}
use Rattle.dp_lines.specs.Grammar.{Fault, limit}
use Rattle.dp_lines.specs.Scanning.{Rest, front_of}
use Rattle.dp_tree.specs.declared.tree.Tree.{Tree}
use Rattle.dp_tree.specs.TreeValue.{bound_tree, bound_trees}
use Rattle.dp_cert.specs.declared.fault.CertFault.{CertFault}
use Rattle.dp_cert.specs.declared.fault.CertFault.TheVariants as faults
use Rattle.dp_cert.specs.declared.tree_text.Node.{Node}
use Rattle.dp_cert.specs.declared.tree_text.Given.{Given}
use Rattle.dp_cert.specs.declared.tree_text.Given.TheVariants as given
use Rattle.dp_cert.specs.declared.tree_text.Open.{Open}
use Rattle.dp_cert.specs.declared.tree_text.Open.TheVariants as opens
use Rattle.dp_cert.specs.CertificateGrammar.{deepest, leaf_only, node_below, repeated, tree_lines}
use Rattle.dp_cert.specs.NodeLines.{kind_of, numbers_of}
use Rattle.dp_lines.specs.Reading.{rest_at}
use Rattle.dp_cert.specs.PolicyGrammar.{Text}

-- a branch with the children so far, where so many follow the one that is being read; or a merge
pub data Frame : Type 0 where
  branch_frame : ℕ → ℕ → List BoundTree → ℕ → Frame
  merge_frame : ℕ → ℕ → ℕ → Frame

-- the frame of an open node
abbrev pub frame_of : Open → Frame
frame_of (opens.Branch i c kids left) = branch_frame i c (map bound_tree kids.items) left
frame_of (opens.Merge i a b) = merge_frame i a b

-- the deepest first, which stands last in the list
abbrev pub frames_of : List Open → List Frame
frames_of waiting = map frame_of (reverse waiting)

-- what is read from a line on
abbrev pub Run : Type 0
Run = ℕ → List ℕ → Result (Rest BoundTree) (Fault TooLarge)

-- what is made of something that is read, and of what is behind it
abbrev pub given_to : {V : Type 0} → Result (Rest V) (Fault TooLarge) → (V → Run)
    → Result (Rest BoundTree) (Fault TooLarge)
given_to (Ok rest) K = K rest.value rest.line rest.bytes
given_to (Err fault) K = Err fault

-- trees behind those of a list
abbrev pub behind_children : List BoundTree → BoundTrees → BoundTrees
behind_children [] ts = ts
behind_children (k ∷ ks) ts = more_bound_trees k (behind_children ks ts)

-- The whole tree, where the open nodes are given a tree as a child of the deepest, and the others are read: below the
-- deepest so many inner nodes may stand on a path.
abbrev pub closed : ℕ → List Frame → BoundTree → Run
closed left [] t line bytes = Ok (rest_at t line bytes)
closed left (branch_frame i c kids more ∷ frames) t line bytes =
    given_to (front_of (repeated (tree_lines left) more) line bytes)
    (λ others. closed (suc left) frames (branch i c (behind_children kids (more_bound_trees t others))))
closed left (merge_frame i a b ∷ frames) t line bytes = closed (suc left) frames (merge i a b t) line bytes

-- the whole tree, where a child of the deepest is read
abbrev pub opened : ℕ → List Frame → Run
opened left frames line bytes = given_to (front_of (tree_lines left) line bytes) (closed left frames)

-- how many inner nodes may stand on a path below the deepest of these
abbrev pub left_below : List Frame → ℕ
left_below frames = 2048 - length frames

-- what follows the line of a node, where so many inner nodes are left
abbrev pub after_line : ℕ → ℕ → List ℤ → Text BoundTree
after_line zero = leaf_only
after_line (suc left) = node_below (tree_lines left)

-- the whole tree, where the line of a child of the deepest is read
abbrev pub behind_node : Node → List Frame → Run
behind_node node frames line bytes =
    given_to (front_of (after_line (left_below frames) (kind_of node) (numbers_of node)) line bytes)
    (closed (left_below frames) frames)

-- one inner node more than a path may have, or want of memory
abbrev pub IsDeep : CertFault → ℕ → Type 0
IsDeep (faults.At line why) count = ⊥
IsDeep (faults.TooLarge passed) count = (passed ≡ deepest) × (count ≡ 2048)
IsDeep faults.Memory count = Unit {0}

-- what is to be read is what the open nodes are now, or the tree is finished
abbrev pub IsOpenAt : Run → List Frame → Option Tree → Type 0
IsOpenAt run frames (Some t) = (line : ℕ) (bytes : List ℕ) → run line bytes
    ≡ Ok (rest_at (bound_tree t) line bytes)
IsOpenAt run frames None = (line : ℕ) (bytes : List ℕ) → run line bytes
    ≡ opened (left_below frames) frames line bytes

-- a node is put below open nodes
abbrev pub Places : Node → List Frame → List Frame → Result (Option Tree) CertFault → Type 0
Places node before after (Ok tree) = IsOpenAt (behind_node node before) after tree
Places node before after (Err (faults.At line why)) = ⊥
Places node before after (Err (faults.TooLarge passed)) =
    (line : ℕ) (bytes : List ℕ) → behind_node node before line bytes ≡ Err (limit passed)
Places node before after (Err faults.Memory) = Unit {0}

-- a tree is given to the deepest open node
abbrev pub Closes : BoundTree → List Frame → List Frame → Result (Option Tree) CertFault → Type 0
Closes t before after (Ok tree) = IsOpenAt (closed (left_below before) before t) after tree
Closes t before after (Err (faults.At line why)) = ⊥
Closes t before after (Err (faults.TooLarge passed)) = ⊥
Closes t before after (Err faults.Memory) = Unit {0}

-- a frame that is given a tree is a whole tree, or waits for more
abbrev pub IsGiven : Frame → BoundTree → Given → Type 0
IsGiven frame t (given.Whole whole) =
    (left : ℕ) (frames : List Frame) (line : ℕ) (bytes : List ℕ)
    → closed left (frame ∷ frames) t line bytes ≡ closed (suc left) frames (bound_tree whole) line bytes
IsGiven frame t (given.Waits node) =
    (left : ℕ) (frames : List Frame) (line : ℕ) (bytes : List ℕ)
    → closed left (frame ∷ frames) t line bytes ≡ opened left (frame_of node ∷ frames) line bytes

-- a branch with these children is whole, or waits for more
abbrev pub IsBranchWith : ℕ → ℕ → List BoundTree → ℕ → Given → Type 0
IsBranchWith i c kids left (given.Whole whole) = (left ≡ 0) × (bound_tree whole ≡ branch i c (bound_trees kids))
IsBranchWith i c kids left (given.Waits node) = (more : ℕ) × (left ≡ suc more)
    × (frame_of node ≡ branch_frame i c kids more)
