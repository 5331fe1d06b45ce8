-- The first reason why a certificate is not valid, in the order in which it is checked: mode, unit, lower end, the
-- nodes of the tree in preorder, the number of inner nodes, upper end. (Own.)
use Rattle.std.specs.Prelude.{ℕ, zero, suc, Bool, true, not, ◌&&◌, ◌==◌, nat_lt, cond, ℤ, pos, List, [], ◌∷◌, ◌++◌}
use Rattle.std.specs.Prelude.{length, get_or, Option, Some, None, is_none}
use Rattle.std.specs.Bool.{beq}
use Rattle.std.specs.Ordering.{int_eq}
use Rattle.std.specs.Option.{option_or}
use Rattle.dp_spec.specs.Model.{Model}
use Rattle.dp_spec.specs.Mode.{is_exact_mode, unit_of}
use Rattle.dp_spec.specs.Front.{AgentFront}
use Rattle.dp_spec.specs.Arithmetic.{Arithmetic}
use Rattle.dp_spec.specs.Wide.{is_wide}
use Rattle.dp_spec.specs.UnequalPlaces.{first_unequal}
use Rattle.dp_spec.specs.SharedWorth.{shared_worth_in}
use Rattle.dp_spec.specs.BoundTree.{BoundTree, branch, child_count, greatest_leaf, inner_count, leaf, merge}
use Rattle.dp_spec.specs.Certificate.{Certificate, arithmetic_for}
use Rattle.dp_spec.specs.Qualities.{Node, certificate_nodes}

-- Why a certificate is not valid: what stands in it is not what the definition gives, which is said with it. Nodes
-- are numbered in preorder from 0.
pub data Reason : Type 0 where
  -- the mode, the unit, the lower end
  mode_is : Bool → Reason
  unit_is : ℤ → Reason
  lower_is : ℤ → Reason
  -- a branch or a merge that may not stand at its node
  no_place : ℕ → Reason
  -- a branch whose agent has another number of actions
  children_are : ℕ → ℕ → Reason
  -- a merge of two classes that differ first at a place
  unequal_at : ℕ → ℕ → Reason
  -- a leaf with another bound
  bound_is : ℕ → ℤ → Reason
  -- the number of branches and merges, the upper end
  inner_is : ℕ → Reason
  upper_is : ℤ → Reason

-- a reason where a test fails
abbrev pub unless : Bool → Reason → Option Reason
unless test reason = cond test None (Some reason)

-- the first reason of a list
abbrev pub first_of : List (Option Reason) → Option Reason
first_of [] = None
first_of (r ∷ rs) = option_or r (first_of rs)

-- ---- the nodes

-- class c of agent i exists and has no action
abbrev pub is_unassigned : ℕ → ℕ → List AgentFront → Bool
is_unassigned i c [] = not true
is_unassigned zero c (d ∷ ds) = nat_lt c (length d.chosen) && is_none (get_or d.chosen c None)
is_unassigned (suc i) c (d ∷ ds) = is_unassigned i c ds

-- a step is left at a node, and it is not wide
abbrev pub may_refine : Model → ℕ → Node → Bool
may_refine m h n = nat_lt n.front.stage h && not (is_wide m h n.above n.front)

-- whether a branch on class c of agent i may stand at a node
abbrev pub may_branch : Model → ℕ → Node → ℕ → ℕ → Bool
may_branch m h n i c = may_refine m h n && is_unassigned i c n.front.agents

-- whether a merge of classes a and b of agent i may stand there, if these are equivalent
abbrev pub may_merge : Arithmetic → Model → ℕ → Node → ℕ → ℕ → ℕ → Bool
may_merge A m h n i a b =
    A.is_exact && (may_refine m h n && (nat_lt a b && (is_unassigned i a n.front.agents && is_unassigned i b
    n.front.agents)))

-- the reason at a place where two classes differ
abbrev pub unequal_reason : ℕ → Option ℕ → Option Reason
unequal_reason k None = None
unequal_reason k (Some p) = Some (unequal_at k p)

-- the first reason at node k with this tree
abbrev pub tree_reason : Arithmetic → Model → ℕ → ℕ → Node → BoundTree → Option Reason
tree_reason A m h k n (leaf x) = unless (int_eq x n.cap) (bound_is k n.cap)
tree_reason A m h k n (branch i c ks) =
    option_or (unless (may_branch m h n i c) (no_place k))
    (unless (child_count ks == get_or m.actions i 0) (children_are k (get_or m.actions i 0)))
tree_reason A m h k n (merge i a b below) =
    option_or (unless (may_merge A m h n i a b) (no_place k)) (unequal_reason k (first_unequal m n.front i a b))

-- for each of these nodes, which are numbered from k on, its first reason
abbrev pub node_reasons : Arithmetic → Model → ℕ → ℕ → List Node → List (Option Reason)
node_reasons A m h k [] = []
node_reasons A m h k (n ∷ ns) = tree_reason A m h k n n.tree ∷ node_reasons A m h (suc k) ns

-- ---- the certificate

-- what the lower end has to be
abbrev pub lower_of : Model → Certificate → ℤ
lower_of m c = (shared_worth_in (arithmetic_for m c) m c.horizon c.policy).low

-- the first reason why a certificate of its version is not valid, or none
abbrev pub first_reason : Model → Certificate → Option Reason
first_reason m c =
    first_of (unless (beq c.is_exact (is_exact_mode m c.horizon)) (mode_is (is_exact_mode m c.horizon))
    ∷ unless (int_eq c.unit (pos (unit_of m c.horizon))) (unit_is (pos (unit_of m c.horizon)))
    ∷ unless (int_eq c.lower (lower_of m c)) (lower_is (lower_of m c))
    ∷ (node_reasons (arithmetic_for m c) m c.horizon 0 (certificate_nodes m c)
    ++ unless (c.inner == inner_count c.tree) (inner_is (inner_count c.tree))
    ∷ unless (int_eq c.upper (greatest_leaf c.tree)) (upper_is (greatest_leaf c.tree))
    ∷ []))
