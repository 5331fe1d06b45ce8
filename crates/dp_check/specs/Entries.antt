-- What is known where a branch or a merge is entered. (Own.)
use Rattle.std.specs.Prelude.{ℕ, ◌<◌, ◌≡◌, false, get_or}
use Rattle.dp_spec.specs.BoundTree.{BoundTree, merge}
use Rattle.dp_spec.specs.Merge.{merged_front}
use Rattle.dp_spec.specs.Model.{Model}
use Rattle.dp_spec.specs.Steps.{IsUnassigned}
use Rattle.dp_spec.specs.Wide.{is_wide}
use Rattle.dp_check.specs.declared.bounds.Bounds.{Bounds}
use Rattle.dp_check.specs.declared.node.Node.{Node}
use Rattle.dp_cluster.specs.declared.merge.MergeFault.{MergeFault}
use Rattle.dp_cluster.specs.declared.merge.MergeFault.TheVariants.{Assigned, Memory, Rounded, Same, Unequal}
use Rattle.dp_check.specs.declared.verdict.Reason.{Reason}
use Rattle.dp_check.specs.declared.verdict.Reason.TheVariants.{NotEqual}
use Rattle.dp_check.specs.declared.enter.Entered.{Entered}
use Rattle.dp_check.specs.declared.enter.Entered.TheVariants.{Below, Wrong}
use Rattle.dp_check.specs.declared.tally.Tally.{Tally}
use Rattle.dp_check.specs.Bounding.{arithmetic_of}
use Rattle.dp_check.specs.Nodes.{IsBelow, node_with}
use Rattle.dp_check.specs.Verdicts.{reason_of}
use Rattle.dp_check.specs.Walks.{entered, passed, stopped}

-- A branch on class c of agent i with so many children may stand at a node: a step is left, it is not wide, the class
-- is unassigned, and there is a child for each action.
pub record IsEnterable (m : Model) (b : Bounds) (n : Node) (i c count : ℕ) : Type 0 where
  pub stage : n.front.front.stage < b.fit.horizon
  pub narrow : is_wide m b.fit.horizon n.above n.front.front ≡ false
  pub unassigned : IsUnassigned i c n.front.front.agents
  pub children : count ≡ get_or m.actions i 0

-- A merge of classes a and c of agent i: its child's node, or the first reason there.
abbrev pub IsEntered : Model → Bounds → Node → ℕ → ℕ → ℕ → Tally → Tally → Entered → Type 0
IsEntered m b n i a c old new (Below child) =
    ((k : BoundTree) → entered (arithmetic_of m b) m b.fit.horizon (node_with (merge i a c k) n) old
    ≡ passed new)
    × IsBelow m b n (merged_front n.front.front i a c) child
IsEntered m b n i a c old new (Wrong r) =
    (k : BoundTree) → entered (arithmetic_of m b) m b.fit.horizon (node_with (merge i a c k) n) old
    ≡ stopped (reason_of r)

-- the faults of a merge of classes that may be merged if they are equivalent
abbrev pub MayFail : MergeFault → Type 0
MayFail (Unequal p) = Unit {0}
MayFail Memory = Unit {0}
MayFail Rounded = ⊥
MayFail Same = ⊥
MayFail Assigned = ⊥

-- the reason at a node for such a fault: the place at which the classes differ
abbrev pub NamesPlace : ℕ → MergeFault → Reason → Type 0
NamesPlace k fault r = (p : ℕ) × (fault ≡ Unequal p) × (r ≡ NotEqual k p)
