-- What has to hold at each node by itself, so that a bound tree fits.
use Rattle.std.specs.Prelude.{ℕ, ◌<◌, ◌≡◌, false, IsTrue, All, List, get_or}
use Rattle.dp_spec.specs.Model.{Model}
use Rattle.dp_spec.specs.Steps.{IsUnassigned}
use Rattle.dp_spec.specs.Merge.{AreEquivalent}
use Rattle.dp_spec.specs.Arithmetic.{Arithmetic}
use Rattle.dp_spec.specs.Wide.{is_wide}
use Rattle.dp_spec.specs.BoundTree.{BoundTree, branch, child_count, leaf, merge}
use Rattle.dp_spec.specs.Qualities.{Node}

-- A branch or a merge may stand at a node: a step is left and it is not wide; the classes are unassigned, and those
-- of a merge, in exact arithmetic alone, have the smaller number first.
abbrev pub MayStand : Arithmetic → Model → ℕ → Node → BoundTree → Type 0
MayStand A m h n (leaf x) = Unit {0}
MayStand A m h n (branch i c ks) =
    (n.front.stage < h) × (is_wide m h n.above n.front ≡ false) × IsUnassigned i c n.front.agents
MayStand A m h n (merge i a b k) =
    (n.front.stage < h) × (is_wide m h n.above n.front ≡ false) × IsTrue A.is_exact × (a < b)
    × IsUnassigned i a n.front.agents × IsUnassigned i b n.front.agents

-- Nothing is wrong at a node with this tree: a leaf states the least bound of its path, a branch has one child for
-- each action of its agent, and the classes of a merge are equivalent.
abbrev pub IsRightTree : Arithmetic → Model → ℕ → Node → BoundTree → Type 0
IsRightTree A m h n (leaf x) = x ≡ n.cap
IsRightTree A m h n (branch i c ks) = MayStand A m h n (branch i c ks) × (child_count ks ≡ get_or m.actions i 0)
IsRightTree A m h n (merge i a b k) = MayStand A m h n (merge i a b k) × AreEquivalent m n.front i a b

-- nothing is wrong at a node
abbrev pub IsRightNode : Arithmetic → Model → ℕ → Node → Type 0
IsRightNode A m h n = IsRightTree A m h n n.tree

-- nothing is wrong at any of these nodes
abbrev pub AreRightNodes : Arithmetic → Model → ℕ → List Node → Type 0
AreRightNodes A m h ns = All (IsRightNode A m h) ns
