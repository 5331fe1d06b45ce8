-- How long the paths of bound trees are, and how many children their branches have.
use Rattle.std.specs.Prelude.{ℕ, ◌+◌, ◌≤◌, ℤ}
use Rattle.dp_spec.specs.Model.{IsModel, Model}
use Rattle.dp_spec.specs.Mode.{own_history_count}
use Rattle.dp_spec.specs.Arithmetic.{Arithmetic}
use Rattle.dp_spec.specs.BoundTree.{BoundTree, HasSmallBranches, depth_of}
use Rattle.dp_spec.specs.Front.{Front}
use Rattle.dp_spec.specs.Fitting.{FitsFront}
use Rattle.dp_spec.specs.WellFormed.{IsFront}
use Rattle.dp_spec.specs.Certificate.{Certificate, FitsRoot, IsValid}

-- on a path of a tree that fits a well-formed front there are at most as many branches and merges as own histories
-- from the front's stage on
abbrev pub PathsBelowAFrontAreShort : Type 0
PathsBelowAFrontAreShort =
    (A : Arithmetic) (m : Model) (h look above : ℕ) (T : BoundTree) (F : Front) (cap : ℤ) → IsFront m h F →
    FitsFront A m h look above T F cap →
    depth_of T + own_history_count m.observations F.stage ≤ own_history_count m.observations h

-- on a path of a tree that fits the root front there are at most as many as own histories shorter than the horizon
abbrev pub PathsBelowTheRootAreShort : Type 0
PathsBelowTheRootAreShort =
    (A : Arithmetic) (m : Model) (h look : ℕ) (T : BoundTree) → IsModel m → FitsRoot A m h look T →
    depth_of T ≤ own_history_count m.observations h

-- at any horizon a path of a tree that fits the root front has at most 2048 of them
abbrev pub PathsBelowTheRootAreLimited : Type 0
PathsBelowTheRootAreLimited =
    (A : Arithmetic) (m : Model) (h look : ℕ) (T : BoundTree) → FitsRoot A m h look T → depth_of T ≤ 2048

-- so a path of a valid certificate's tree, of either version, has at most 2048 of them
abbrev pub PathsOfValidTreesAreShort : Type 0
PathsOfValidTreesAreShort = (m : Model) (c : Certificate) → IsValid m c → depth_of c.tree ≤ 2048

-- each branch of a tree that fits the root front has from 1 to 256 children
abbrev pub FittingBranchesAreSmall : Type 0
FittingBranchesAreSmall =
    (A : Arithmetic) (m : Model) (h look : ℕ) (T : BoundTree) → IsModel m → FitsRoot A m h look T
    → HasSmallBranches T
