-- That the numbers of a certificate are of the types of a `Certificate`. (Own.)
use Rattle.std.specs.Prelude.{ℕ, ◌<◌, ◌^◌, FitsSigned}
use Rattle.std.specs.Int.{w128}
use Rattle.dp_spec.specs.BoundTree.{BoundTree, BoundTrees, leaf, branch, merge, no_bound_trees, more_bound_trees}
use Rattle.dp_spec.specs.Certificate.{Certificate}

-- a natural number of 32 bits
abbrev pub IsSmall : ℕ → Type 0
IsSmall n = n < 2 ^ 32

-- those of a tree
abbrev mutual
  pub HasTypedNumbers : BoundTree → Type 0
  HasTypedNumbers (leaf x) = FitsSigned w128 x
  HasTypedNumbers (branch i c ks) = IsSmall i × IsSmall c × HaveTypedNumbers ks
  HasTypedNumbers (merge i a b k) = IsSmall i × IsSmall a × IsSmall b × HasTypedNumbers k

  pub HaveTypedNumbers : BoundTrees → Type 0
  HaveTypedNumbers no_bound_trees = Unit {0}
  HaveTypedNumbers (more_bound_trees k ks) = HasTypedNumbers k × HaveTypedNumbers ks

-- the unit and the ends of the interval
pub record HasTypedEnds (c : Certificate) : Type 0 where
  pub unit : FitsSigned w128 c.unit
  pub lower : FitsSigned w128 c.lower
  pub upper : FitsSigned w128 c.upper

-- these, and the number of branches and merges
pub record HasTypedHead (c : Certificate) : Type 0 where
  pub ends : HasTypedEnds c
  pub inner : IsSmall c.inner

pub record IsTyped (c : Certificate) : Type 0 where
  pub head : HasTypedHead c
  pub tree : HasTypedNumbers c.tree
