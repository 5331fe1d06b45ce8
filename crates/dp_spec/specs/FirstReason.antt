-- What the first reason why a certificate is not valid says of it. (Own.)
use Rattle.std.specs.Prelude.{ℕ, ◌≡◌, ℤ, pos, List, ◌∷◌, ◌++◌, length, get_or}
use Rattle.dp_spec.specs.Model.{Model}
use Rattle.dp_spec.specs.Mode.{is_exact_mode, unit_of}
use Rattle.dp_spec.specs.UnequalPlaces.{IsFirstUnequal}
use Rattle.dp_spec.specs.BoundTree.{BoundTree, branch, child_count, greatest_leaf, inner_count, leaf, merge}
use Rattle.dp_spec.specs.Certificate.{Certificate, arithmetic_for}
use Rattle.dp_spec.specs.Qualities.{Node, certificate_nodes}
use Rattle.dp_spec.specs.RightNodes.{AreRightNodes, MayStand}
use Rattle.dp_spec.specs.Reasons.{Reason, bound_is, children_are, inner_is, lower_is, lower_of, mode_is, no_place}
use Rattle.dp_spec.specs.Reasons.{unequal_at, unit_is, upper_is}

-- the mode, the unit and the lower end are right
pub record HasRightHead (m : Model) (c : Certificate) : Type 0 where
  pub mode : c.is_exact ≡ is_exact_mode m c.horizon
  pub unit : c.unit ≡ pos (unit_of m c.horizon)
  pub lower : c.lower ≡ lower_of m c

-- Node k is the first at which something is wrong, and Wrong says what of it and its tree.
pub record IsFirstWrong (m : Model) (c : Certificate) (k : ℕ) (Wrong : Node → BoundTree → Type 0) : Type 0 where
  pub head : HasRightHead m c
  pub before : List Node
  pub node : Node
  pub after : List Node
  pub nodes : certificate_nodes m c ≡ before ++ node ∷ after
  pub number : length before ≡ k
  pub right : AreRightNodes (arithmetic_for m c) m c.horizon before
  pub wrong : Wrong node node.tree

-- a branch that may stand where it does has another number of children than its agent, with so many actions
abbrev pub HasOtherChildren : Model → Certificate → ℕ → Node → BoundTree → Type 0
HasOtherChildren m c count n (branch i k ks) =
    MayStand (arithmetic_for m c) m c.horizon n (branch i k ks) × (count ≡ get_or m.actions i 0)
    × ¬ (child_count ks ≡ count)
HasOtherChildren m c count n T = ⊥

-- the classes of a merge that may stand where it does differ first at place p
abbrev pub HasUnequalClasses : Model → Certificate → ℕ → Node → BoundTree → Type 0
HasUnequalClasses m c p n (merge i a b k) =
    MayStand (arithmetic_for m c) m c.horizon n (merge i a b k) × IsFirstUnequal m n.front i a b p
HasUnequalClasses m c p n T = ⊥

-- a leaf states another bound than the least of its path, which is x
abbrev pub HasOtherBound : ℤ → Node → BoundTree → Type 0
HasOtherBound x n (leaf y) = (x ≡ n.cap) × ¬ (y ≡ x)
HasOtherBound x n T = ⊥

-- the head and all nodes are right
pub record HasRightNodes (m : Model) (c : Certificate) : Type 0 where
  pub head : HasRightHead m c
  pub nodes : AreRightNodes (arithmetic_for m c) m c.horizon (certificate_nodes m c)

-- What a reason says where it is the first: all that is checked before it is right, and what it names is not what the
-- certificate states but what the definitions give.
abbrev pub IsFirstReason : Model → Certificate → Reason → Type 0
IsFirstReason m c (mode_is e) = (e ≡ is_exact_mode m c.horizon) × ¬ (c.is_exact ≡ e)
IsFirstReason m c (unit_is u) =
    (c.is_exact ≡ is_exact_mode m c.horizon) × (u ≡ pos (unit_of m c.horizon)) × ¬ (c.unit ≡ u)
IsFirstReason m c (lower_is x) =
    (c.is_exact ≡ is_exact_mode m c.horizon) × (c.unit ≡ pos (unit_of m c.horizon)) × (x ≡ lower_of m c)
    × ¬ (c.lower ≡ x)
IsFirstReason m c (no_place k) = IsFirstWrong m c k (λ n T. ¬ MayStand (arithmetic_for m c) m c.horizon n T)
IsFirstReason m c (children_are k count) = IsFirstWrong m c k (HasOtherChildren m c count)
IsFirstReason m c (unequal_at k p) = IsFirstWrong m c k (HasUnequalClasses m c p)
IsFirstReason m c (bound_is k x) = IsFirstWrong m c k (HasOtherBound x)
IsFirstReason m c (inner_is count) = HasRightNodes m c × (count ≡ inner_count c.tree) × ¬ (c.inner ≡ count)
IsFirstReason m c (upper_is x) =
    HasRightNodes m c × (c.inner ≡ inner_count c.tree) × (x ≡ greatest_leaf c.tree) × ¬ (c.upper ≡ x)
