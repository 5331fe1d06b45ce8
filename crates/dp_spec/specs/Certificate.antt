-- Certificates: a joint policy, an interval, and a bound tree that shows its upper end. (Own.)
use Rattle.std.specs.Prelude.{ℕ, ◌^◌, ◌≤◌, ◌≡◌, ◌⊎◌, Bool, ℤ, pos}
use Rattle.dp_spec.specs.Model.{Model}
use Rattle.dp_spec.specs.SharedPolicy.{SharedPolicy, IsSharedOf}
use Rattle.dp_spec.specs.PlainForm.{IsPlain}
use Rattle.dp_spec.specs.SharedWorth.{shared_worth_in}
use Rattle.dp_spec.specs.Mode.{IsWithinVersion, is_exact_mode, unit_of}
use Rattle.dp_spec.specs.Steps.{root_front}
use Rattle.dp_spec.specs.Arithmetic.{Arithmetic, arithmetic}
use Rattle.dp_spec.specs.BoundTree.{BoundTree, HasSmallBranches, depth_of, greatest_leaf, inner_count, node_count}
use Rattle.dp_spec.specs.Fitting.{FitsFront, front_bound}

-- A certificate of a version, 1 or 2. Lower and upper are the ends of its interval of expected rewards, counted in
-- the unit; `look` is that of its bounds, and `inner` is how many branches and merges its tree has. Its joint policy
-- is written in shared rows, which in version 1 are one for each own history.
pub record Certificate : Type 0 where
  pub version : ℕ
  pub horizon : ℕ
  pub look : ℕ
  pub is_exact : Bool
  pub unit : ℤ
  pub lower : ℤ
  pub upper : ℤ
  pub inner : ℕ
  pub policy : SharedPolicy
  pub tree : BoundTree

-- The version is 1 or 2, and the policy is a shared policy for the model, which in version 1 is plain.
pub record HasPolicyOfVersion (m : Model) (c : Certificate) : Type 0 where
  pub version : (c.version ≡ 1) ⊎ (c.version ≡ 2)
  pub shared : IsSharedOf m c.horizon c.policy
  pub plain : c.version ≡ 1 → IsPlain m c.horizon c.policy

-- What is asked of a certificate before it is checked against a model, or written: its horizon and its look are
-- within their limits, so are the size of its tree, the paths and the branches of it, and its policy is one of its
-- version.
pub record IsCertificateOf (m : Model) (c : Certificate) : Type 0 where
  pub within : IsWithinVersion m c.horizon c.version
  pub look : (1 ≤ c.look) × (c.look ≤ 16)
  pub policy : HasPolicyOfVersion m c
  pub nodes : node_count c.tree ≤ 2 ^ 28
  pub depth : depth_of c.tree ≤ 2048
  pub children : HasSmallBranches c.tree

-- the arithmetic of a certificate's mode
abbrev pub arithmetic_for : Model → Certificate → Arithmetic
arithmetic_for m c = arithmetic c.is_exact m.scales

-- the tree fits the root front
abbrev pub FitsRoot : Arithmetic → Model → ℕ → ℕ → BoundTree → Type 0
FitsRoot A m h look T = FitsFront A m h look 0 T (root_front m) (front_bound A m h look (root_front m))

-- a certificate is valid for a model
pub record IsValid (m : Model) (c : Certificate) : Type 0 where
  pub within : IsWithinVersion m c.horizon c.version
  pub mode : c.is_exact ≡ is_exact_mode m c.horizon
  pub unit : c.unit ≡ pos (unit_of m c.horizon)
  pub policy : HasPolicyOfVersion m c
  -- the worth of its policy, rounded down
  pub lower : c.lower ≡ (shared_worth_in (arithmetic_for m c) m c.horizon c.policy).low
  pub tree : FitsRoot (arithmetic_for m c) m c.horizon c.look c.tree
  pub inner : c.inner ≡ inner_count c.tree
  pub upper : c.upper ≡ greatest_leaf c.tree
