-- What a plan promises of the certificate that it gives. (Own.)
use Rattle.std.specs.Prelude.{ℕ, ◌<◌, ◌≤◌, ◌≡◌, ◌⊎◌, Bool, true, false, ℤ, ◌≤ℤ◌, ◌<ℤ◌, All, List}
use Rattle.dp_spec.specs.Model.{Model, joint_actions}
use Rattle.dp_spec.specs.ConstantPolicy.{constant_policy}
use Rattle.dp_spec.specs.FullPolicy.{full_policy}
use Rattle.dp_spec.specs.BoundTree.{BoundTree, BoundTrees, branch, leaf, merge, more_bound_trees, no_bound_trees}
use Rattle.dp_spec.specs.SharedPolicy.{unfolded}
use Rattle.dp_spec.specs.SharedForm.{IsSharedForm}
use Rattle.dp_spec.specs.SharedWorth.{low_worth}
use Rattle.dp_spec.specs.Certificate.{Certificate, IsValid, arithmetic_for}
use Rattle.dp_spec.specs.Qualities.{IfInner, IfLeaf, IsClosed, IsLean, IsMerged, IsRefined, IsRuled, Node, Place}
use Rattle.dp_spec.specs.Qualities.{certificate_nodes}

-- what a plan is asked for besides its horizon: the version of its certificate, the most branches and merges, the
-- look of its bounds, and whether it merges
pub record PlanOptions : Type 0 where
  pub version : ℕ
  pub nodes : ℕ
  pub look : ℕ
  pub merge : Bool

abbrev mutual
  -- the tree has no merge
  pub HasNoMerge : BoundTree → Type 0
  HasNoMerge (leaf x) = Unit {0}
  HasNoMerge (branch i c ks) = HaveNoMerge ks
  HasNoMerge (merge i a b k) = ⊥

  pub HaveNoMerge : BoundTrees → Type 0
  HaveNoMerge no_bound_trees = Unit {0}
  HaveNoMerge (more_bound_trees k ks) = HasNoMerge k × HaveNoMerge ks

-- a fact of a full leaf
abbrev pub IfFullLeaf : ℕ → Node → Type 0 → Type 0
IfFullLeaf h n P = IfLeaf n.tree (λ x. n.front.stage ≡ h → P)

-- the low worth of the constant policy of joint action a, in the version of a certificate
unfoldable pub constant_worth : Model → Certificate → ℕ → ℤ
constant_worth m c a = low_worth (arithmetic_for m c) m c.version c.horizon (constant_policy m c.horizon a)

-- the least joint action among those whose constant policies have the greatest low worth
pub record IsBestConstant (m : Model) (c : Certificate) (a : ℕ) : Type 0 where
  pub action : a < joint_actions m
  pub greatest : (b : ℕ) → b < joint_actions m → constant_worth m c b ≤ℤ constant_worth m c a
  pub least : (b : ℕ) → b < a → constant_worth m c b <ℤ constant_worth m c a

-- The promises of a plan over h steps by a branching rule.
pub record IsPlanned (m : Model) (May : List Place → ℕ
    → Type 0) (h : ℕ) (asked : PlanOptions) (c : Certificate) : Type 0 where
  -- the certificate is valid, with the horizon and the look that were asked for
  pub valid : IsValid m c
  pub horizon : c.horizon ≡ h
  pub look : c.look ≡ asked.look
  -- no more branches and merges than were allowed, and the tree is closed, or has as many, or nothing is left to be
  -- refined
  pub nodes : c.inner ≤ asked.nodes
  pub ended : IsClosed m c ⊎ (c.inner ≡ asked.nodes) ⊎ IsRefined m c
  pub lean : IsLean m c
  -- where it merges, and the mode is exact, no branch stands where two classes could be merged; else there is no
  -- merge
  pub merged : asked.merge ≡ true → c.is_exact ≡ true → IsMerged m c
  pub unmerged : asked.merge ≡ false → HasNoMerge c.tree
  -- the lower end is at least the low worth of every constant policy, and each inner node's least bound is above all
  -- of them
  pub constants : (a : ℕ) → a < joint_actions m → constant_worth m c a ≤ℤ c.lower
  pub inner_nodes : All (λ n. IfInner n.tree ((a : ℕ) → a < joint_actions m → constant_worth m c a <ℤ n.cap))
      (certificate_nodes m c)
  -- with no branch and no merge the policy is the best constant one
  pub best_constant : c.inner ≡ 0 → (a : ℕ) × IsBestConstant m c a
      × (unfolded c.policy ≡ constant_policy m c.horizon a)
  -- each branch stands where the rule may say
  pub ruled : IsRuled May m c
  -- the lower end is at least the low worth of the policy that each full leaf's front fixes
  pub full_leaves : All (λ n. IfFullLeaf c.horizon n (low_worth (arithmetic_for m c) m c.version c.horizon
      (full_policy m n.front) ≤ℤ c.lower)) (certificate_nodes m c)
  -- the version is that asked for, and a policy of version 2 is a shared form
  pub version : c.version ≡ asked.version
  pub shared_form : c.version ≡ 2 → IsSharedForm m c.horizon c.policy
