-- The trees of a joint policy as an array holds them, and that their worth can be computed in an arithmetic.
use Rattle.std.specs.Prelude.{ℕ, ◌+◌, ◌≡◌, List, map, take}
use Rattle.std.proofs.Common.{Bor}
use Rattle.dp_spec.specs.declared.span.Span.{Span}
use Rattle.dp_spec.specs.Model.{IsModel, Model}
use Rattle.dp_spec.specs.PolicyTree.{IsPolicyOf, PolicyTree}
use Rattle.dp_spec.specs.Arithmetic.{Arithmetic}
use Rattle.dp_spec.specs.Calls.{Calls}
use Rattle.dp_spec.specs.Sizes.{AreWeights, CanUpdateWeights, CanReward}
use Rattle.dp_spec.specs.SizesOfEarnings.{CanEvaluate}
use Rattle.dp_spec.specs.Zeros.{KeepsZero}
use Rattle.dp_policy.specs.declared.tree.PTree.{PTree}
use Rattle.dp_policy.specs.TreeValue.{policy_tree}

-- the policy trees of the first n of them
abbrev pub first_trees : ℕ → List (Bor PTree) → List PolicyTree
first_trees n trees = map (λ (t : Bor PTree). policy_tree t.now) (take n trees)

-- From weights of a time from which r steps are left the worth of a joint policy can be computed.
pub record IsEvaluable (A : Arithmetic) (C : Calls) (m : Model) (r : ℕ) (ws : ℕ → Span) (qs : List PolicyTree)
    : Type 0 where
  pub model : IsModel m
  pub zeros : KeepsZero A
  pub horizon : ℕ
  pub update : CanUpdateWeights A C m horizon
  pub reward : CanReward A C m horizon
  pub evaluate : CanEvaluate A m horizon
  pub time : ℕ
  pub left : time + r ≡ horizon
  pub weights : AreWeights A.is_exact m time ws
  pub policy : IsPolicyOf m r qs
