-- What a certificate claims of the policies of a model, in terms of policies and values alone.
use Rattle.std.specs.Prelude.{ℕ, ℤ, pos, ◌*ℤ◌, ◌≤ℤ◌, List}
use Rattle.dp_spec.specs.Model.{Model, value_scale}
use Rattle.dp_spec.specs.PolicyTree.{PolicyTree, IsPolicyOf}
use Rattle.dp_spec.specs.Value.{policy_value}
use Rattle.dp_spec.specs.SharedPolicy.{unfolded}
use Rattle.dp_spec.specs.Certificate.{Certificate}

-- No joint policy of h steps has an expected reward above x / unit. (The expected reward is the value over the value
-- scale.)
abbrev pub BoundsEveryPolicy : Model → ℕ → ℤ → ℤ → Type 0
BoundsEveryPolicy m h unit x =
    (qs : List PolicyTree) → IsPolicyOf m h qs → (policy_value m h qs *ℤ unit) ≤ℤ (x *ℤ pos (value_scale m h))

-- What the rows of the certificate mean is a joint policy, its expected reward lies in the interval, and no joint
-- policy has a greater one than the upper end.
pub record ClaimsHold (m : Model) (c : Certificate) : Type 0 where
  pub policy : IsPolicyOf m c.horizon (unfolded c.policy)
  pub above_lower :
      (c.lower *ℤ pos (value_scale m c.horizon)) ≤ℤ (policy_value m c.horizon (unfolded c.policy) *ℤ c.unit)
  pub below_upper :
      (policy_value m c.horizon (unfolded c.policy) *ℤ c.unit) ≤ℤ (c.upper *ℤ pos (value_scale m c.horizon))
  pub none_better : BoundsEveryPolicy m c.horizon c.unit c.upper

-- a joint policy of h steps of which no other has a greater value
pub record IsOptimal (m : Model) (h : ℕ) (qs : List PolicyTree) : Type 0 where
  pub policy : IsPolicyOf m h qs
  pub none_better : (others : List PolicyTree) → IsPolicyOf m h others
      → policy_value m h others ≤ℤ policy_value m h qs
