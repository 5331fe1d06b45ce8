-- What was looked ahead before, kept by the steps that are left, the look and the weights. (Own.)
use Rattle.std.specs.Prelude.{ℕ, ◌-◌, ◌/◌, ◌%◌, ◌≡◌, All, ℤ, List, [], ◌∷◌, map}
use Rattle.std.specs.List.{range_with_len}
use Rattle.dp_spec.specs.declared.span.Span.{Span}
use Rattle.dp_spec.specs.Arithmetic.{Arithmetic}
use Rattle.dp_spec.specs.Model.{Model, joint_actions}
use Rattle.dp_spec.specs.Quantities.{action_look_ahead_in, look_ahead_in}
use Rattle.dp_pomdp.specs.Looking.{weights_of}

-- the steps that are left, the look, the weights, and what is kept of them
pub record KeptLook : Type 0 where
  pub rest : ℕ
  pub look : ℕ
  pub weights : List Span
  pub values : List ℤ

abbrev pub kept_look : ℕ → ℕ → List Span → List ℤ → KeptLook
kept_look r k ws vs = record { rest = r; look = k; weights = ws; values = vs }

-- what is kept is what f gives
abbrev pub IsKept : (ℕ → ℕ → List Span → List ℤ) → KeptLook → Type 0
IsKept f k = k.values ≡ f k.rest k.look k.weights

abbrev pub AreKept : (ℕ → ℕ → List Span → List ℤ) → List KeptLook → Type 0
AreKept f ks = All (IsKept f) ks

-- the look-ahead from weights
abbrev pub look_of : Arithmetic → Model → ℕ → ℕ → List Span → List ℤ
look_of A m r k ws = look_ahead_in A m r (weights_of ws) k ∷ []

-- the look-ahead of each joint action from weights, where r steps are left with it
abbrev pub row_of : Arithmetic → Model → ℕ → ℕ → List Span → List ℤ
row_of A m r k ws =
    map (λ a. action_look_ahead_in A m (r - 1) (weights_of ws) a k) (range_with_len 0 (joint_actions m))

-- the look-ahead of one joint action from weights, where r steps are left with it: the number n stands for the look
-- n / 256 and the joint action n % 256
abbrev pub action_of : Arithmetic → Model → ℕ → ℕ → List Span → List ℤ
action_of A m r n ws = action_look_ahead_in A m (r - 1) (weights_of ws) (n % 256) (n / 256) ∷ []
