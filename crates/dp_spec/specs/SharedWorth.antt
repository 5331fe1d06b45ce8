-- The worth of a shared policy in an arithmetic: weights of joint rows are updated stage by stage. (Own.)
use Rattle.std.specs.Prelude.{ℕ, zero, suc, ◌-◌, cond, ◌==◌, ℤ, pos, List, [], ◌∷◌, get_or}
use Rattle.dp_spec.specs.declared.span.Span.{Span}
use Rattle.dp_spec.specs.JointNumbers.{joint_number, parts_of, product}
use Rattle.dp_spec.specs.Model.{Model, joint_observations, start_at}
use Rattle.dp_spec.specs.PolicyTree.{PolicyTree}
use Rattle.dp_spec.specs.Arithmetic.{Arithmetic, point, span_add}
use Rattle.dp_spec.specs.Quantities.{span_sum, weights_after_in, weighted_reward_in}
use Rattle.dp_spec.specs.SharedPolicy.{SharedPolicy, row_at, row_counts}
use Rattle.dp_spec.specs.PlainForm.{plain_form}
use Rattle.dp_spec.specs.SharedForm.{shared_form}

-- ---- joint rows: one row of a stage for each agent, as one number

-- how many joint rows stage t has
abbrev pub joint_row_count : SharedPolicy → ℕ → ℕ
joint_row_count p t = product (row_counts p t)

-- the actions of rows of stage t
abbrev pub actions_of_rows : SharedPolicy → ℕ → List ℕ → List ℕ
actions_of_rows [] t rs = []
actions_of_rows (stages ∷ p) t [] = []
actions_of_rows (stages ∷ p) t (r ∷ rs) = (row_at stages t r).action ∷ actions_of_rows p t rs

-- the rows of the next stage that follow rows of stage t after own observations
abbrev pub rows_after : SharedPolicy → ℕ → List ℕ → List ℕ → List ℕ
rows_after [] t rs os = []
rows_after (stages ∷ p) t [] os = []
rows_after (stages ∷ p) t (r ∷ rs) [] = []
rows_after (stages ∷ p) t (r ∷ rs) (o ∷ os) = get_or (row_at stages t r).next o 0 ∷ rows_after p t rs os

-- the joint action of joint row j of stage t
unfoldable pub joint_row_action : Model → SharedPolicy → ℕ → ℕ → ℕ
joint_row_action m p t j = joint_number m.actions (actions_of_rows p t (parts_of (row_counts p t) j))

-- the joint row of the next stage that follows joint row j of stage t after joint observation o
unfoldable pub next_joint_row : Model → SharedPolicy → ℕ → ℕ → ℕ → ℕ
next_joint_row m p t j o =
    joint_number (row_counts p (suc t)) (rows_after p t (parts_of (row_counts p t) j) (parts_of m.observations o))

-- ---- weights and worth

-- the weight of a joint row of stage t and a state: that of the start, or all that leads to the joint row
abbrev pub row_weight_in : Arithmetic → Model → SharedPolicy → ℕ → ℕ → ℕ → Span
row_weight_in A m p zero j s = A.start (start_at m s)
row_weight_in A m p (suc t) j s =
    span_sum (joint_row_count p t) (λ i. span_sum (joint_observations m) (λ o.
    cond (next_joint_row m p t i o == j)
    (weights_after_in A m (row_weight_in A m p t i) (joint_row_action m p t i) o s) (point (pos 0))))

-- what the joint rows of the stages before f earn, of a horizon of h steps
abbrev pub rows_earn_in : Arithmetic → Model → SharedPolicy → ℕ → ℕ → Span
rows_earn_in A m p h zero = point (pos 0)
rows_earn_in A m p h (suc f) =
    span_add (rows_earn_in A m p h f)
    (span_sum (joint_row_count p f) (λ j.
    weighted_reward_in A m (h - suc f) (row_weight_in A m p f j) (joint_row_action m p f j)))

-- the worth of a shared policy of h steps
unfoldable pub shared_worth_in : Arithmetic → Model → ℕ → SharedPolicy → Span
shared_worth_in A m h p = rows_earn_in A m p h h

-- ---- of a version of certificates

-- the form of a joint policy in a version: plain in version 1, and shared in version 2
unfoldable pub form_in : ℕ → Model → ℕ → List PolicyTree → SharedPolicy
form_in version m h qs = cond (version == 1) (plain_form m h qs) (shared_form m h qs)

-- the low worth of a joint policy in a version
unfoldable pub low_worth : Arithmetic → Model → ℕ → ℕ → List PolicyTree → ℤ
low_worth A m version h qs = (shared_worth_in A m h (form_in version m h qs)).low
