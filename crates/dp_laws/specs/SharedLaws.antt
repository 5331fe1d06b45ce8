-- What the rows of a shared policy mean, and what its worth says of their value.
use Rattle.std.specs.Prelude.{◌≡◌, ℕ, ◌*◌, ◌-◌, ◌^◌, ◌<◌, ◌≤◌, Bool, List, map, get_or, None}
use Rattle.dp_spec.specs.JointNumbers.{product}
use Rattle.dp_spec.specs.Model.{IsModel, Model, joint_actions, joint_observations, value_scale}
use Rattle.dp_spec.specs.PolicyTree.{IsPolicyOf, PolicyTree, root_action}
use Rattle.dp_spec.specs.Value.{policy_value}
use Rattle.dp_spec.specs.Arithmetic.{Arithmetic, arithmetic, exact, point}
use Rattle.dp_spec.specs.Quantities.{forward_worth_in}
use Rattle.dp_spec.specs.Enclosure.{enclosure}
use Rattle.dp_spec.specs.SharedPolicy.{AgentRows, AreAgentRows, IsSharedOf, SharedPolicy, row_at, row_count}
use Rattle.dp_spec.specs.SharedPolicy.{row_counts, row_of_history, unfolded, unfolded_tree}
use Rattle.dp_spec.specs.Keeping.{tree_at}
use Rattle.dp_spec.specs.SharedRows.{first_past, row_cells, stage_counts}
use Rattle.dp_spec.specs.PlainForm.{IsPlain, plain_form}
use Rattle.dp_spec.specs.SharedForm.{AreReduced, IsSharedForm, shared_form}
use Rattle.dp_spec.specs.ConstantPolicy.{constant_policy}
use Rattle.dp_spec.specs.ConstantRows.{constant_rows}
use Rattle.dp_spec.specs.SharedWorth.{shared_worth_in}

-- the rows of a shared policy mean a joint policy
abbrev pub SharedRowsMeanAPolicy : Type 0
SharedRowsMeanAPolicy = (m : Model) (h : ℕ) (p : SharedPolicy) → IsSharedOf m h p → IsPolicyOf m h (unfolded p)

-- after each own history shorter than the horizon an agent does the action of the row that the history reaches
abbrev pub HistoriesReachTheirRows : Type 0
HistoriesReachTheirRows =
    (b n h : ℕ) (stages : AgentRows) → AreAgentRows b n h stages → (t x : ℕ) → t < h → x < n ^ t →
    (row_of_history n stages t x < row_count stages t)
    × (root_action (tree_at n (unfolded_tree stages 0) t x) ≡ (row_at stages t
    (row_of_history n stages t x)).action)

-- at each stage of a shared policy there is a joint row, and there are at most 2^22, so that no agent has more rows
abbrev pub RowsAreFew : Type 0
RowsAreFew =
    (m : Model) → IsModel m → (h : ℕ) (p : SharedPolicy) → IsSharedOf m h p → (t : ℕ) → t < h →
    (0 < product (row_counts p t)) × (product (row_counts p t) ≤ 2 ^ 22)
    × ((i : ℕ) → get_or (row_counts p t) i 0 ≤ 2 ^ 22)

-- the cells of the stages of a shared policy pass no limit
abbrev pub SharedCellsPassNoLimit : Type 0
SharedCellsPassNoLimit =
    (m : Model) (h : ℕ) (p : SharedPolicy) → IsSharedOf m h p →
    first_past (2 ^ 22) (row_cells m.states h (map (λ (stages : AgentRows). stage_counts stages) p)) ≡ None

-- in exact arithmetic the worth of a shared policy is the value of that joint policy
abbrev pub ExactSharedWorthIsTheValue : Type 0
ExactSharedWorthIsTheValue =
    (m : Model) (h : ℕ) (p : SharedPolicy) → IsSharedOf m h p →
    shared_worth_in (exact m.scales) m h p ≡ point (policy_value m h (unfolded p))

-- in either mode it encloses the value
abbrev pub SharedWorthEnclosesTheValue : Type 0
SharedWorthEnclosesTheValue =
    (m : Model) → IsModel m → (e : Bool) (h : ℕ) (p : SharedPolicy) → IsSharedOf m h p →
    (enclosure e).Earns (value_scale m h) (policy_value m h (unfolded p))
    (shared_worth_in (arithmetic e m.scales) m h p)

-- ---- plain forms

-- within the limit of stage cells the plain form of a joint policy is a shared policy, is plain, and means the policy
abbrev pub PlainFormMeansThePolicy : Type 0
PlainFormMeansThePolicy =
    (m : Model) (h : ℕ) (qs : List PolicyTree) → IsModel m → 0 < h
    → m.states * joint_observations m ^ (h - 1) ≤ 2 ^ 22 →
    IsPolicyOf m h qs →
    IsSharedOf m h (plain_form m h qs) × IsPlain m h (plain_form m h qs) × (unfolded (plain_form m h qs) ≡ qs)

-- a plain shared policy is the plain form of the joint policy that its rows mean
abbrev pub PlainPolicyIsItsPlainForm : Type 0
PlainPolicyIsItsPlainForm =
    (m : Model) (h : ℕ) (p : SharedPolicy) → IsSharedOf m h p → IsPlain m h p → p ≡ plain_form m h (unfolded p)

-- in any arithmetic the worth of a plain shared policy is the forward worth of that joint policy
abbrev pub PlainWorthIsForwardWorth : Type 0
PlainWorthIsForwardWorth =
    (A : Arithmetic) (m : Model) (h : ℕ) (p : SharedPolicy) → IsSharedOf m h p → IsPlain m h p →
    shared_worth_in A m h p ≡ forward_worth_in A m h (unfolded p)

-- ---- shared forms

-- the shared form of the joint policy that the rows of a shared policy mean is a shared policy, means the same, and
-- is a shared form
abbrev pub SharedFormMeansThePolicy : Type 0
SharedFormMeansThePolicy =
    (m : Model) (h : ℕ) (p : SharedPolicy) → IsModel m → 0 < h → IsSharedOf m h p →
    IsSharedOf m h (shared_form m h (unfolded p)) × (unfolded (shared_form m h (unfolded p)) ≡ unfolded p)
    × IsSharedForm m h (shared_form m h (unfolded p))

-- a shared policy whose rows differ at each stage and are reached in order is a shared form
abbrev pub ReducedRowsAreASharedForm : Type 0
ReducedRowsAreASharedForm =
    (m : Model) (h : ℕ) (p : SharedPolicy) → IsSharedOf m h p → AreReduced h p → IsSharedForm m h p

-- the rows of a constant joint policy are a shared policy, mean it, and are a shared form
abbrev pub ConstantRowsAreASharedForm : Type 0
ConstantRowsAreASharedForm =
    (m : Model) (h a : ℕ) → IsModel m → 0 < h → a < joint_actions m →
    IsSharedOf m h (constant_rows m h a) × (unfolded (constant_rows m h a) ≡ constant_policy m h a)
    × IsSharedForm m h (constant_rows m h a)

-- ---- version 1

-- within the limit of stage cells the worth of a joint policy's plain form is its forward worth, in any arithmetic
abbrev pub PlainFormHasTheForwardWorth : Type 0
PlainFormHasTheForwardWorth =
    (A : Arithmetic) (m : Model) (h : ℕ) (qs : List PolicyTree) → IsModel m → 0 < h →
    m.states * joint_observations m ^ (h - 1) ≤ 2 ^ 22 → IsPolicyOf m h qs →
    shared_worth_in A m h (plain_form m h qs) ≡ forward_worth_in A m h qs
