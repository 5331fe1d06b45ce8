-- The rows of a table, as contracts see them: one for each number of steps that are left, with a value for each
-- state.
use Rattle.std.specs.Prelude.{ℕ, ◌*◌, ◌^◌, ◌<◌, ◌≤◌, ◌≡◌, Bool, ℤ, pos, ◌*ℤ◌, ◌≤ℤ◌, List, [], length, get_or}
use Rattle.dp_spec.specs.Model.{Model, step_scale}
use Rattle.dp_spec.specs.PolicyTree.{IsPolicyOf, PolicyTree}
use Rattle.dp_spec.specs.Value.{backward_value}
use Rattle.dp_spec.specs.Arithmetic.{Arithmetic}
use Rattle.dp_spec.specs.Enclosure.{enclosure}
use Rattle.dp_spec.specs.Quantities.{mdp_table_in}
use Rattle.dp_mdp.specs.Building.{AreLastRewards, IsPower}
use Rattle.dp_links.specs.Links.{AreLinksOf, LinkLists}

-- the value over r steps from state s
abbrev pub value_at : List (List ℤ) → ℕ → ℕ → ℤ
value_at rows r s = get_or (get_or rows r []) s (pos 0)

-- the values over r steps from each state
pub record IsRow (A : Arithmetic) (m : Model) (r : ℕ) (row : List ℤ) : Type 0 where
  pub one_each : length row ≡ m.states
  pub values : (s : ℕ) → s < m.states → get_or row s (pos 0) ≡ mdp_table_in A m r s

-- The rows of values; for each joint action the reward of the last step from each state; for each number of steps
-- that are left after a step what its rewards are, as a multiple of those of the last step; and which states follow
-- which, and what may be seen.
pub record KeptTable : Type 0 where
  pub rows : List (List ℤ)
  pub rewards : List (List ℤ)
  pub powers : List ℤ
  pub links : LinkLists

-- the table up to a horizon of h steps
pub record IsTable (A : Arithmetic) (m : Model) (h : ℕ) (t : KeptTable) : Type 0 where
  pub long : h < length t.rows
  pub each : (r : ℕ) → r ≤ h → IsRow A m r (get_or t.rows r [])
  pub rewards : AreLastRewards A m t.rewards
  pub as_many : h ≤ length t.powers
  pub powers : (r : ℕ) → r < h → IsPower A m r (get_or t.powers r (pos 0))
  pub links : AreLinksOf m t.links

-- what values over r steps from one state are counted in
abbrev pub state_scale : Model → ℕ → ℕ
state_scale m r = m.scales.reward * step_scale m ^ r

-- No joint policy of r steps, r at most h, is worth more from a state than the table says in the unit of the mode
-- (which is the scale itself in exact mode, and 10^9 in outward mode).
abbrev pub BoundsEachValue : Bool → Model → ℕ → List (List ℤ) → Type 0
BoundsEachValue e m h rows =
    (r s : ℕ) (qs : List PolicyTree) → r ≤ h → s < m.states → IsPolicyOf m r qs →
    (backward_value m r s qs *ℤ pos ((enclosure e).unit (state_scale m r)))
    ≤ℤ (value_at rows r s *ℤ pos (state_scale m r))
