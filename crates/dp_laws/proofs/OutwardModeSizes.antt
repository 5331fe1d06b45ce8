-- In outward mode updates of weights, rewards and the table stay within their types up to a horizon of 24, by the
-- limits.
use Rattle.std.proofs.Common.{◌≡◌, ℕ, zero, suc, ◌+◌, ◌-◌, ◌*◌, ◌^◌, ◌<◌, ◌≤◌, false, pos, ◌≤ℤ◌, unsigned_abs, refl}
use Rattle.std.proofs.Common.{arith}
use Rattle.std.proofs.lemmas.Bool.{false≢true}
use Rattle.std.proofs.lemmas.Int.{ints}
use Rattle.std.proofs.Math.Nat.{mul-le-mul, pow-le-pow_right}
use Rattle.dp_spec.specs.declared.span.Span.{Span}
use Rattle.dp_spec.proofs.ModeCondition.{reward_within}
use Rattle.dp_laws.proofs.OrderedSpans.{IsOrdered, from_high, high_is_size, sum_ordered, total_size, weight_ordered}
use Rattle.dp_laws.proofs.OutwardSizes.{carry_most, chance_ordered, chance_small, gained_total, later_ordered}
use Rattle.dp_laws.proofs.OutwardSizes.{next_parts, next_total, obs_part, reward_total, shares, start_ordered}
use Rattle.dp_laws.proofs.OutwardSizes.{start_total, trans_part}
use Rattle.dp_base.proofs.Ring.{zle_of, zle_trans}
use Rattle.dp_laws.proofs.SizeSums.{table_action_le}
use Rattle.dp_spec.specs.Arithmetic.{outward}
use Rattle.dp_spec.specs.Calls.{IsWeight, outward_calls, size}
use Rattle.dp_spec.specs.Model.{IsModel, Model, joint_actions, joint_observations, obs_at, reward_at, start_at}
use Rattle.dp_spec.specs.Model.{trans_at}
use Rattle.dp_spec.specs.Quantities.{mdp_table_in, weights_after_in}
use Rattle.dp_spec.specs.Sizes.{AreWeights, CanUpdateWeights, CanReward, IsStep, reward_size}
use Rattle.dp_spec.specs.SizesOfTable.{CanTabulate, table_later_size, table_reward_size}
use Rattle.dp_base.specs.Sums.{nat_sum, numbers_below}
use Rattle.dp_base.proofs.Members.{below-IsIn}
use Rattle.dp_base.proofs.GreatestValues.{greatest_abs}
use Rattle.dp_base.proofs.NaturalSumLaws.{nat_sum_at}

-- a span of weights of at most 2^64 may be calculated with
pub weight_of : (w : Span) → IsOrdered w → size w ≤ 2 ^ 64 → IsWeight w
weight_of w o le =
    let e = high_is_size w o in
    let high : w.high ≤ℤ pos (2 ^ 64) = omega (arith, ints) in
    record {
      low_from = o.from;
      low_to = zle_trans _ _ _ o.order high;
      high_from = from_high w o;
      high_to = high;
    }

-- products of two limits
squares : (S O : ℕ) → S ≤ 256 → O ≤ 256 → (S * S ≤ 2 ^ 16) × (S * O ≤ 2 ^ 16)
squares S O p q = (mul-le-mul p p, mul-le-mul p q)

-- and of three
cubes : (S X : ℕ) → S ≤ 256 → X ≤ 2 ^ 16 → S * X ≤ 2 ^ 24
cubes S X p q = mul-le-mul p q

-- what is added at each time up to 24
times_time : (t h x : ℕ) → t ≤ h → h ≤ 24 → x ≤ 2 ^ 16 → t * x ≤ 24 * 2 ^ 16
times_time t h x p q r = let le : t ≤ 24 = omega arith in mul-le-mul le r

module _ (m : Model) (is : IsModel m) where
  -- what rounding adds in one step is little
  pub state_squares : (m.states * m.states ≤ 2 ^ 16) × (m.states * joint_observations m ≤ 2 ^ 16)
  state_squares = squares m.states (joint_observations m) is.sizes.states_limit
      is.sizes.joint_observations_limit

  -- ---- the table
  -- the weight 1 is from 0 and in order
  one_ordered : IsOrdered (outward m.scales).one
  unfolding outward
  one_ordered = record { from = omega (arith, ints); order = zle_of _ _ refl }

  -- it is 10^12
  one_size : size (outward m.scales).one ≡ 10 ^ 12
  unfolding outward
  one_size = refl

  -- all parts of the reward now
  table_reward_most : (r a s : ℕ) → a < joint_actions m → s < m.states
      → table_reward_size (outward m.scales) m r a s ≤ 10 ^ 17 + 10 ^ 10 - 256
  unfolding table_reward_size
  table_reward_most r a s pa ps =
      let all = gained_total m is (outward m.scales).one a s r pa ps one_ordered in
      let e = one_size in
      let few = state_squares.1 in
      let states = is.sizes.states_limit in omega arith

  -- all parts of the value after it
  table_later_most : (r a s V : ℕ) → a < joint_actions m → s < m.states
      → ((t : ℕ) → t < m.states → unsigned_abs (mdp_table_in (outward m.scales) m r t) ≤ V)
      → table_later_size (outward m.scales) m r a s ≤ V + 256
  unfolding table_later_size
  table_later_most r a s V pa ps small =
      let all = shares m.states V m.scales.trans (trans_at m a s)
      (λ t. unsigned_abs ((outward m.scales).carry (mdp_table_in (outward m.scales) m r t) (trans_at m a s t)))
      is.scales.trans (is.rows.trans a s pa ps)
      (λ t pt. carry_most m is (mdp_table_in (outward m.scales) m r t) (trans_at m a s t) V (small t pt)) in
      let states = is.sizes.states_limit in omega arith

  -- both together
  pub table_parts_most : (r a s V : ℕ) → a < joint_actions m → s < m.states
      → ((t : ℕ) → t < m.states → unsigned_abs (mdp_table_in (outward m.scales) m r t) ≤ V) →
      table_reward_size (outward m.scales) m r a s + table_later_size (outward m.scales) m r a s
      ≤ V + (10 ^ 17 + 10 ^ 10)
  table_parts_most r a s V pa ps small = let now = table_reward_most r a s pa ps in
      let after = table_later_most r a s V pa ps small in omega arith

  -- what a value over r steps is at most
  pub table_most : (r s : ℕ) → s < m.states
      → unsigned_abs (mdp_table_in (outward m.scales) m r s) ≤ r * (10 ^ 17 + 10 ^ 10)
  table_most zero s ps = omega arith
  table_most (suc r) s ps =
      greatest_abs _ (suc r * (10 ^ 17 + 10 ^ 10)) (numbers_below (joint_actions m))
      (λ a h. let pa = below-IsIn (joint_actions m) a h in let parts = table_action_le (outward m.scales)
      m r a s in let most = table_parts_most r a s (r * (10 ^ 17 + 10 ^ 10)) pa ps
      (λ t pt. table_most r t pt) in omega arith)

  -- ---- weights of a time up to the horizon
  module _ (h : ℕ) (horizon : h ≤ 24) where
    -- weights of a time up to the horizon sum to at most 2^64
    pub limit_room : (t : ℕ) (ws : ℕ → Span) → t ≤ h → AreWeights false m t ws → total_size m ws ≤ 2 ^ 64
    limit_room t ws le are = let limit = are.limit in let grown = times_time t h (m.states * m.states)
        le horizon state_squares.0 in omega arith

    -- so each is at most that
    pub weight_le : (t s : ℕ) (ws : ℕ → Span) → t ≤ h → AreWeights false m t ws → s < m.states
        → size (ws s) ≤ 2 ^ 64
    weight_le t s ws le are ps = let one = nat_sum_at m.states (λ s. size (ws s)) s ps in
        let all = limit_room t ws le are in omega arith

    -- the call with chances
    may_chance : (t : ℕ) (ws : ℕ → Span) (a s u o : ℕ) → t < h → AreWeights false m t ws → IsStep m a s u o
        → (outward_calls m.scales).Chance (ws s) (trans_at m a s u) (obs_at m a u o)
    may_chance t ws a s u o lt are st = (
      weight_of (ws s) (weight_ordered are s st.state) (weight_le t s ws (omega arith) are st.state),
      trans_part m is a s u st.action st.state st.next,
      obs_part m is a u o st.action st.next st.seen,
    )

    -- the call with the discount
    may_later : (t : ℕ) (ws : ℕ → Span) (a s u o : ℕ) → t < h → AreWeights false m t ws → IsStep m a s u o
        → IsWeight ((outward m.scales).chance (ws s) (trans_at m a s u) (obs_at m a u o))
    may_later t ws a s u o lt are st =
        let ordered = weight_ordered are s st.state in
        let small = chance_small m is (ws s) (trans_at m a s u) (obs_at m a u o) ordered
        (trans_part m is a s u st.action st.state st.next) (obs_part m is a u o st.action st.next st.seen) in
        let most = weight_le t s ws (omega arith) are st.state in
        weight_of _ (chance_ordered m is (ws s) _ _ ordered) (omega arith)

    -- the parts of a next weight
    may_add : (t : ℕ) (ws : ℕ → Span) (a u o : ℕ) → t < h → AreWeights false m t ws → a < joint_actions m
        → u < m.states → o < joint_observations m →
        nat_sum m.states (λ s. size ((outward m.scales).later
        ((outward m.scales).chance (ws s) (trans_at m a s u) (obs_at m a u o)))) < 2 ^ 127
    may_add t ws a u o lt are pa pu po =
        let all = next_parts m is ws a o pa po (λ s p. weight_ordered are s p) in
        let one = nat_sum_at m.states (λ u. nat_sum m.states
        (λ s. size ((outward m.scales).later ((outward m.scales).chance (ws s) (trans_at m a s u)
        (obs_at m a u o))))) u pu in
        let most = limit_room t ws (omega arith) are in
        let few = state_squares.0 in omega arith

    -- a start chance is within its scale
    start_part : (s : ℕ) → s < m.states → start_at m s ≤ m.scales.start
    start_part s ps = let one = nat_sum_at m.states (start_at m) s ps in let e = is.rows.start in omega arith

    -- the weights of the start
    started_weights : AreWeights false m 0 (λ s. (outward m.scales).start (start_at m s))
    started_weights = record {
      from = λ s p. (start_ordered m is (start_at m s)).from;
      order = λ s p. (start_ordered m is (start_at m s)).order;
      points = λ e s p. absurd (false≢true e);
      limit = let all = start_total m is in let states = is.sizes.states_limit in omega arith;
    }

    -- next weights are from 0 and in order
    next_ordered : (t : ℕ) (ws : ℕ → Span) (a o u : ℕ) → AreWeights false m t ws
        → IsOrdered (weights_after_in (outward m.scales) m ws a o u)
    unfolding weights_after_in
    next_ordered t ws a o u are = sum_ordered m.states _ (λ s p. later_ordered m is _
        (chance_ordered m is (ws s) (trans_at m a s u) (obs_at m a u o) (weight_ordered are s p)))

    -- the next weights are weights of the next time
    pub next_weights : (t : ℕ) (ws : ℕ → Span) (a o : ℕ) → AreWeights false m t ws → a < joint_actions m
        → o < joint_observations m → AreWeights false m (suc t) (weights_after_in (outward m.scales) m ws a o)
    next_weights t ws a o are pa po = record {
      from = λ u p. (next_ordered t ws a o u are).from;
      order = λ u p. (next_ordered t ws a o u are).order;
      points = λ e u p. absurd (false≢true e);
      limit = let all = next_total m is ws a o pa po (λ s p. weight_ordered are s p) in
          let before = are.limit in
          omega arith;
    }

    -- in outward mode weights can be updated
    pub outward_can_update_weights : CanUpdateWeights (outward m.scales) (outward_calls m.scales) m h
    unfolding outward
    outward_can_update_weights = record {
      start = start_part;
      started = started_weights;
      chance = may_chance;
      later = may_later;
      add = may_add;
      updated = λ t ws a o lt are pa po. next_weights t ws a o are pa po;
    }

    -- ---- rewards
    -- a reward is at most 10^17
    reward_call : (a s u o : ℕ) → unsigned_abs (reward_at m a s u o) ≤ 10 ^ 17
    reward_call a s u o =
        let within = reward_within m is a s u o in
        let digits = is.scales.reward_digits in
        let power : 10 ^ digits.0 ≤ 10 ^ 9 = pow-le-pow_right (omega arith) digits.1 in
        let e = digits.2 in omega arith

    -- the call for a part of a reward
    may_gain : (t r : ℕ) (ws : ℕ → Span) (a s u o : ℕ) → t + suc r ≡ h → AreWeights false m t ws
        → IsStep m a s u o
        → (outward_calls m.scales).Gain ((outward m.scales).chance (ws s) (trans_at m a s u) (obs_at m a u o))
        (reward_at m a s u o) r
    may_gain t r ws a s u o e are st = (may_later t ws a s u o (omega arith) are st, reward_call a s u o)

    -- all parts of a reward together
    pub reward_room : (t r : ℕ) (ws : ℕ → Span) (a : ℕ) → t ≤ h → AreWeights false m t ws → a < joint_actions m
        → reward_size (outward m.scales) m r ws a ≤ 2 ^ 82
    reward_room t r ws a le are pa =
        let all = reward_total m is ws a r pa (λ s p. weight_ordered are s p) in
        let most = limit_room t ws le are in
        let few = state_squares in
        let parts = cubes m.states (m.states * joint_observations m) is.sizes.states_limit few.1 in
        omega arith

    -- in outward mode rewards are allowed
    pub outward_can_reward : CanReward (outward m.scales) (outward_calls m.scales) m h
    unfolding outward
    outward_can_reward = record {
      gain = may_gain;
      add = λ t r ws a e are pa. let most = reward_room t r ws a
          (omega arith) are pa in omega arith;
    }

    -- ---- the table
    -- a value of the table may be calculated with
    pub table_room : (r s : ℕ) → r ≤ h → s < m.states → unsigned_abs (mdp_table_in (outward m.scales) m r s)
        ≤ 2 ^ 62
    table_room r s le ps = let most = table_most r s ps in omega arith

    -- the call with the weight 1
    table_chance : (a s t o : ℕ) → IsStep m a s t o
        → (outward_calls m.scales).Chance (outward m.scales).one (trans_at m a s t) (obs_at m a t o)
    table_chance a s t o st = (
      weight_of _ one_ordered (let e = one_size in omega arith),
      trans_part m is a s t st.action st.state st.next,
      obs_part m is a t o st.action st.next st.seen,
    )

    -- the call for a part of the reward now
    table_gain : (r a s t o : ℕ) → r < h → IsStep m a s t o
        → (outward_calls m.scales).Gain ((outward m.scales).chance (outward m.scales).one (trans_at m a s t)
        (obs_at m a t o)) (reward_at m a s t o) r
    table_gain r a s t o lt st =
        let small = chance_small m is (outward m.scales).one (trans_at m a s t) (obs_at m a t o) one_ordered
        (trans_part m is a s t st.action st.state st.next) (obs_part m is a t o st.action st.next st.seen) in
        let e = one_size in (
          weight_of _ (chance_ordered m is (outward m.scales).one _ _ one_ordered) (omega arith),
          reward_call a s t o,
        )

    -- the call for a part of the value after it
    table_carry : (r a s t : ℕ) → r < h → a < joint_actions m → s < m.states → t < m.states
        → (outward_calls m.scales).Carry (mdp_table_in (outward m.scales) m r t) (trans_at m a s t)
    table_carry r a s t lt pa ps pt = (table_room r t (omega arith) pt, trans_part m is a s t pa ps pt)

    -- all parts of a value of the table
    table_fits : (r a s : ℕ) → r < h → a < joint_actions m → s < m.states
        → table_reward_size (outward m.scales) m r a s + table_later_size (outward m.scales) m r a s < 2 ^ 127
    table_fits r a s lt pa ps = let parts = table_parts_most r a s (2 ^ 62) pa ps
        (λ t pt. table_room r t (omega arith) pt) in omega arith

    -- in outward mode the table can be computed
    pub outward_can_tabulate : CanTabulate (outward m.scales) (outward_calls m.scales) m h
    outward_can_tabulate = record {
      chance = table_chance;
      gain = table_gain;
      carry = table_carry;
      add = table_fits;
    }
