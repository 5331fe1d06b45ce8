-- In outward mode look-ahead stays within its type up to a horizon of 24: from above by the table, and from below by
-- the true value.
use Rattle.std.proofs.Common.{◌≡◌, ℕ, zero, suc, ◌+◌, ◌*◌, ◌^◌, ◌<◌, ◌≤◌, max, false, ℤ, pos, negsuc, ◌*ℤ◌, neg_ℤ}
use Rattle.std.proofs.Common.{◌≤ℤ◌, unsigned_abs, refl, sym, ap, subst, arith}
use Rattle.std.proofs.lemmas.Int.{ints, clamps, unsigned_abs-mul}
use Rattle.std.proofs.Math.Nat.{le_of_mul-le-mul_right, mul-le-mul, mul-le-mul_right, mul-pos, one-le-pow}
use Rattle.std.specs.Int.{int_min}
use Rattle.dp_spec.specs.declared.span.Span.{Span}
use Rattle.dp_laws.proofs.EnclosedQuantities.{look_ahead_enclosed}
use Rattle.dp_laws.proofs.ExactArithmetic.{exact_sound}
use Rattle.dp_laws.proofs.ExactValueSizes.{look_most, value_most}
use Rattle.dp_spec.proofs.ModeCondition.{reward_most, reward_most_within, step_scale_some}
use Rattle.dp_base.proofs.Order.{mul_le_right}
use Rattle.dp_laws.proofs.OrderedSpans.{IsOrdered, total_size, weight_ordered}
use Rattle.dp_laws.proofs.OutwardArithmetic.{outward_sound}
use Rattle.dp_spec.proofs.ScaleRange.{scales_in_range}
use Rattle.dp_laws.proofs.OutwardModeSizes.{limit_room, next_weights, reward_room, table_room, weight_le, weight_of}
use Rattle.dp_laws.proofs.OutwardSizes.{tail_most}
use Rattle.dp_base.proofs.Ring.{zle_of}
use Rattle.dp_laws.proofs.SizeSums.{int_sum_abs}
use Rattle.dp_spec.specs.Arithmetic.{exact, outward, point}
use Rattle.dp_spec.specs.Calls.{outward_calls, size}
use Rattle.dp_spec.specs.Enclosure.{Encloses, containment, equality}
use Rattle.dp_spec.specs.LookAhead.{look_ahead}
use Rattle.dp_spec.specs.Model.{IsModel, Model, joint_actions, joint_observations, step_scale}
use Rattle.dp_spec.specs.Quantities.{look_ahead_in, mdp_table_in, weighted_table_in, weights_after_in}
use Rattle.dp_spec.specs.Sizes.{AreWeights, reward_size}
use Rattle.dp_spec.specs.SizesOfLookAhead.{CanLookAhead, next_look_size, weighted_table_size}
use Rattle.dp_base.specs.Sums.{nat_sum}
use Rattle.dp_base.proofs.NaturalSumLaws.{nat_sum_add, nat_sum_const, nat_sum_ext, nat_sum_le, nat_sum_most}
use Rattle.dp_base.proofs.NaturalSumLaws.{nat_sum_times}

-- a number over d that is at least x over c is not far below 0
below_zero : (v x : ℤ) (c d B : ℕ) → (x *ℤ pos c) ≤ℤ (v *ℤ pos d) → unsigned_abs x * c ≤ B * d → 0 < d
    → neg_ℤ (pos B) ≤ℤ v
below_zero (pos n) x c d B h small some = omega (arith, ints)
below_zero (negsuc n) x c d B h small some =
    let e : unsigned_abs (negsuc n *ℤ pos d) ≡ suc n * d = unsigned_abs-mul (negsuc n) (pos d) in
    let f : unsigned_abs (x *ℤ pos c) ≡ unsigned_abs x * c = unsigned_abs-mul x (pos c) in
    let le : suc n * d ≤ B * d = through (negsuc n *ℤ pos d) (x *ℤ pos c) (suc n * d) (B * d)
    (negative n d some) e
    (omega arith) h in
    let few : suc n ≤ B = le_of_mul-le-mul_right {m = suc n} {n = B} {k = d} le some in omega (arith, ints)
  where
    negative : (n d : ℕ) → 0 < d → (negsuc n *ℤ pos d) ≤ℤ pos 0
    negative n zero some = absurd (omega arith)
    negative n (suc d) some = omega (arith, ints)

    through : (a b : ℤ) (k l : ℕ) → a ≤ℤ pos 0 → unsigned_abs a ≡ k → unsigned_abs b ≤ l → b ≤ℤ a → k ≤ l
    through a b k l p e q h = omega (arith, ints)

-- a number between two bounds
between : (v u : ℤ) (B : ℕ) → neg_ℤ (pos B) ≤ℤ v → v ≤ℤ u → unsigned_abs u ≤ B → unsigned_abs v ≤ B
between v u B p q h = omega (arith, ints)

-- the smaller is at most the second
min_le : (a b : ℤ) → int_min a b ≤ℤ b
min_le a b = omega (arith, ints, clamps)

module _ (m : Model) (is : IsModel m) where
  -- what the true value of weights w is at most
  true_most : (r k : ℕ) (w : ℕ → ℕ) → unsigned_abs (look_ahead m r w k) ≤ nat_sum m.states w * value_most m r
  true_most r k w =
      let spans = λ (s : ℕ). point (pos (w s)) in
      let e : look_ahead_in (exact m.scales) m r spans k ≡ look_ahead m r w k = look_ahead_enclosed m
      (exact m.scales) equality (exact_sound m.scales) is 1 r k w spans (λ s p. refl) in
      let most = look_most m is r k spans in
      let f = nat_sum_ext m.states (λ s. size (spans s)) w (λ s p. same (w s)) in
      let g = ap (λ (n : ℕ). n * value_most m r) f in
      let a = ap unsigned_abs e in omega arith
    where
      same : (n : ℕ) → max n n ≡ n
      same n = omega arith

  -- ---- what the low ends of spans come to
  -- a number from 0 is its magnitude
  low_number : (low : ℤ) → pos 0 ≤ℤ low → pos (unsigned_abs low) ≡ low
  low_number low h = omega (arith, ints)

  -- a span encloses its low end
  low_enclosed : (w : Span) → IsOrdered w → Encloses (10 ^ 12) (10 ^ 12) (pos (unsigned_abs w.low)) w
  low_enclosed w o =
      let e = low_number w.low o.from in
      record {
        from = zle_of _ _ (ap (λ (x : ℤ). x *ℤ pos (10 ^ 12)) (sym e));
        to = subst (λ (x : ℤ). (x *ℤ pos (10 ^ 12)) ≤ℤ (w.high *ℤ pos (10 ^ 12))) (sym e)
            (mul_le_right (10 ^ 12) w.low w.high o.order);
      }

  -- a true value of 2^64 weights over 24 steps
  scaled_value : (W r most dr q : ℕ) → W ≤ 2 ^ 64 → r ≤ 24 → most ≤ 10 ^ 8 * dr
      → W * (r * most * q) * 10 ^ 9 ≤ 2 ^ 88 * (10 ^ 12 * (dr * q))
  scaled_value W r most dr q p s le =
      let first = mul-le-mul p s in
      let second = mul-le-mul first le in
      let third = mul-le-mul_right (q * 10 ^ 9) second in omega arith

  -- the true value is not far below 0, and neither is what is computed
  look_from : (r k : ℕ) (ws : ℕ → Span) → r ≤ 24 → total_size m ws ≤ 2 ^ 64
      → ((s : ℕ) → s < m.states → IsOrdered (ws s))
      → neg_ℤ (pos (2 ^ 88)) ≤ℤ look_ahead_in (outward m.scales) m r ws k
  unfolding value_most
  look_from r k ws few small ordered =
      let w = λ (s : ℕ). unsigned_abs (ws s).low in
      let above = look_ahead_enclosed m (outward m.scales) containment
      (outward_sound m.scales (scales_in_range m.scales is.scales)) is (10 ^ 12) r k w ws
      (λ s p. low_enclosed (ws s) (ordered s p)) in
      let most = mul-le-mul_right (10 ^ 9) (true_most r k w) in
      let lows : nat_sum m.states w ≤ total_size m ws = nat_sum_le m.states w (λ s. size (ws s))
      (λ s p. omega arith) in
      let value = scaled_value (nat_sum m.states w) r (reward_most m) m.scales.reward (step_scale m ^ r)
      (omega arith) few (reward_most_within m is) in
      let scale = mul-pos {m = 10 ^ 12} (omega arith) (mul-pos is.scales.reward
      (one-le-pow r (step_scale m) (step_scale_some m is))) in
      below_zero (look_ahead_in (outward m.scales) m r ws k) (look_ahead m r w k) (10 ^ 9)
      (10 ^ 12 * (m.scales.reward * step_scale m ^ r)) (2 ^ 88) above (omega arith) scale

  module _ (h : ℕ) (horizon : h ≤ 24) where
    -- one weight against the table
    tail_part : (t r s : ℕ) (ws : ℕ → Span) → t + r ≡ h → AreWeights false m t ws → s < m.states
        → unsigned_abs ((outward m.scales).tail (ws s) (mdp_table_in (outward m.scales) m r s))
        ≤ size (ws s) * 2 ^ 23 + 1
    tail_part t r s ws e are ps = tail_most m is (ws s) (mdp_table_in (outward m.scales) m r s)
        (table_room m is h horizon r s (omega arith) ps)

    -- all weights against the table
    weighted_table_most : (t r : ℕ) (ws : ℕ → Span) → t + r ≡ h → AreWeights false m t ws
        → weighted_table_size (outward m.scales) m r ws ≤ 2 ^ 88
    unfolding weighted_table_size
    weighted_table_most t r ws e are =
        let each = nat_sum_le m.states (λ s. unsigned_abs ((outward m.scales).tail (ws s)
        (mdp_table_in (outward m.scales) m r s))) (λ s. size (ws s) * 2 ^ 23 + 1)
        (λ s ps. tail_part t r s ws e are ps) in
        let sums = nat_sum_add m.states (λ s. size (ws s) * 2 ^ 23) (λ s. 1) in
        let times = nat_sum_times m.states (λ s. size (ws s)) (2 ^ 23) in
        let flat = nat_sum_const m.states 1 in
        let most = limit_room m is h horizon t ws (omega arith) are in
        let states = is.sizes.states_limit in
        omega arith

    -- their sum
    weighted_table_abs : (t r : ℕ) (ws : ℕ → Span) → t + r ≡ h → AreWeights false m t ws
        → unsigned_abs (weighted_table_in (outward m.scales) m r ws) ≤ 2 ^ 88
    unfolding weighted_table_in weighted_table_size
    weighted_table_abs t r ws e are = let parts = int_sum_abs m.states
        (λ s. (outward m.scales).tail (ws s) (mdp_table_in (outward m.scales) m r s)) in
        let most = weighted_table_most t r ws e are in omega arith

    -- look-ahead is at most 2^88
    pub look_room : (t r k : ℕ) (ws : ℕ → Span) → t + r ≡ h → AreWeights false m t ws
        → unsigned_abs (look_ahead_in (outward m.scales) m r ws k) ≤ 2 ^ 88
    look_room t zero k ws e are = omega arith
    look_room t (suc r) zero ws e are = weighted_table_abs t (suc r) ws e are
    look_room t (suc r) (suc k) ws e are =
        between _ (weighted_table_in (outward m.scales) m (suc r) ws) (2 ^ 88)
        (look_from (suc r) (suc k) ws (omega arith) (limit_room m is h horizon t ws (omega arith) are)
        (λ s p. weight_ordered are s p))
        (min_le _ (weighted_table_in (outward m.scales) m (suc r) ws))
        (weighted_table_abs t (suc r) ws e are)

    -- the reward now and the look-aheads after it
    pub looks_room : (t r k : ℕ) (ws : ℕ → Span) (a : ℕ) → t + suc r ≡ h → AreWeights false m t ws
        → a < joint_actions m
        → reward_size (outward m.scales) m r ws a + next_look_size (outward m.scales) m r ws a k ≤ 2 ^ 97
    unfolding next_look_size
    looks_room t r k ws a e are pa =
        let O = joint_observations m in
        let reward = reward_room m is h horizon t r ws a (omega arith) are pa in
        let each = nat_sum_most O (2 ^ 88) (λ o. unsigned_abs
        (look_ahead_in (outward m.scales) m r (weights_after_in (outward m.scales) m ws a o) k))
        (λ o po. look_room (suc t) r k (weights_after_in (outward m.scales) m ws a o) (omega arith)
        (next_weights m is h horizon t ws a o are pa po)) in
        let few = mul-le-mul_right (2 ^ 88) is.sizes.joint_observations_limit in
        omega arith

    -- the call for a weight against the table
    may_tail : (t r s : ℕ) (ws : ℕ → Span) → t + r ≡ h → AreWeights false m t ws → s < m.states
        → (outward_calls m.scales).Tail (ws s) (mdp_table_in (outward m.scales) m r s)
    may_tail t r s ws e are ps = (
      weight_of (ws s) (weight_ordered are s ps)
          (weight_le m is h horizon t s ws (omega arith) are ps),
      table_room m is h horizon r s (omega arith) ps,
    )

    -- in outward mode look-ahead can be computed
    pub outward_can_look_ahead : CanLookAhead (outward m.scales) (outward_calls m.scales) m h
    unfolding outward
    outward_can_look_ahead = record {
      tail = may_tail;
      tails = λ t r ws e are. let most = weighted_table_most t r ws e are in omega arith;
      looks = λ t r k ws a e are pa. let most = looks_room t r k ws a e are pa in omega arith;
    }
