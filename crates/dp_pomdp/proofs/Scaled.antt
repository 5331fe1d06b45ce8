-- Look-ahead from a multiple of weights.
use Rattle.std.proofs.Common.{◌≡◌, ℕ, suc, ◌*◌, ◌^◌, ◌<◌, ◌≤◌, Bool, true, false, ℤ, pos, ◌*ℤ◌, ◌≤ℤ◌, List, length}
use Rattle.std.proofs.Common.{unsigned_abs, refl, sym, ap, ◌∙◌, subst, arith}
use Rattle.std.proofs.Math.IntN.{*ℤ-zero}
use Rattle.std.proofs.lemmas.Int.{ints, unsigned_abs-mul}
use Rattle.dp_spec.specs.declared.span.Span.{Span}
use Rattle.dp_base.proofs.NaturalSumLaws.{nat_sum_at, nat_sum_le}
use Rattle.dp_base.proofs.Order.{equal_of_le, le_of_mul_le_left}
use Rattle.dp_spec.specs.Arithmetic.{Arithmetic, point}
use Rattle.dp_spec.specs.Calls.{Calls, IsPoint, size}
use Rattle.dp_spec.specs.Model.{Model, joint_actions, joint_observations}
use Rattle.dp_spec.specs.Quantities.{action_look_ahead_in, look_ahead_in, weights_after_in}
use Rattle.dp_spec.specs.Sizes.{AreWeights}
use Rattle.dp_spec.specs.SizesOfLookAhead.{next_look_size}
use Rattle.dp_laws.proofs.EqualWeights.{look_ahead_in_ext}
use Rattle.dp_pomdp.specs.Looking.{IsLooking, weights_of}
use Rattle.dp_pomdp.specs.Multiples.{AreNumbers, AreTimes}

-- weights of the exact mode are one number each
pub numbers_of : (A : Arithmetic) (C : Calls) (m : Model) (r : ℕ) (ws : List Span) → IsLooking A C m r ws
    → A.is_exact ≡ true → AreNumbers ws
numbers_of A C m r ws is exact s lt =
    let inside : s < m.states = let len = is.one_each in omega arith in
    let from = is.weights.from s inside in
    let order = is.weights.order s inside in
    (omega (arith, ints), is.weights.points exact s inside)

-- one number from 0, as a natural number
as_point : (w : Span) → pos 0 ≤ℤ w.high → IsPoint w → w ≡ point (pos (unsigned_abs w.high))
as_point w from one =
    let high : w.high ≡ pos (unsigned_abs w.high) = omega (arith, ints) in
    let low : w.low ≡ pos (unsigned_abs w.high) = one ∙ high in λ j. record { low = low j; high = high j }

module _ (k : ℕ) (us ws : List Span) (times : AreTimes k us ws) where
  -- ---- the weights of which they are a multiple

  from_zero : (x y : ℤ) → x ≡ pos k *ℤ y → pos 0 ≤ℤ x → pos 0 ≤ℤ y
  from_zero x y e from =
      let whole : pos 0 ≤ℤ (pos k *ℤ y) = subst (λ (z : ℤ). pos 0 ≤ℤ z) e from in
      le_of_mul_le_left k (pos 0) y times.some
      (subst (λ (z : ℤ). z ≤ℤ (pos k *ℤ y)) (sym (*ℤ-zero (pos k))) whole)

  in_order : (x y v w : ℤ) → x ≡ pos k *ℤ v → y ≡ pos k *ℤ w → x ≤ℤ y → v ≤ℤ w
  in_order x y v w e f le =
      le_of_mul_le_left k v w times.some
      (subst (λ (z : ℤ). (pos k *ℤ v) ≤ℤ z) f (subst (λ (z : ℤ). z ≤ℤ y) e le))

  smaller : (x y : ℤ) → x ≡ pos k *ℤ y → unsigned_abs y ≤ unsigned_abs x
  smaller x y e =
      let whole : unsigned_abs x ≡ k * unsigned_abs y = ap unsigned_abs e ∙ unsigned_abs-mul (pos k) y in
      let some = times.some in grow (unsigned_abs x) (unsigned_abs y) whole some
    where
      grow : (a b : ℕ) → a ≡ k * b → 0 < k → b ≤ a
      grow a b e some = grind arith

  pub weights_of_times : (e : Bool) (m : Model) (t : ℕ) → length ws ≡ m.states → AreWeights e m t (weights_of ws)
      → AreWeights e m t (weights_of us)
  weights_of_times e m t len are = record {
    from = λ s p. from_zero _ _ (times.low s (omega arith)) (are.from s p);
    order = λ s p. in_order _ _ _ _ (times.low s (omega arith)) (times.high s (omega arith)) (are.order s p);
    points = λ exact s p.
        let one = are.points exact s p in
        let le : (weights_of ws s).low ≤ℤ (weights_of ws s).high = omega (arith, ints) in
        let ge : (weights_of ws s).high ≤ℤ (weights_of ws s).low = omega (arith, ints) in
        equal_of_le _ _ (in_order _ _ _ _ (times.low s (omega arith)) (times.high s (omega arith)) le)
        (in_order _ _ _ _ (times.high s (omega arith)) (times.low s (omega arith)) ge);
    limit =
        let each = nat_sum_le m.states (λ s. size (weights_of us s)) (λ s. size (weights_of ws s)) (λ s p.
        let low = smaller _ _ (times.low s (omega arith)) in
        let high = smaller _ _ (times.high s (omega arith)) in omega arith) in
        let limit = are.limit in omega arith;
  }

  pub looking_times : (A : Arithmetic) (C : Calls) (m : Model) (r : ℕ) → IsLooking A C m r ws
      → IsLooking A C m r us
  looking_times A C m r is = record {
    zero = is.zero;
    scales = is.scales;
    weighs = is.weighs;
    horizon = is.horizon;
    push = is.push;
    reward = is.reward;
    look = is.look;
    time = is.time;
    left = is.left;
    one_each = times.one_each ∙ is.one_each;
    weights = weights_of_times A.is_exact m is.time is.one_each is.weights;
  }

  -- ---- what is looked ahead from them

  module _ (A : Arithmetic) (C : Calls) (m : Model) (r : ℕ) (is : IsLooking A C m r ws) where
    abbrev whole : ℕ → ℕ
    whole s = unsigned_abs (weights_of us s).high

    here : A.is_exact ≡ true → (s : ℕ) → s < m.states → weights_of us s ≡ point (pos (whole s))
    here exact s p =
        let are = looking_times A C m r is in
        let numbers = numbers_of A C m r us are exact s (let len = are.one_each in omega arith) in
        as_point (weights_of us s) numbers.0 numbers.1

    scaled : A.is_exact ≡ true → (s : ℕ) → s < m.states → weights_of ws s ≡ point (pos (k * whole s))
    scaled exact s p =
        let inside : s < length ws = let len = is.one_each in omega arith in
        let high : (weights_of ws s).high ≡ pos (k * whole s) =
        times.high s inside ∙ ap (λ (w : Span). pos k *ℤ w.high) (here exact s p) in
        let low : (weights_of ws s).low ≡ pos (k * whole s) = is.weights.points exact s p ∙ high in
        λ j. record { low = low j; high = high j }

    times_one : (x y : ℤ) (n : ℕ) → n ≡ 1 → x ≡ y → x ≡ pos n *ℤ y
    times_one x y n one e = rw (one, e) (omega (arith, ints))

    module _ (outward : A.is_exact ≡ false → k ≡ 1) (stay : A.is_exact ≡ false → us ≡ ws) where
      look_by : (e : Bool) → A.is_exact ≡ e → (q look : ℕ)
          → look_ahead_in A m q (weights_of ws) look ≡ pos k *ℤ look_ahead_in A m q (weights_of us) look
      look_by true exact q look =
          (is.scales exact).0 q look k whole (weights_of us) (weights_of ws) (here exact) (scaled exact)
      look_by false exact q look =
          times_one _ _ k (outward exact)
          (ap (λ (l : List Span). look_ahead_in A m q (weights_of l) look) (sym (stay exact)))

      action_by : (e : Bool) → A.is_exact ≡ e → (q look a : ℕ)
          → action_look_ahead_in A m q (weights_of ws) a look
          ≡ pos k *ℤ action_look_ahead_in A m q (weights_of us) a look
      action_by true exact q look a =
          (is.scales exact).1 q look k a whole (weights_of us) (weights_of ws) (here exact) (scaled exact)
      action_by false exact q look a =
          times_one _ _ k (outward exact)
          (ap (λ (l : List Span). action_look_ahead_in A m q (weights_of l) a look) (sym (stay exact)))

      pub look_of_times : (q look : ℕ)
          → look_ahead_in A m q (weights_of ws) look ≡ pos k *ℤ look_ahead_in A m q (weights_of us) look
      look_of_times q look = look_by A.is_exact refl q look

      pub action_of_times : (q look a : ℕ) → action_look_ahead_in A m q (weights_of ws) a look
          ≡ pos k *ℤ action_look_ahead_in A m q (weights_of us) a look
      action_of_times q look a = action_by A.is_exact refl q look a

      -- a look-ahead is that of the weights of which these are a multiple, times the factor
      pub product_is : (q j : ℕ) (after : ℕ → Span) → ((t : ℕ) → t < m.states → weights_of ws t ≡ after t)
          → (factor value : ℤ) → factor ≡ pos k → value ≡ look_ahead_in A m q (weights_of us) j
          → factor *ℤ value ≡ look_ahead_in A m q after j
      product_is q j after same factor value f v =
          (λ i. f i *ℤ v i) ∙ sym (look_of_times q j) ∙ look_ahead_in_ext A m q j (weights_of ws) after same

-- one look-ahead after a joint action has 127 bits
pub next_look_fits : (A : Arithmetic) (C : Calls) (m : Model) (r : ℕ) (ws : List Span)
    → IsLooking A C m (suc r) ws → (a o j : ℕ) → a < joint_actions m → o < joint_observations m
    → unsigned_abs (look_ahead_in A m r (weights_after_in A m (weights_of ws) a o) j) < 2 ^ 127
unfolding next_look_size
next_look_fits A C m r ws is a o j pa po =
    let one = nat_sum_at (joint_observations m)
    (λ o. unsigned_abs (look_ahead_in A m r (weights_after_in A m (weights_of ws) a o) j)) o po in
    let all = is.look.looks is.time r j (weights_of ws) a is.left is.weights pa in omega arith
