-- The table can be built in the arithmetic of the mode.
use Rattle.std.proofs.Common.{◌≡◌, ℕ, zero, suc, ◌*◌, ◌^◌, ◌<◌, ◌≤◌, true, false, ℤ, pos, ◌*ℤ◌, refl, sym, ◌∙◌, arith}
use Rattle.dp_spec.specs.declared.span.Span.{Span}
use Rattle.dp_spec.specs.declared.scales.Scales.{Scales}
use Rattle.dp_spec.specs.Arithmetic.{exact, outward, reward_factor}
use Rattle.std.proofs.Math.Nat.{pow-zero, pow-suc, pow-le-pow_right, one-mul, le-mul_of_pos_right}
use Rattle.std.proofs.lemmas.Int.{ints}
use Rattle.dp_spec.specs.Calls.{exact_calls, outward_calls}
use Rattle.dp_spec.specs.Mode.{is_exact_mode}
use Rattle.dp_spec.specs.Model.{IsModel, Model, step_scale}
use Rattle.dp_spec.proofs.ModeCondition.{exact_condition, reward_most, reward_most_some, step_scale_some}
use Rattle.dp_base.proofs.Ring.{v, nat, ◌⊗◌, by_ring}
use Rattle.dp_laws.proofs.SizeLaws.{mode_can_tabulate}
use Rattle.dp_mdp.specs.Building.{IsTabulating}
use Rattle.dp_laws.proofs.Zeros.{exact_keeps_zero, outward_keeps_zero}

-- ---- the table in the arithmetic of the mode

-- in exact mode a gain is so many step scales times that of the last step
exact_grows : (m : Model) (w : Span) (r : ℤ) (rest : ℕ)
    → ((exact m.scales).gain w r rest).high ≡ ((exact m.scales).gain w r 0).high *ℤ pos (step_scale m ^ rest)
unfolding exact reward_factor step_scale
exact_grows m w r rest =
    let d = m.scales.discount in
    let k = step_scale m ^ rest in
    regrouped w.high r d (m.scales.trans * m.scales.obs * m.scales.discount) rest
  where
    regrouped : (w r : ℤ) (d k rest : ℕ) → w *ℤ (r *ℤ pos (d * k ^ rest))
        ≡ w *ℤ (r *ℤ pos (d * k ^ 0)) *ℤ pos (k ^ rest)
    regrouped w r d k rest =
        rw (pow-zero k) (by_ring (v w ⊗ (v r ⊗ nat (d * k ^ rest))) (v w ⊗ (v r ⊗ nat (d * 1)) ⊗ nat (k ^ rest))
        (omega arith))

times_one : (x : ℤ) → x *ℤ pos 1 ≡ x
times_one x = omega (arith, ints)

one_pow : (n : ℕ) → 1 ^ n ≡ 1
one_pow zero = pow-zero 1
one_pow (suc n) = pow-suc 1 n ∙ rw (one_pow n) refl

-- in outward mode it does not change
outward_grows : (m : Model) (w : Span) (r : ℤ) (rest : ℕ)
    → ((outward m.scales).gain w r rest).high ≡ ((outward m.scales).gain w r 0).high *ℤ pos (1 ^ rest)
unfolding outward
outward_grows m w r rest = rw (one_pow rest) (sym (times_one _))

-- the condition of exact mode bounds the powers of the step scale
exact_powers : (m : Model) → IsModel m → (h : ℕ) → 0 < h → true ≡ is_exact_mode m h → step_scale m ^ h < 2 ^ 127
exact_powers m is h some mode =
    let most = exact_condition m h mode in
    let least = reward_most_some m in
    let start = is.scales.start in
    bounded m.scales.start (step_scale m ^ h) h (reward_most m) start some least most
  where
    bounded : (b k h r : ℕ) → 0 < b → 0 < h → 1 ≤ r → b * k * h * r ≤ 2 ^ 126 → k < 2 ^ 127
    bounded b k h r pb ph pr le =
        let one = le-mul_of_pos_right k pb in
        let two = le-mul_of_pos_right (b * k) ph in
        let three = le-mul_of_pos_right (b * k * h) pr in omega arith

pub exact_tabulating : (m : Model) → IsModel m → (h : ℕ) → 0 < h → h ≤ 24 → true ≡ is_exact_mode m h
    → IsTabulating (exact m.scales) (exact_calls m.scales) m h (step_scale m)
exact_tabulating m is h some limit mode = record {
  can = mode_can_tabulate m is h some limit true mode;
  zero = exact_keeps_zero m.scales;
  grows = exact_grows m;
  powers = exact_powers m is h some mode;
  factor = step_scale_some m is;
}

pub outward_tabulating : (m : Model) → IsModel m → (h : ℕ) → 0 < h → h ≤ 24 → false ≡ is_exact_mode m h
    → IsTabulating (outward m.scales) (outward_calls m.scales) m h 1
outward_tabulating m is h some limit mode = record {
  can = mode_can_tabulate m is h some limit false mode;
  zero = outward_keeps_zero m.scales;
  grows = outward_grows m;
  powers = rw (one_pow h) (omega arith);
  factor = omega arith;
}

-- the step scale itself
pub step_small : (m : Model) → IsModel m → (h : ℕ) → 0 < h → true ≡ is_exact_mode m h → step_scale m < 2 ^ 127
step_small m is h some mode =
    let less : step_scale m ^ 1 ≤ step_scale m ^ h = pow-le-pow_right (step_scale_some m is) some in
    let small = exact_powers m is h some mode in
    let one = power_one (step_scale m) in omega arith
  where
    power_one : (k : ℕ) → k ^ 1 ≡ k
    power_one k = pow-suc k 0 ∙ rw (pow-zero k) (one-mul k)

pub step_is : (m : Model) (c : Scales) (a b d : ℕ) → c ≡ m.scales → a ≡ c.trans → b ≡ c.obs → d ≡ c.discount
    → a * b * d ≡ step_scale m
unfolding step_scale
step_is m c a b d e ea eb ed = rw (ea, eb, ed, e) refl
