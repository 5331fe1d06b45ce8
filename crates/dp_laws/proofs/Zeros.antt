-- Both arithmetics keep zero.
use Rattle.std.proofs.Common.{◌≡◌, ℕ, ◌*◌, ◌^◌, Bool, true, false, ℤ, pos, negsuc, ◌*ℤ◌, refl}
use Rattle.std.proofs.Math.IntN.{zero-*ℤ, *ℤ-zero}
use Rattle.std.proofs.Math.Nat.{zero-div, zero-mul, mul-zero}
use Rattle.dp_spec.specs.declared.scales.Scales.{Scales}
use Rattle.dp_spec.specs.Arithmetic.{arithmetic, exact, outward, reward_factor}
use Rattle.dp_base.specs.Rounding.{by_sign, ceiling_of, mul_down, mul_up}
use Rattle.dp_spec.specs.Zeros.{KeepsZero}

-- ---- the exact arithmetic

-- products with a chance of 0
none_times : (x : ℤ) (z : ℕ) → x *ℤ pos (0 * z) ≡ pos 0
none_times x z = rw (zero-mul z) (*ℤ-zero x)

times_none : (x : ℤ) (p : ℕ) → x *ℤ pos (p * 0) ≡ pos 0
times_none x p = rw (mul-zero p) (*ℤ-zero x)

chances_none : (x : ℤ) (z g : ℕ) → x *ℤ pos (0 * z * g) ≡ pos 0
chances_none x z g = rw (zero-mul z, zero-mul g) (*ℤ-zero x)

-- the exact arithmetic keeps zero
pub exact_keeps_zero : (c : Scales) → KeepsZero (exact c)
unfolding exact
exact_keeps_zero c = record {
  no_weight = λ p z. rw (zero-*ℤ (pos (p * z))) refl;
  no_next = λ w z. rw (none_times w.low z, none_times w.high z) refl;
  no_seen = λ w p. rw (times_none w.low p, times_none w.high p) refl;
  later = rw (zero-*ℤ (pos c.gain)) refl;
  gain = λ r rest. rw (zero-*ℤ (r *ℤ pos (reward_factor c rest))) refl;
  carry = λ v. chances_none v c.obs c.gain;
  tail = λ v. zero-*ℤ v;
}

-- ---- the outward arithmetic

-- roundings of 0
down_zero : (b : ℤ) (d : ℕ) → mul_down (pos 0) b d ≡ pos 0
unfolding mul_down
down_zero b d = rw (zero-*ℤ b, zero-div d) refl

up_zero : (b : ℤ) (d : ℕ) → mul_up (pos 0) b d ≡ pos 0
unfolding mul_up ceiling_of
up_zero b d = rw (zero-*ℤ b, zero-div d) refl

down_none : (a : ℤ) (d : ℕ) → mul_down a (pos 0) d ≡ pos 0
unfolding mul_down
down_none a d = rw (*ℤ-zero a, zero-div d) refl

up_none : (a : ℤ) (d : ℕ) → mul_up a (pos 0) d ≡ pos 0
unfolding mul_up ceiling_of
up_none a d = rw (*ℤ-zero a, zero-div d) refl

either_sign : (r x : ℤ) → by_sign r x x ≡ x
either_sign (pos r) x = refl
either_sign (negsuc r) x = refl

-- the outward arithmetic keeps zero
pub outward_keeps_zero : (c : Scales) → KeepsZero (outward c)
unfolding outward
outward_keeps_zero c = record {
  no_weight = λ p z. rw (
    down_zero (pos p) c.trans,
    down_zero (pos z) c.obs,
    up_zero (pos p) c.trans,
    up_zero (pos z) c.obs,
  ) refl;
  no_next = λ w z. rw (
    down_none w.low c.trans,
    down_zero (pos z) c.obs,
    up_none w.high c.trans,
    up_zero (pos z) c.obs,
  ) refl;
  no_seen = λ w p. rw (
    down_none (mul_down w.low (pos p) c.trans) c.obs,
    up_none (mul_up w.high (pos p) c.trans) c.obs,
  ) refl;
  later = rw (down_zero (pos c.gain) c.discount, up_zero (pos c.gain) c.discount) refl;
  gain = λ r rest. rw (either_sign r (pos 0), down_zero r (1000 * c.reward), up_zero r (1000 * c.reward)) refl;
  carry = λ v. rw (up_none v c.trans, up_zero (pos c.gain) c.discount) refl;
  tail = λ v. rw (either_sign v (pos 0)) (up_zero v (10 ^ 12));
}

-- ---- of a mode

-- so does the arithmetic of either mode
pub mode_keeps_zero : (e : Bool) (c : Scales) → KeepsZero (arithmetic e c)
mode_keeps_zero true c = exact_keeps_zero c
mode_keeps_zero false c = outward_keeps_zero c
