-- The exact arithmetic gives the true number.
use Rattle.std.proofs.Common.{◌≡◌, ◌*◌, ℤ, pos, ◌*ℤ◌, ◌≤ℤ◌, refl, sym, ap, ◌∙◌, arith}
use Rattle.std.proofs.lemmas.Int.{ints, clamps}
use Rattle.std.specs.Int.{int_min}
use Rattle.dp_spec.specs.declared.scales.Scales.{Scales}
use Rattle.dp_spec.specs.declared.span.Span.{Span}
use Rattle.dp_base.proofs.Ring.{v, zmul_comm, zle_of}
use Rattle.dp_spec.specs.Arithmetic.{exact}
use Rattle.dp_spec.specs.Enclosure.{IsSound, equality}

-- the smaller of two is the lower
smaller_is : (x y u v : ℤ) → x ≤ℤ y → u ≡ x → v ≡ y → int_min u v ≡ x
smaller_is x y u v h e f = omega (arith, ints, clamps)

-- each operation of the exact arithmetic is sound
pub exact_sound : (c : Scales) → IsSound c (exact c) equality
unfolding exact
exact_sound c = record {
  start = λ b. refl;
  one = refl;
  chance = λ T w p z s e. rw e refl;
  later = λ T w s e. rw e refl;
  gain = λ T w rest r s e. rw e refl;
  carry = λ F p x u e. zmul_comm u _ ∙ ap (λ x. pos (p * c.obs * c.gain) *ℤ x) e;
  tail = λ T w F x u s e f. rw (e, f) refl;
  no_weight = λ T. refl;
  more_weight = λ T x y a b e f. rw (e, f) refl;
  no_gain = λ F. refl;
  more_gain = λ F x y a b e f. rw (e, f) refl;
  upper_end = λ F x a e. ap (λ (s : Span). s.high) e;
  no_upper = λ F. refl;
  more_upper = λ F x y a b e f. rw (e, f) refl;
  greater = λ F x y a b e f. rw (e, f) refl;
  smaller = λ F x y a b h e f. smaller_is x y a b h e f;
  reads = λ F x u e. zle_of _ _ (ap (λ z. z *ℤ pos F) (sym e));
}
