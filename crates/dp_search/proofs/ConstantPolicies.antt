-- The low worths of constant policies, and the best of them.
use Rattle.std.proofs.Common.{◌≡◌, ℕ, ◌+◌, ◌<◌, ◌⊎◌, inl, inr, Bool, true, false, ◌==◌, ◌||◌, ℤ, ◌≤ℤ◌, ◌<ℤ◌, refl}
use Rattle.std.proofs.Common.{sym, ap, subst, ◌∙◌, arith}
use Rattle.std.proofs.lemmas.Int.{ints}
use Rattle.dp_spec.specs.declared.span.Span.{Span}
use Rattle.dp_spec.specs.Arithmetic.{arithmetic, point}
use Rattle.dp_spec.specs.ConstantPolicy.{constant_policy}
use Rattle.dp_spec.specs.ConstantRows.{constant_rows}
use Rattle.dp_spec.specs.Mode.{IsWithinLimits, IsWithinVersion}
use Rattle.dp_spec.specs.Model.{IsModel, Model, joint_actions}
use Rattle.dp_spec.specs.PlainForm.{IsPlain, plain_form}
use Rattle.dp_spec.specs.PolicyTree.{IsPolicyOf}
use Rattle.dp_spec.specs.Quantities.{forward_worth_in}
use Rattle.dp_spec.specs.SharedForm.{IsSharedForm, shared_form}
use Rattle.dp_spec.specs.SharedPolicy.{IsSharedOf, SharedPolicy, unfolded}
use Rattle.dp_spec.specs.Value.{policy_value}
use Rattle.dp_spec.specs.SharedWorth.{form_in, low_worth, shared_worth_in}
use Rattle.dp_laws.proofs.ConstantPolicies.{constant_policy_fits}
use Rattle.dp_laws.proofs.ConstantRows.{constant_rows_is}
use Rattle.dp_laws.proofs.PlainForms.{plain_form_is}
use Rattle.dp_laws.proofs.SharedLaws.{exact_shared_worth, plain_form_worth}
use Rattle.dp_search.specs.Constants.{IsLeastGreatest, constant_low_worth}

-- ---- the least of the greatest

pub one_is_best : (w : ℕ → ℤ) → IsLeastGreatest 1 w 0
one_is_best w = record {
  below = omega arith;
  greatest = λ b lt. let e : b ≡ 0 = omega arith in subst (λ (z : ℕ). w z ≤ℤ w 0) (sym e) (omega (arith, ints));
  least = λ b lt. absurd (omega arith);
}

-- one number more, which is greater or not
pub greater_is_best : (n : ℕ) (w : ℕ → ℤ) (a : ℕ) → IsLeastGreatest n w a → w a <ℤ w n
    → IsLeastGreatest (n + 1) w n
greater_is_best n w a best more = record {
  below = omega arith;
  greatest = λ b lt. up_to b (below_or_same n b lt);
  least = λ b lt. let g = best.greatest b lt in omega (arith, ints);
}
  where
    below_or_same : (n b : ℕ) → b < n + 1 → (b < n) ⊎ (b ≡ n)
    below_or_same n b lt = grind arith

    up_to : (b : ℕ) → (b < n) ⊎ (b ≡ n) → w b ≤ℤ w n
    up_to b (inl lt) = let g = best.greatest b lt in omega (arith, ints)
    up_to b (inr e) = subst (λ (z : ℕ). w z ≤ℤ w n) (sym e) (omega (arith, ints))

pub best_stays : (n : ℕ) (w : ℕ → ℤ) (a : ℕ) → IsLeastGreatest n w a → w n ≤ℤ w a → IsLeastGreatest (n + 1) w a
best_stays n w a best less = record {
  below = let lt = best.below in omega arith;
  greatest = λ b lt. up_to b (below_or_same n b lt);
  least = best.least;
}
  where
    below_or_same : (n b : ℕ) → b < n + 1 → (b < n) ⊎ (b ≡ n)
    below_or_same n b lt = grind arith

    up_to : (b : ℕ) → (b < n) ⊎ (b ≡ n) → w b ≤ℤ w a
    up_to b (inl lt) = best.greatest b lt
    up_to b (inr e) = subst (λ (z : ℕ). w z ≤ℤ w a) (sym e) less

-- ---- low worths

module _ (m : Model) (is : IsModel m) (h a : ℕ) (some : 0 < h) (action : a < joint_actions m) where
  abbrev rows : SharedPolicy
  rows = constant_rows m h a

  are : IsSharedOf m h rows × (unfolded rows ≡ constant_policy m h a) × IsSharedForm m h rows
  are = constant_rows_is m h a is some action

  -- the rows are the shared form
  form_is : shared_form m h (constant_policy m h a) ≡ rows
  form_is = ap (shared_form m h) (sym are.1) ∙ sym are.2

  second_form : form_in 2 m h (constant_policy m h a) ≡ rows
  unfolding form_in
  second_form = form_is

  -- in version 2 the low worth is that of the rows
  pub second_worth : (e : Bool) → (shared_worth_in (arithmetic e m.scales) m h rows).low
      ≡ constant_low_worth e m 2 h a
  unfolding low_worth
  second_worth e = ap (λ (p : SharedPolicy). (shared_worth_in (arithmetic e m.scales) m h p).low)
      (sym second_form)

  module _ (within : IsWithinLimits m h) where
    policy : IsPolicyOf m h (constant_policy m h a)
    policy = constant_policy_fits m is h a action

    plain : IsSharedOf m h (plain_form m h (constant_policy m h a))
        × IsPlain m h (plain_form m h (constant_policy m h a))
        × (unfolded (plain_form m h (constant_policy m h a)) ≡ constant_policy m h a)
    plain = plain_form_is m h (constant_policy m h a) is some within.stage_cells policy

    first_form : form_in 1 m h (constant_policy m h a) ≡ plain_form m h (constant_policy m h a)
    unfolding form_in
    first_form = refl

    -- in version 1 it is that of the trees
    pub first_worth : (e : Bool) → (forward_worth_in (arithmetic e m.scales) m h (constant_policy m h a)).low
        ≡ constant_low_worth e m 1 h a
    unfolding low_worth
    first_worth e =
        ap (λ (w : Span). w.low) (sym (plain_form_worth (arithmetic e m.scales) m h (constant_policy m h a)
        is some
        within.stage_cells policy))
        ∙ ap (λ (p : SharedPolicy). (shared_worth_in (arithmetic e m.scales) m h p).low) (sym first_form)

    -- and in exact mode that of the rows too, since both are the value
    pub first_exact_worth : (shared_worth_in (arithmetic true m.scales) m h rows).low
        ≡ constant_low_worth true m 1 h a
    unfolding low_worth
    first_exact_worth =
        ap (λ (w : Span). w.low) (exact_shared_worth m h rows are.0
        ∙ ap (λ qs. point (policy_value m h qs)) (are.1 ∙ sym plain.2)
        ∙ sym (exact_shared_worth m h (plain_form m h (constant_policy m h a)) plain.0))
        ∙ ap (λ (p : SharedPolicy). (shared_worth_in (arithmetic true m.scales) m h p).low) (sym first_form)

-- the rows of a constant policy are shared rows
pub constant_rows_fit : (m : Model) (h a : ℕ) → IsModel m → 0 < h → a < joint_actions m
    → IsSharedOf m h (constant_rows m h a)
constant_rows_fit m h a is some action = (constant_rows_is m h a is some action).0

-- the low worth in a version, by the rows and by the trees
pub rows_worth : (m : Model) (is : IsModel m) (h a version : ℕ) (e : Bool) (some : 0 < h)
    (action : a < joint_actions m)
    → IsWithinVersion m h version → (e || version == 2) ≡ true
    → (shared_worth_in (arithmetic e m.scales) m h (constant_rows m h a)).low
    ≡ constant_low_worth e m version h a
rows_worth m is h a version e some action within told = by_version e within.known told
  where
    by_version : (e : Bool) → (version ≡ 1) ⊎ (version ≡ 2) → (e || version == 2) ≡ true
        → (shared_worth_in (arithmetic e m.scales) m h (constant_rows m h a)).low
        ≡ constant_low_worth e m version h a
    by_version e (inr two) told =
        second_worth m is h a some action e ∙ ap (λ (v : ℕ). constant_low_worth e m v h a) (sym two)
    by_version true (inl one) told =
        first_exact_worth m is h a some action (within.first one)
        ∙ ap (λ (v : ℕ). constant_low_worth true m v h a) (sym one)
    by_version false (inl one) told = let e : version == 2 ≡ false = rw one refl in absurd (cc (sym e ∙ told))

pub trees_worth : (m : Model) (is : IsModel m) (h a version : ℕ) (e : Bool) (some : 0 < h)
    (action : a < joint_actions m)
    (within : IsWithinVersion m h version) → version ≡ 1
    → (forward_worth_in (arithmetic e m.scales) m h (constant_policy m h a)).low
    ≡ constant_low_worth e m version h a
trees_worth m is h a version e some action within one =
    first_worth m is h a some action (within.first one) e ∙ ap (λ (v : ℕ). constant_low_worth e m v h a)
    (sym one)

-- where the rows are not taken the version is 1
pub is_first : (m : Model) (h version : ℕ) (e : Bool) → IsWithinVersion m h version
    → (e || version == 2) ≡ false
    → version ≡ 1
is_first m h version e within told = by_version e within.known told
  where
    by_version : (e : Bool) → (version ≡ 1) ⊎ (version ≡ 2) → (e || version == 2) ≡ false → version ≡ 1
    by_version e (inl one) told = one
    by_version true (inr two) told = absurd (cc told)
    by_version false (inr two) told = let e : version == 2 ≡ true = rw two refl in absurd (cc (sym e ∙ told))
