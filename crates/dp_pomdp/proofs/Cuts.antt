-- Where look-ahead may stop: weights that are all zero, and a joint action that reaches the cap.
use Rattle.std.proofs.Common.{◌≡◌, ℕ, zero, suc, ◌<◌, ◌≤◌, ℤ, pos, ◌-◌, ◌+ℤ◌, ◌≤ℤ◌, List, [], ◌∷◌, refl, sym, ap, ◌∙◌}
use Rattle.std.proofs.Common.{arith}
use Rattle.std.specs.Int.{int_min}
use Rattle.std.proofs.lemmas.Int.{ints, clamps}
use Rattle.dp_spec.specs.declared.span.Span.{Span}
use Rattle.dp_base.specs.Sums.{greatest, int_sum, numbers_below}
use Rattle.dp_spec.specs.Model.{Model, joint_actions, joint_observations, obs_at, reward_at, trans_at}
use Rattle.dp_spec.specs.Arithmetic.{Arithmetic}
use Rattle.dp_spec.specs.Quantities.{action_look_ahead_in, look_ahead_in, mdp_table_in, weighted_reward_in}
use Rattle.dp_spec.specs.Quantities.{weighted_table_in, weights_after_in}
use Rattle.dp_laws.proofs.EqualWeights.{look_ahead_in_ext}
use Rattle.dp_base.proofs.GreatestValues.{greatest_below_at_most, greatest_ext, le_greatest_below}
use Rattle.dp_spec.specs.Zeros.{KeepsZero, nothing}
use Rattle.dp_base.proofs.Sums.{int_sum_ext, int_sum_zero}
use Rattle.dp_laws.proofs.SpanSums.{span_sum_none}

-- ---- the cap

-- the smaller of the greatest and the cap is the cap, once one of the first values reaches it
reached : (part all cap : ℤ) → part ≤ℤ all → cap ≤ℤ part → cap ≡ int_min all cap
reached part all cap p q = omega (arith, ints, clamps)

pub cap_is_reached : (f : ℕ → ℤ) (k n : ℕ) (best cap : ℤ) → 0 < k → k ≤ n → best ≡ greatest f (numbers_below k)
    → cap ≤ℤ best → cap ≡ int_min (greatest f (numbers_below n)) cap
cap_is_reached f k n best cap some le is more =
    let part = greatest_below_at_most f (greatest f (numbers_below n)) k some
    (λ a p. le_greatest_below f n a (omega arith)) in
    reached (greatest f (numbers_below k)) (greatest f (numbers_below n)) cap part (rw (sym is) more)

-- look-ahead by the look-ahead of each joint action
pub look_by_actions : (A : Arithmetic) (m : Model) (r k : ℕ) (ws : ℕ → Span)
    → look_ahead_in A m (suc r) ws (suc k)
    ≡ int_min (greatest (λ a. action_look_ahead_in A m r ws a (suc k)) (numbers_below (joint_actions m)))
    (weighted_table_in A m (suc r) ws)
unfolding action_look_ahead_in
look_by_actions A m r k ws =
    ap (λ x. int_min x (weighted_table_in A m (suc r) ws))
    (greatest_ext _ _ (numbers_below (joint_actions m)) (λ a i.
    ap (λ (j : ℕ). (weighted_reward_in A m r ws a).high +ℤ int_sum (joint_observations m)
    (λ o. look_ahead_in A m r (weights_after_in A m ws a o) j)) (before k)))
  where
    before : (k : ℕ) → k ≡ suc k - 1
    before k = omega arith

-- where one of the first joint actions reaches the cap, the cap is the look-ahead
pub reached_cap : (A : Arithmetic) (m : Model) (r k rest look n : ℕ) (ws : ℕ → Span) (best cap : ℤ)
    → rest ≡ suc r
    → look ≡ suc k → 0 < n → n ≤ joint_actions m
    → best ≡ greatest (λ a. action_look_ahead_in A m r ws a look) (numbers_below n)
    → cap ≡ weighted_table_in A m rest ws → cap ≤ℤ best → cap ≡ look_ahead_in A m rest ws look
reached_cap A m r k rest look n ws best cap er el some le is top more =
    cap_is_reached (λ a. action_look_ahead_in A m r ws a look) n (joint_actions m) best cap some le is more
    ∙ rw (top, er, el) (sym (look_by_actions A m r k ws))

-- else it is the smaller of the greatest and the cap
pub greatest_or_cap : (A : Arithmetic) (m : Model) (r k rest look n : ℕ) (ws : ℕ → Span) (best cap x : ℤ)
    → rest ≡ suc r
    → look ≡ suc k → n ≡ joint_actions m
    → best ≡ greatest (λ a. action_look_ahead_in A m r ws a look) (numbers_below n)
    → cap ≡ weighted_table_in A m rest ws → x ≡ int_min best cap → x ≡ look_ahead_in A m rest ws look
greatest_or_cap A m r k rest look n ws best cap x er el all is top e =
    e ∙ rw (is, top, er, el, all) (sym (look_by_actions A m r k ws))

-- with no step left, or no look, or no weight
pub no_step : (A : Arithmetic) (m : Model) (rest look : ℕ) (ws : ℕ → Span) → rest ≡ 0
    → pos 0 ≡ look_ahead_in A m rest ws look
no_step A m rest look ws e = rw e refl

pub only_cap : (A : Arithmetic) (m : Model) (r rest look : ℕ) (ws : ℕ → Span) (cap : ℤ) → rest ≡ suc r
    → look ≡ 0
    → cap ≡ weighted_table_in A m rest ws → cap ≡ look_ahead_in A m rest ws look
only_cap A m r rest look ws cap er el top = rw (top, er, el) refl

-- ---- no weight

int_sum_of_none : (n : ℕ) (f : ℕ → ℤ) → ((i : ℕ) → i < n → f i ≡ pos 0) → int_sum n f ≡ pos 0
int_sum_of_none n f each = int_sum_ext n f (λ i. pos 0) each ∙ int_sum_zero n

greatest_zero : (xs : List ℕ) → greatest (λ a. pos 0) xs ≡ pos 0
greatest_zero [] = refl
greatest_zero (x ∷ []) = refl
greatest_zero (x ∷ (y ∷ ys)) = rw (greatest_zero (y ∷ ys)) refl

-- no weight in any state
abbrev pub none : ℕ → Span
none s = nothing

module _ (A : Arithmetic) (m : Model) (z : KeepsZero A) where
  none_after : (a o t : ℕ) → weights_after_in A m none a o t ≡ nothing
  unfolding weights_after_in
  none_after a o t = span_sum_none m.states _ (λ s p. ap A.later
      (z.no_weight (trans_at m a s t) (obs_at m a t o))
      ∙ z.later)

  none_earned : (r a : ℕ) → weighted_reward_in A m r none a ≡ nothing
  unfolding weighted_reward_in
  none_earned r a =
      span_sum_none m.states _ (λ s p. span_sum_none m.states _
      (λ t q. span_sum_none (joint_observations m) _ (λ o u.
      ap (λ (c : Span). A.gain c (reward_at m a s t o) r) (z.no_weight (trans_at m a s t) (obs_at m a t o))
      ∙ z.gain (reward_at m a s t o) r)))

  none_against : (r : ℕ) → weighted_table_in A m r none ≡ pos 0
  unfolding weighted_table_in
  none_against r = int_sum_of_none m.states _ (λ s p. z.tail (mdp_table_in A m r s))

  -- a joint action earns nothing where what follows earns nothing
  no_action : (r k a : ℕ) → look_ahead_in A m r none k ≡ pos 0
      → (weighted_reward_in A m r none a).high +ℤ int_sum (joint_observations m)
      (λ o. look_ahead_in A m r (weights_after_in A m none a o) k) ≡ pos 0
  no_action r k a after =
      ap (λ (w : Span). w.high +ℤ int_sum (joint_observations m)
      (λ o. look_ahead_in A m r (weights_after_in A m none a o) k)) (none_earned r a)
      ∙ ap (λ x. pos 0 +ℤ x) (int_sum_of_none (joint_observations m) _
      (λ o p. look_ahead_in_ext A m r k (weights_after_in A m none a o) none (λ s q. none_after a o s) ∙ after))

  -- no weight earns nothing
  pub no_look : (r k : ℕ) → look_ahead_in A m r none k ≡ pos 0
  no_look zero k = refl
  no_look (suc r) zero = none_against (suc r)
  no_look (suc r) (suc k) =
      let after = no_look r k in
      ap (λ x. int_min x (weighted_table_in A m (suc r) none))
      (greatest_ext _ (λ a. pos 0) (numbers_below (joint_actions m)) (λ a i. no_action r k a after)
      ∙ greatest_zero (numbers_below (joint_actions m)))
      ∙ ap (λ x. int_min (pos 0) x) (none_against (suc r))

  -- nor does a joint action
  pub none_action : (r k a : ℕ) → action_look_ahead_in A m r none a k ≡ pos 0
  unfolding action_look_ahead_in
  none_action r k a = no_action r (k - 1) a (no_look r (k - 1))
