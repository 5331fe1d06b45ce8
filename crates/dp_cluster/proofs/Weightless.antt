-- Joint classes without weight: they earn nothing, and lead to joint classes without weight.
use Rattle.std.proofs.Common.{◌≡◌, ℕ, ◌<◌, ◌++◌, List, Option, None, Some, map, length, get_or, sym, ap, ◌∙◌}
use Rattle.std.proofs.Common.{subst, arith}
use Rattle.std.proofs.Common.{inl, inr, [], ◌∷◌, ◌+◌}
use Rattle.std.specs.List.{range_with_len}
use Rattle.std.proofs.lemmas.List.{get_or_append_left, get_or_push}
use Rattle.dp_base.proofs.Order.{last_or_before}
use Rattle.dp_spec.specs.declared.span.Span.{Span}
use Rattle.dp_spec.specs.Arithmetic.{Arithmetic}
use Rattle.dp_spec.specs.Calls.{Calls}
use Rattle.dp_spec.specs.ClassSteps.{chosen_joint_action, pair_number}
use Rattle.dp_spec.specs.Front.{class_counts}
use Rattle.dp_spec.specs.JointNumbers.{product}
use Rattle.dp_spec.specs.Model.{Model, joint_observations, obs_at, trans_at}
use Rattle.dp_spec.specs.Quantities.{class_weight_in, weighted_reward_in, weights_after_in}
use Rattle.dp_spec.specs.Steps.{advanced_front}
use Rattle.dp_spec.specs.Zeros.{KeepsZero, nothing}
use Rattle.dp_laws.proofs.AdvancedSpans.{pair_weight_in}
use Rattle.dp_laws.proofs.SpanSums.{span_sum_none}
use Rattle.dp_value.proofs.LinkedParts.{none_from}
use Rattle.dp_cluster.specs.Advances.{IsAdvanceable, IsLed, IsWeightless}
use Rattle.dp_cluster.specs.KeptFronts.{KeptFront}
use Rattle.dp_cluster.proofs.RunsOfWeights.{map_alike}

none_rewarded : (A : Arithmetic) → KeepsZero A → (m : Model) (r : ℕ) (ws : ℕ → Span) (a : ℕ)
    → ((s : ℕ) → s < m.states → ws s ≡ nothing) → weighted_reward_in A m r ws a ≡ nothing
unfolding weighted_reward_in
none_rewarded A z m r ws a none = span_sum_none m.states _ (λ s lt. none_from A z m r (ws s) a s (none s lt))

none_updated : (A : Arithmetic) → KeepsZero A → (m : Model) (ws : ℕ → Span) (a o t : ℕ)
    → ((s : ℕ) → s < m.states → ws s ≡ nothing) → weights_after_in A m ws a o t ≡ nothing
unfolding weights_after_in
none_updated A z m ws a o t none =
    span_sum_none m.states _ (λ s lt.
    ap (λ (w : Span). A.later (A.chance w (trans_at m a s t) (obs_at m a t o))) (none s lt)
    ∙ ap A.later (z.no_weight (trans_at m a s t) (obs_at m a t o)) ∙ z.later)

module _ (A : Arithmetic) (C : Calls) (m : Model) (k : KeptFront) (is : IsAdvanceable A C m k) (D : ℕ)
    (lt : D < product (class_counts k.front.agents)) (none : IsWeightless k D) where
  none_here : (s : ℕ) → s < m.states → class_weight_in A m k.front D s ≡ nothing
  none_here s p = sym (is.weights D s lt p) ∙ none s (subst (λ (n : ℕ). s < n) (sym is.states) p)

  pub nothing_earned : (r : ℕ)
      → nothing ≡ weighted_reward_in A m r (class_weight_in A m k.front D) (chosen_joint_action m k.front D)
  nothing_earned r = sym (none_rewarded A is.zeros m r (class_weight_in A m k.front D) _ none_here)

  pub nothing_follows : (o : ℕ) → o < joint_observations m → map (λ s. nothing) (range_with_len 0 m.states)
      ≡ map (class_weight_in A m (advanced_front m k.front)
      (pair_number (class_counts k.front.agents) m.observations D o)) (range_with_len 0 m.states)
  nothing_follows o po = map_alike (λ s. nothing) _ m.states (λ t pt.
      sym (pair_weight_in A m k.horizon k.front is.front is.steps D o t lt po
      ∙ none_updated A is.zeros m (class_weight_in A m k.front D) _ o t none_here))

-- one more joint class is led
pub led_next : (m : Model) (k : KeptFront) (os : List (Option ℕ)) (o : Option ℕ) (n : ℕ) → length os ≡ n
    → ((D : ℕ) → D < n → IsLed m k D (get_or os D None)) → IsLed m k n o
    → (D : ℕ) → D < n + 1 → IsLed m k D (get_or (os ++ o ∷ []) D None)
led_next m k os o n size before last D lt =
    elim (last_or_before D n (omega arith)) [
      | inl e ↦
          subst (λ (x : Option ℕ). IsLed m k D x) (sym (get_or_push os o None D (size ∙ sym e)))
          (subst (λ (c : ℕ). IsLed m k c o) (sym e) last)
      | inr inside ↦
          subst (λ (x : Option ℕ). IsLed m k D x) (sym (get_or_append_left os (o ∷ []) None D (rw size inside)))
          (before D inside)
    ]

-- what is known of the two cases
pub led_none : (m : Model) (k : KeptFront) (D : ℕ) (o : Option ℕ) → o ≡ None → IsLed m k D o → IsWeightless k D
led_none m k D o e led = subst (λ (x : Option ℕ). IsLed m k D x) e led

pub led_some : (m : Model) (k : KeptFront) (D : ℕ) (o : Option ℕ) (a : ℕ) → o ≡ Some a → IsLed m k D o
    → a ≡ chosen_joint_action m k.front D
led_some m k D o a e led = (subst (λ (x : Option ℕ). IsLed m k D x) e led).0
