-- Weights times a factor have that many times the look-ahead, in exact numbers.
use Rattle.std.proofs.Common.{◌≡◌, ℕ, zero, suc, ◌-◌, ◌*◌, ◌<◌, ℤ, pos, ◌+ℤ◌, ◌*ℤ◌, sym, ap, ◌∙◌, arith}
use Rattle.dp_base.proofs.GreatestValues.{greatest_ext, greatest_times}
use Rattle.dp_base.proofs.NaturalSumLaws.{nat_sum_ext, nat_sum_times}
use Rattle.dp_base.proofs.Ring.{v, nat, ◌⊗◌, by_ring, zmul_add}
use Rattle.dp_base.proofs.Sums.{int_sum_ext, int_sum_mul}
use Rattle.dp_base.specs.Sums.{int_sum, nat_sum, numbers_below}
use Rattle.dp_spec.specs.declared.span.Span.{Span}
use Rattle.dp_spec.specs.Arithmetic.{exact, point}
use Rattle.dp_spec.specs.LookAhead.{action_look_ahead, look_ahead, weighted_reward, weights_after}
use Rattle.dp_spec.specs.MdpTable.{mdp_table}
use Rattle.dp_spec.specs.Model.{IsModel, Model, joint_actions, joint_observations, obs_at, trans_at}
use Rattle.dp_spec.specs.Quantities.{action_look_ahead_in, look_ahead_in}
use Rattle.dp_laws.proofs.LinearSteps.{reward_by_state, state_reward}
use Rattle.dp_laws.proofs.QuantityLaws.{exact_quantities}
use Rattle.std.proofs.Math.IntN.{*ℤ-zero}

factor_out : (k w : ℕ) (x : ℤ) → pos (k * w) *ℤ x ≡ pos k *ℤ (pos w *ℤ x)
factor_out k w x = by_ring (nat (k * w) ⊗ v x) (nat k ⊗ (nat w ⊗ v x)) (omega arith)

-- a sum of weights against numbers
weighed : (n k : ℕ) (w : ℕ → ℕ) (f : ℕ → ℤ)
    → int_sum n (λ s. pos (k * w s) *ℤ f s) ≡ pos k *ℤ int_sum n (λ s. pos (w s) *ℤ f s)
weighed n k w f = int_sum_ext n _ _ (λ s p. factor_out k (w s) (f s))
    ∙ int_sum_mul (pos k) n (λ s. pos (w s) *ℤ f s)

part_factor : (k w x : ℕ) → k * w * x ≡ w * x * k
part_factor k w x = omega arith

factor_first : (x k : ℕ) → x * k ≡ k * x
factor_first x k = omega arith

module _ (m : Model) (k : ℕ) where
  -- the weights one step on
  scaled_next : (w : ℕ → ℕ) (a o t : ℕ) → weights_after m (λ s. k * w s) a o t ≡ k * weights_after m w a o t
  unfolding weights_after
  scaled_next w a o t =
      let K = λ (s : ℕ). trans_at m a s t * obs_at m a t o * m.scales.gain in
      nat_sum_ext m.states _ (λ s. w s * K s * k) (λ s p. part_factor k (w s) (K s))
      ∙ nat_sum_times m.states (λ s. w s * K s) k
      ∙ factor_first (nat_sum m.states (λ s. w s * K s)) k

  -- the reward of a joint action
  scaled_reward : (r : ℕ) (w : ℕ → ℕ) (a : ℕ) → weighted_reward m r (λ s. k * w s) a
      ≡ pos k *ℤ weighted_reward m r w a
  scaled_reward r w a =
      reward_by_state m r (λ s. k * w s) a ∙ weighed m.states k w (λ s. state_reward m r a s)
      ∙ ap (λ (x : ℤ). pos k *ℤ x) (sym (reward_by_state m r w a))

  -- a joint action's reward and the look-aheads after it, where these scale
  scaled_step : (r look : ℕ) (w : ℕ → ℕ) (a : ℕ)
      → ((u : ℕ → ℕ) → look_ahead m r (λ s. k * u s) look ≡ pos k *ℤ look_ahead m r u look) →
      weighted_reward m r (λ s. k * w s) a +ℤ int_sum (joint_observations m)
      (λ o. look_ahead m r (weights_after m (λ s. k * w s) a o) look)
      ≡ pos k *ℤ (weighted_reward m r w a +ℤ int_sum (joint_observations m)
      (λ o. look_ahead m r (weights_after m w a o) look))
  scaled_step r look w a scales =
      let O = joint_observations m in
      let L = λ (o : ℕ). look_ahead m r (weights_after m w a o) look in
      let later : int_sum O (λ o. look_ahead m r (weights_after m (λ s. k * w s) a o) look)
      ≡ pos k *ℤ int_sum O L =
      int_sum_ext O _ (λ o. pos k *ℤ L o) (λ o p.
      ap (λ (u : ℕ → ℕ). look_ahead m r u look) (λ j t. scaled_next w a o t j) ∙ scales (weights_after m w a o))
      ∙ int_sum_mul (pos k) O L in
      (λ j. scaled_reward r w a j +ℤ later j) ∙ sym (zmul_add (pos k) (weighted_reward m r w a) (int_sum O L))

  -- look-ahead
  scaled_look_ahead : (r look : ℕ) (w : ℕ → ℕ) → look_ahead m r (λ s. k * w s) look
      ≡ pos k *ℤ look_ahead m r w look
  scaled_look_ahead zero look w = sym (*ℤ-zero (pos k))
  scaled_look_ahead (suc r) zero w = weighed m.states k w (mdp_table m (suc r))
  scaled_look_ahead (suc r) (suc look) w =
      let whole = λ (a : ℕ). weighted_reward m r w a +ℤ int_sum (joint_observations m)
      (λ o. look_ahead m r (weights_after m w a o) look) in
      greatest_ext _ (λ a. pos k *ℤ whole a) (numbers_below (joint_actions m))
      (λ a i. scaled_step r look w a (scaled_look_ahead r look))
      ∙ greatest_times k whole (numbers_below (joint_actions m))

  -- look-ahead of a joint action
  scaled_action_look_ahead : (r look : ℕ) (w : ℕ → ℕ) (a : ℕ)
      → action_look_ahead m r (λ s. k * w s) a look ≡ pos k *ℤ action_look_ahead m r w a look
  unfolding action_look_ahead
  scaled_action_look_ahead r look w a = scaled_step r (look - 1) w a (scaled_look_ahead r (look - 1))

-- ---- in the exact arithmetic

module _ (m : Model) (is : IsModel m) (k : ℕ) (w : ℕ → ℕ) (ws vs : ℕ → Span)
    (here : (s : ℕ) → s < m.states → ws s ≡ point (pos (w s)))
    (scaled : (s : ℕ) → s < m.states → vs s ≡ point (pos (k * w s))) where
  scaled_look_ahead_in : (r look : ℕ)
      → look_ahead_in (exact m.scales) m r vs look ≡ pos k *ℤ look_ahead_in (exact m.scales) m r ws look
  scaled_look_ahead_in r look =
      let quantities = exact_quantities m is in
      quantities.look_aheads 1 r look (λ s. k * w s) vs scaled
      ∙ scaled_look_ahead m k r look w
      ∙ ap (λ (x : ℤ). pos k *ℤ x) (sym (quantities.look_aheads 1 r look w ws here))

  scaled_action_look_ahead_in : (r look a : ℕ)
      → action_look_ahead_in (exact m.scales) m r vs a look ≡ pos k *ℤ action_look_ahead_in (exact m.scales)
      m r ws a look
  scaled_action_look_ahead_in r look a =
      let quantities = exact_quantities m is in
      quantities.action_look_aheads 1 r look (λ s. k * w s) vs a scaled
      ∙ scaled_action_look_ahead m k r look w a
      ∙ ap (λ (x : ℤ). pos k *ℤ x) (sym (quantities.action_look_aheads 1 r look w ws a here))

-- with all premises in order
pub scaled_spans_look_ahead : (m : Model) → IsModel m → (r look k : ℕ) (w : ℕ → ℕ) (ws vs : ℕ → Span)
    → ((s : ℕ) → s < m.states → ws s ≡ point (pos (w s))) → ((s : ℕ) → s < m.states
    → vs s ≡ point (pos (k * w s)))
    → look_ahead_in (exact m.scales) m r vs look ≡ pos k *ℤ look_ahead_in (exact m.scales) m r ws look
scaled_spans_look_ahead m is r look k w ws vs here scaled = scaled_look_ahead_in m is k w ws vs here scaled r
    look

pub scaled_spans_action_look_ahead : (m : Model) → IsModel m → (r look k a : ℕ) (w : ℕ → ℕ) (ws vs : ℕ → Span)
    → ((s : ℕ) → s < m.states → ws s ≡ point (pos (w s))) → ((s : ℕ) → s < m.states
    → vs s ≡ point (pos (k * w s)))
    → action_look_ahead_in (exact m.scales) m r vs a look ≡ pos k *ℤ action_look_ahead_in (exact m.scales)
    m r ws a look
scaled_spans_action_look_ahead m is r look k a w ws vs here scaled =
    scaled_action_look_ahead_in m is k w ws vs here scaled r look a

-- for any model and factor
pub look_ahead_of_scaled : (m : Model) (r look k : ℕ) (w : ℕ → ℕ)
    → look_ahead m r (λ s. k * w s) look ≡ pos k *ℤ look_ahead m r w look
look_ahead_of_scaled m r look k w = scaled_look_ahead m k r look w

pub action_look_ahead_of_scaled : (m : Model) (r look k : ℕ) (w : ℕ → ℕ) (a : ℕ)
    → action_look_ahead m r (λ s. k * w s) a look ≡ pos k *ℤ action_look_ahead m r w a look
action_look_ahead_of_scaled m r look k w a = scaled_action_look_ahead m k r look w a
