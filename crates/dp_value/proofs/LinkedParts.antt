-- Weights and rewards over the steps of a chance above 0: the others add nothing.
use Rattle.std.proofs.Common.{◌≡◌, ℕ, ℤ, suc, ◌^◌, ◌<◌, ◌≤◌, Bool, true, false, List, length, get_or, refl, sym, ap}
use Rattle.std.proofs.Common.{◌∙◌, arith}
use Rattle.dp_base.specs.Sums.{nat_sum}
use Rattle.dp_spec.specs.declared.span.Span.{Span}
use Rattle.dp_spec.specs.Arithmetic.{Arithmetic}
use Rattle.dp_spec.specs.Calls.{Calls, size}
use Rattle.dp_spec.specs.Model.{Model, joint_actions, joint_observations, obs_at, reward_at, trans_at}
use Rattle.dp_spec.specs.Quantities.{span_sum, weights_after_in}
use Rattle.dp_spec.specs.Zeros.{KeepsZero, nothing}
use Rattle.dp_laws.proofs.SizeSums.{reward_state_le, span_sum_part, span_sum_size}
use Rattle.dp_laws.proofs.SpanSums.{span_add_none, span_sum_none}
use Rattle.dp_base.proofs.NaturalSumLaws.{nat_sum_le}
use Rattle.dp_links.specs.Links.{linked, step_chance}
use Rattle.dp_value.specs.Rewards.{IsRewardable, reward_arriving, reward_from, reward_part}
use Rattle.dp_value.specs.WeightUpdates.{AreUpdatable}
use Rattle.dp_links.proofs.LinkSums.{at_item, those_below, those_count, those_sum}
use Rattle.dp_value.proofs.RewardSums.{whole}
use Rattle.dp_value.proofs.WeightUpdates.{updated_part}

-- a term of nothing may be left out of a sum
pub skip_nothing : (k : ℕ) (f : ℕ → Span) (total : Span) → total ≡ span_sum k f → f k ≡ nothing
    → total ≡ span_sum (suc k) f
skip_nothing k f total e none = rw (e, none, span_add_none (span_sum k f)) refl

-- a step of chance 0, a joint observation of chance 0, and a weight of 0 give nothing, later and in rewards
later_step : (A : Arithmetic) → KeepsZero A → (w : Span) (p o : ℕ) → p ≡ 0 → A.later (A.chance w p o) ≡ nothing
later_step A z w p o e = rw (e, z.no_next w o, z.later) refl

later_seen : (A : Arithmetic) → KeepsZero A → (w : Span) (p o : ℕ) → o ≡ 0 → A.later (A.chance w p o) ≡ nothing
later_seen A z w p o e = rw (e, z.no_seen w p, z.later) refl

gain_step : (A : Arithmetic) → KeepsZero A → (w : Span) (p o : ℕ) (x : ℤ) (r : ℕ) → p ≡ 0
    → A.gain (A.chance w p o) x r ≡ nothing
gain_step A z w p o x r e = rw (e, z.no_next w o, z.gain x r) refl

gain_seen : (A : Arithmetic) → KeepsZero A → (w : Span) (p o : ℕ) (x : ℤ) (r : ℕ) → o ≡ 0
    → A.gain (A.chance w p o) x r ≡ nothing
gain_seen A z w p o x r e = rw (e, z.no_seen w p, z.gain x r) refl

gain_from : (A : Arithmetic) → KeepsZero A → (w : Span) (p o : ℕ) (x : ℤ) (r : ℕ) → w ≡ nothing
    → A.gain (A.chance w p o) x r ≡ nothing
gain_from A z w p o x r e = rw (e, z.no_weight p o, z.gain x r) refl

-- ---- weights

-- what comes by a step of chance 0 is nothing
pub none_before : (A : Arithmetic) → KeepsZero A → (m : Model) (ws : ℕ → Span) (a o u s : ℕ)
    → step_chance m true a u s ≡ 0 → updated_part A m ws a o u s ≡ nothing
none_before A z m ws a o u s e = later_step A z (ws s) (trans_at m a s u) (obs_at m a u o) e

-- and what comes with a joint observation of chance 0
pub none_seen : (A : Arithmetic) → KeepsZero A → (m : Model) (ws : ℕ → Span) (a o u : ℕ) → obs_at m a u o ≡ 0
    → nothing ≡ weights_after_in A m ws a o u
unfolding weights_after_in
none_seen A z m ws a o u e = sym (span_sum_none m.states (updated_part A m ws a o u)
    (λ s lt. later_seen A z (ws s) (trans_at m a s u) (obs_at m a u o) e))

pub weight_is : (A : Arithmetic) → KeepsZero A → (m : Model) (ws : ℕ → Span) (a o u k : ℕ) (xs : List ℕ)
    (total : Span) → xs ≡ linked m true a u → total ≡ span_sum k (at_item (updated_part A m ws a o u) xs)
    → k ≡ length xs → total ≡ weights_after_in A m ws a o u
unfolding weights_after_in
weight_is A z m ws a o u k xs total is e all =
    e ∙ ap (λ n. span_sum n (at_item (updated_part A m ws a o u) xs)) all
    ∙ ap (λ (l : List ℕ). span_sum (length l) (at_item (updated_part A m ws a o u) l)) is
    ∙ those_sum (step_chance m true a u) (updated_part A m ws a o u) m.states (none_before A z m ws a o u)

-- a place of the list of a state
pub linked_below : (m : Model) (backwards : Bool) (a u k : ℕ) (xs : List ℕ) → xs ≡ linked m backwards a u
    → k < length xs → get_or xs k 0 < m.states
linked_below m backwards a u k xs is lt = rw is (those_below (step_chance m backwards a u) m.states k (rw is at lt))

module _ (A : Arithmetic) (C : Calls) (m : Model) (ws : ℕ → Span) (p : AreUpdatable A C m ws) (a o u : ℕ)
    (pa : a < joint_actions m) (po : o < joint_observations m) (pu : u < m.states) where
  -- the sum of the first parts of the list
  pub may_add_linked : (xs : List ℕ) → xs ≡ linked m true a u → (k : ℕ) → k ≤ length xs
      → size (span_sum k (at_item (updated_part A m ws a o u) xs)) < 2 ^ 127
  may_add_linked xs is k le =
      let all = p.can.add p.time ws a u o p.early p.weights pa pu po in
      let part = span_sum_part k (length xs) (at_item (updated_part A m ws a o u) xs) le in
      let few : nat_sum (length xs) (λ j. size (updated_part A m ws a o u (get_or xs j 0)))
      ≤ nat_sum m.states (λ s. size (updated_part A m ws a o u s)) =
      rw is (those_count (step_chance m true a u) (λ s. size (updated_part A m ws a o u s)) m.states) in
      omega (arith, all, part, few)

-- ---- rewards

-- what a step of chance 0 earns is nothing
pub none_after : (A : Arithmetic) → KeepsZero A → (m : Model) (r : ℕ) (w : Span) (a s t : ℕ)
    → step_chance m false a s t ≡ 0 → reward_arriving A m r w a s t ≡ nothing
none_after A z m r w a s t e = span_sum_none (joint_observations m) (reward_part A m r w a s t)
    (λ o lt. gain_step A z w (trans_at m a s t) (obs_at m a t o) (reward_at m a s t o) r e)

-- and so is what a joint observation of chance 0 earns
pub none_observed : (A : Arithmetic) → KeepsZero A → (m : Model) (r : ℕ) (w : Span) (a s t o : ℕ)
    → obs_at m a t o ≡ 0 → reward_part A m r w a s t o ≡ nothing
none_observed A z m r w a s t o e =
    gain_seen A z w (trans_at m a s t) (obs_at m a t o) (reward_at m a s t o) r e

-- and what a weight of 0 earns
pub none_from : (A : Arithmetic) → KeepsZero A → (m : Model) (r : ℕ) (w : Span) (a s : ℕ) → w ≡ nothing
    → reward_from A m r w a s ≡ nothing
none_from A z m r w a s e = span_sum_none m.states (reward_arriving A m r w a s)
    (λ t lt. span_sum_none (joint_observations m) (reward_part A m r w a s t)
    (λ o lu. gain_from A z w (trans_at m a s t) (obs_at m a t o) (reward_at m a s t o) r e))

pub reward_after_is : (A : Arithmetic) → KeepsZero A → (m : Model) (r : ℕ) (w : Span) (a s k : ℕ) (xs : List ℕ)
    (total : Span) → xs ≡ linked m false a s → total ≡ span_sum k (at_item (reward_arriving A m r w a s) xs)
    → k ≡ length xs → total ≡ reward_from A m r w a s
reward_after_is A z m r w a s k xs total is e all =
    e ∙ ap (λ n. span_sum n (at_item (reward_arriving A m r w a s) xs)) all
    ∙ ap (λ (l : List ℕ). span_sum (length l) (at_item (reward_arriving A m r w a s) l)) is
    ∙ those_sum (step_chance m false a s) (reward_arriving A m r w a s) m.states (none_after A z m r w a s)

module _ (A : Arithmetic) (C : Calls) (m : Model) (r : ℕ) (ws : ℕ → Span) (p : IsRewardable A C m r ws) (a : ℕ)
    (pa : a < joint_actions m) (s : ℕ) (ps : s < m.states) where
  -- the sum of the first parts of the list
  pub may_add_after : (xs : List ℕ) → xs ≡ linked m false a s → (k : ℕ) → k ≤ length xs
      → size (span_sum k (at_item (reward_arriving A m r (ws s) a s) xs)) < 2 ^ 127
  may_add_after xs is k le =
      let O = joint_observations m in
      let S = m.states in
      let part = span_sum_part k (length xs) (at_item (reward_arriving A m r (ws s) a s) xs) le in
      let few : nat_sum (length xs) (λ j. size (reward_arriving A m r (ws s) a s (get_or xs j 0)))
      ≤ nat_sum m.states (λ t. size (reward_arriving A m r (ws s) a s t)) =
      rw is (those_count (step_chance m false a s) (λ t. size (reward_arriving A m r (ws s) a s t)) m.states) in
      let inner = nat_sum_le S (λ t. size (reward_arriving A m r (ws s) a s t))
      (λ t. nat_sum O (λ o. size (reward_part A m r (ws s) a s t o)))
      (λ t u. span_sum_size O (reward_part A m r (ws s) a s t)) in
      let most = reward_state_le A m r ws a s ps in
      let all = whole A C m r ws p a pa in omega (arith, part, few, inner, most, all)
