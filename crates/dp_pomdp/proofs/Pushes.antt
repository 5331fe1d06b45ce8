-- Weights one step later, from the states before them.
use Rattle.std.proofs.Common.{◌≡◌, ℕ, suc, ◌^◌, ◌<◌, ◌≤◌, true, pos, ◌≤ℤ◌, List, length, get_or, refl, sym, ap, ◌∙◌}
use Rattle.std.proofs.Common.{arith}
use Rattle.std.proofs.lemmas.Int.{ints}
use Rattle.dp_base.specs.Sums.{nat_sum}
use Rattle.dp_spec.specs.declared.span.Span.{Span}
use Rattle.dp_spec.specs.Model.{Model, joint_actions, joint_observations, obs_at, trans_at}
use Rattle.dp_spec.specs.Arithmetic.{Arithmetic}
use Rattle.dp_spec.specs.Calls.{Calls, size}
use Rattle.dp_spec.specs.Quantities.{span_sum, weights_after_in}
use Rattle.dp_spec.specs.Zeros.{KeepsZero, nothing}
use Rattle.dp_laws.proofs.SizeSums.{span_sum_part}
use Rattle.dp_laws.proofs.SpanSums.{span_sum_none}
use Rattle.dp_links.specs.Links.{linked, step_chance}
use Rattle.dp_links.proofs.LinkSums.{at_item, those_below, those_count, those_sum}
use Rattle.dp_pomdp.specs.Looking.{IsBeforeHorizon, IsLooking, updated_part, weights_of}

-- ---- what adds nothing

-- a weight whose upper end is 0
pub weight_is_none : (w : Span) → pos 0 ≤ℤ w.low → w.low ≤ℤ w.high → w.high ≡ pos 0 → w ≡ nothing
weight_is_none w from order e = let low : w.low ≡ pos 0 = omega (arith, ints) in rw (low, e) refl

pub no_weight : (A : Arithmetic) (C : Calls) (m : Model) (r : ℕ) (ws : List Span) → IsLooking A C m r ws
    → (s : ℕ) → s < m.states → (weights_of ws s).high ≡ pos 0 → weights_of ws s ≡ nothing
no_weight A C m r ws is s state e =
    weight_is_none (weights_of ws s) (is.weights.from s state) (is.weights.order s state) e

part_of_none : (A : Arithmetic) → KeepsZero A → (w : Span) (p z : ℕ) → w ≡ nothing
    → A.later (A.chance w p z) ≡ nothing
part_of_none A keeps w p z e = rw (e, keeps.no_weight p z) keeps.later

pub unlikely_next : (A : Arithmetic) → KeepsZero A → (w : Span) (p z : ℕ) → p ≡ 0
    → nothing ≡ A.later (A.chance w p z)
unlikely_next A keeps w p z e = rw (e, keeps.no_next w z) (sym keeps.later)

pub unlikely_seen : (A : Arithmetic) → KeepsZero A → (w : Span) (p z : ℕ) → z ≡ 0
    → nothing ≡ A.later (A.chance w p z)
unlikely_seen A keeps w p z e = rw (e, keeps.no_seen w p) (sym keeps.later)

-- ---- the states before it

-- with a joint observation of chance 0 nothing comes
pub none_seen : (A : Arithmetic) → KeepsZero A → (m : Model) (ws : ℕ → Span) (a o t : ℕ) → obs_at m a t o ≡ 0
    → nothing ≡ weights_after_in A m ws a o t
unfolding weights_after_in
none_seen A z m ws a o t e = sym (span_sum_none m.states _
    (λ s lt. sym (unlikely_seen A z (ws s) (trans_at m a s t) (obs_at m a t o) e)))

-- and from a state of chance 0
pub none_before : (A : Arithmetic) → KeepsZero A → (m : Model) (ws : List Span) (a o t s : ℕ)
    → step_chance m true a t s ≡ 0 → updated_part A m ws a o t s ≡ nothing
none_before A z m ws a o t s e =
    sym (unlikely_next A z (weights_of ws s) (trans_at m a s t) (obs_at m a t o) e)

-- a place of the list
pub before_below : (m : Model) (a t k : ℕ) (xs : List ℕ) → xs ≡ linked m true a t → k < length xs
    → get_or xs k 0 < m.states
before_below m a t k xs is lt = rw is (those_below (step_chance m true a t) m.states k (rw is at lt))

-- all parts of the list together
pub weight_is : (A : Arithmetic) → KeepsZero A → (m : Model) (ws : List Span) (a o t k : ℕ) (xs : List ℕ)
    (total : Span) → xs ≡ linked m true a t → total ≡ span_sum k (at_item (updated_part A m ws a o t) xs)
    → k ≡ length xs → total ≡ weights_after_in A m (weights_of ws) a o t
unfolding weights_after_in
weight_is A z m ws a o t k xs total is e all =
    e ∙ ap (λ n. span_sum n (at_item (updated_part A m ws a o t) xs)) all
    ∙ ap (λ (l : List ℕ). span_sum (length l) (at_item (updated_part A m ws a o t) l)) is
    ∙ those_sum (step_chance m true a t) (updated_part A m ws a o t) m.states (none_before A z m ws a o t)

-- ---- what is allowed

module _ (A : Arithmetic) (C : Calls) (m : Model) (ws : List Span) (is : IsBeforeHorizon A C m ws) (a o : ℕ)
    (pa : a < joint_actions m) (po : o < joint_observations m) (t : ℕ) (pt : t < m.states) where
  early : is.1.time < is.1.horizon
  early = let left = is.1.left in omega arith

  pub may_chance : (s : ℕ) → s < m.states → C.Chance (weights_of ws s) (trans_at m a s t) (obs_at m a t o)
  may_chance s ps =
      is.1.push.chance is.1.time (weights_of ws) a s t o early is.1.weights
      (record { action = pa; state = ps; next = pt; seen = po })

  pub may_later : (s : ℕ) → s < m.states → C.Later (A.chance (weights_of ws s) (trans_at m a s t)
      (obs_at m a t o))
  may_later s ps =
      is.1.push.later is.1.time (weights_of ws) a s t o early is.1.weights
      (record { action = pa; state = ps; next = pt; seen = po })

  -- the first parts of the list
  pub may_add : (xs : List ℕ) → xs ≡ linked m true a t → (k : ℕ) → k ≤ length xs
      → size (span_sum k (at_item (updated_part A m ws a o t) xs)) < 2 ^ 127
  may_add xs list k le =
      let all = is.1.push.add is.1.time (weights_of ws) a t o early is.1.weights pa pt po in
      let part = span_sum_part k (length xs) (at_item (updated_part A m ws a o t) xs) le in
      let few : nat_sum (length xs) (λ j. size (updated_part A m ws a o t (get_or xs j 0)))
      ≤ nat_sum m.states (λ s. size (updated_part A m ws a o t s)) =
      rw list (those_count (step_chance m true a t) (λ s. size (updated_part A m ws a o t s)) m.states) in
      omega (arith, all, part, few)

-- a weight of 0 gives nothing
pub part_none : (A : Arithmetic) (C : Calls) (m : Model) (ws : List Span) → IsBeforeHorizon A C m ws → (a o t s : ℕ)
    → s < m.states → (weights_of ws s).high ≡ pos 0 → nothing ≡ updated_part A m ws a o t s
part_none A C m ws is a o t s ps e = sym (part_of_none A is.1.zero (weights_of ws s) (trans_at m a s t)
    (obs_at m a t o) (no_weight A C m (suc is.0) ws is.1 s ps e))
