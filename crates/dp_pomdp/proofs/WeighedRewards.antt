-- The reward of a joint action from weights in exact numbers, by what the table says of the last step.
use Rattle.std.proofs.Common.{◌≡◌, ℕ, zero, suc, ◌*◌, ◌^◌, ◌<◌, ◌≤◌, true, ℤ, pos, negsuc, ◌+ℤ◌, ◌*ℤ◌, ◌≤ℤ◌, List, []}
use Rattle.std.proofs.Common.{get_or, length, unsigned_abs, refl, sym, ap, ◌∙◌, subst, arith}
use Rattle.std.proofs.Math.IntN.{zero-*ℤ}
use Rattle.std.proofs.lemmas.Int.{ints}
use Rattle.dp_base.specs.Sums.{int_sum, nat_sum}
use Rattle.dp_base.proofs.NaturalSumLaws.{nat_sum_at}
use Rattle.dp_base.proofs.Ring.{v, nat, ◌⊕◌, ◌⊗◌, by_ring}
use Rattle.dp_spec.specs.declared.scales.Scales.{Scales}
use Rattle.dp_spec.specs.declared.span.Span.{Span}
use Rattle.dp_spec.specs.Arithmetic.{Arithmetic, exact, reward_factor}
use Rattle.dp_spec.specs.Calls.{Calls, size}
use Rattle.dp_spec.specs.Model.{Model, joint_actions, joint_observations, obs_at, reward_at, trans_at}
use Rattle.dp_spec.specs.Quantities.{span_sum, weighted_reward_in}
use Rattle.dp_mdp.specs.Building.{IsPower}
use Rattle.dp_mdp.specs.StepRewards.{arrival_reward, reward_part, state_reward}
use Rattle.dp_mdp.specs.TableRows.{IsTable, KeptTable}
use Rattle.dp_pomdp.specs.Looking.{IsLooking, WeighsRewards, weighed_part, weights_of}
use Rattle.dp_pomdp.proofs.Rewards.{from_state, parts_fit, parts_from, reward_from, rewards_are_all, rewards_fit}

-- ---- sums

one_more : (c a b : ℤ) → c *ℤ a +ℤ c *ℤ b ≡ c *ℤ (a +ℤ b)
one_more c a b = by_ring (v c ⊗ v a ⊕ v c ⊗ v b) (v c ⊗ (v a ⊕ v b)) (omega arith)

times_none : (c : ℤ) → pos 0 ≡ c *ℤ pos 0
times_none c = omega (arith, ints)

-- a sum of parts that are each c times others
weighed_sum : (n : ℕ) (f g : ℕ → Span) (c : ℤ) → ((i : ℕ) → (f i).high ≡ c *ℤ (g i).high)
    → (span_sum n f).high ≡ c *ℤ (span_sum n g).high
weighed_sum zero f g c h = times_none c
weighed_sum (suc n) f g c h =
    rw (weighed_sum n f g c h, h n) (one_more c (span_sum n g).high (g n).high)

into_sum : (a b c : ℤ) → a *ℤ c +ℤ b *ℤ c ≡ (a +ℤ b) *ℤ c
into_sum a b c = by_ring (v a ⊗ v c ⊕ v b ⊗ v c) ((v a ⊕ v b) ⊗ v c) (omega arith)

grown_sum : (n : ℕ) (f : ℕ → Span) (g : ℕ → ℤ) (c : ℤ) → ((i : ℕ) → i < n → (f i).high ≡ g i *ℤ c)
    → (span_sum n f).high ≡ int_sum n g *ℤ c
grown_sum zero f g c h = sym (zero-*ℤ c)
grown_sum (suc n) f g c h =
    rw (grown_sum n f g c (λ i p. h i (omega arith)), h n (omega arith)) (into_sum (int_sum n g) (g n) c)

-- ---- a weight, by the weight 1

gained : (w r : ℤ) (p f : ℕ) → w *ℤ pos p *ℤ (r *ℤ pos f) ≡ w *ℤ (pos 1 *ℤ pos p *ℤ (r *ℤ pos f))
gained w r p f =
    by_ring (v w ⊗ nat p ⊗ (v r ⊗ nat f)) (v w ⊗ (nat 1 ⊗ nat p ⊗ (v r ⊗ nat f))) (omega arith)

pub exact_weighs : (m : Model) (c : Scales) → WeighsRewards (exact c) m
unfolding exact state_reward
exact_weighs m c w a s =
    weighed_sum m.states (arrival_reward (exact c) m 0 w a s) (arrival_reward (exact c) m 0 (exact c).one a s) w.high
    (λ t. weighed_sum (joint_observations m) (reward_part (exact c) m 0 w a s t)
    (reward_part (exact c) m 0 (exact c).one a s t) w.high
    (λ o. gained w.high (reward_at m a s t o) (trans_at m a s t * obs_at m a t o) (reward_factor c 0)))

-- ---- sizes

size_high : (w : Span) → unsigned_abs w.high ≤ size w
size_high w = omega arith

-- a number is no greater in magnitude than a multiple of it
abs_grows : (x p : ℤ) → pos 1 ≤ℤ p → unsigned_abs x ≤ unsigned_abs (x *ℤ p)
abs_grows x (pos (suc n)) some = grind (arith, ints)
abs_grows x (pos zero) some = absurd (omega (arith, ints))
abs_grows x (negsuc n) some = absurd (omega (arith, ints))

-- ---- the reward from weights

module _ (A : Arithmetic) (C : Calls) (m : Model) (r : ℕ) (ws : List Span) (is : IsLooking A C m (suc r) ws)
    (a : ℕ) (pa : a < joint_actions m) (exact : A.is_exact ≡ true) (t : KeptTable) (table : IsTable A m (suc r) t)
  where
    abbrev rewards : List ℤ
    rewards = get_or t.rewards a []

    abbrev power : ℤ
    power = get_or t.powers r (pos 0)

    is_power : IsPower A m r power
    is_power = table.powers r (omega arith)

    pub as_many : length rewards ≡ m.states
    as_many = (table.rewards.values a pa).one_each

    part_is : (s : ℕ) → s < m.states → (reward_from A m r ws a s).high ≡ weighed_part rewards ws s *ℤ power
    part_is s ps =
        is_power.grows (weights_of ws s) a s
        ∙ ap (λ x. x *ℤ power) (is.weighs exact (weights_of ws s) a s
        ∙ ap (λ x. (weights_of ws s).high *ℤ x) (sym ((table.rewards.values a pa).values s ps)))

    sum_is : (k : ℕ) → k ≤ m.states
        → (span_sum k (reward_from A m r ws a)).high ≡ int_sum k (weighed_part rewards ws) *ℤ power
    sum_is k le = grown_sum k (reward_from A m r ws a) (weighed_part rewards ws) power
        (λ s lt. part_is s (omega arith))

    pub part_fits : (s : ℕ) → s < length rewards → unsigned_abs (weighed_part rewards ws s) < 2 ^ 127
    part_fits s lt =
        let many = as_many in
        let ps : s < m.states = omega arith in
        let grows = abs_grows (weighed_part rewards ws s) power is_power.some in
        let high = size_high (reward_from A m r ws a s) in
        let same : unsigned_abs (reward_from A m r ws a s).high ≡ unsigned_abs (weighed_part rewards ws s *ℤ power) =
        ap unsigned_abs (part_is s ps) in
        let part = from_state A m r ws a s in
        let one = nat_sum_at m.states (parts_from A m r ws a) s ps in
        let all = all_parts in
        omega (arith, grows, high, same, part, one, all)
      where
        all_parts : nat_sum m.states (parts_from A m r ws a) < 2 ^ 127
        all_parts = parts_fit A C m r ws is a pa

    pub whole_fits : (k : ℕ) → k ≤ length rewards
        → unsigned_abs (int_sum k (weighed_part rewards ws) *ℤ power) < 2 ^ 127
    whole_fits k le =
        let many = as_many in
        let few : k ≤ m.states = omega arith in
        let fit = rewards_fit A C m r ws is a pa k few in
        let high = size_high (span_sum k (reward_from A m r ws a)) in
        let same : unsigned_abs (span_sum k (reward_from A m r ws a)).high
        ≡ unsigned_abs (int_sum k (weighed_part rewards ws) *ℤ power) = ap unsigned_abs (sum_is k few) in
        omega (arith, fit, high, same)

    pub sum_fits : (k : ℕ) → k ≤ length rewards → unsigned_abs (int_sum k (weighed_part rewards ws)) < 2 ^ 127
    sum_fits k le =
        let grows = abs_grows (int_sum k (weighed_part rewards ws)) power is_power.some in
        let whole = whole_fits k le in omega (arith, grows, whole)

    -- it is the reward
    pub weighed_is : (x : ℤ) → x ≡ int_sum (length rewards) (weighed_part rewards ws) *ℤ power
        → x ≡ (weighted_reward_in A m r (weights_of ws) a).high
    weighed_is x e =
        let many = as_many in
        e ∙ ap (λ (n : ℕ). int_sum n (weighed_part rewards ws) *ℤ power) many ∙ sym (sum_is m.states (omega arith))
        ∙ rewards_are_all A C m r ws is a pa m.states (span_sum m.states (reward_from A m r ws a)) refl refl

-- ---- as they are read

pub read_fits : (ws : List Span) (xs ys : List ℤ) (x p : ℤ) → xs ≡ ys → x ≡ p
    → unsigned_abs (int_sum (length ys) (weighed_part ys ws) *ℤ p) < 2 ^ 127
    → unsigned_abs (int_sum (length xs) (weighed_part xs ws) *ℤ x) < 2 ^ 127
read_fits ws xs ys x p same is fit =
    subst (λ (l : List ℤ). unsigned_abs (int_sum (length l) (weighed_part l ws) *ℤ x) < 2 ^ 127) (sym same)
    (subst (λ (y : ℤ). unsigned_abs (int_sum (length ys) (weighed_part ys ws) *ℤ y) < 2 ^ 127) (sym is) fit)

pub read_is : (ws : List Span) (xs ys : List ℤ) (x p v : ℤ) → xs ≡ ys → x ≡ p
    → v ≡ int_sum (length xs) (weighed_part xs ws) *ℤ x → v ≡ int_sum (length ys) (weighed_part ys ws) *ℤ p
read_is ws xs ys x p v same is e =
    e ∙ ap (λ (l : List ℤ). int_sum (length l) (weighed_part l ws) *ℤ x) same
    ∙ ap (λ (y : ℤ). int_sum (length ys) (weighed_part ys ws) *ℤ y) is
