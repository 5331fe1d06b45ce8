-- Look-ahead after a joint action, over the joint observations that may be seen alone.
use Rattle.std.proofs.Common.{◌≡◌, ℕ, suc, ◌-◌, ◌^◌, ◌<◌, ◌≤◌, ℤ, pos, ◌+ℤ◌, List, length, get_or, unsigned_abs}
use Rattle.std.proofs.Common.{sym, ap, ◌∙◌, arith}
use Rattle.dp_base.specs.Sums.{int_sum, nat_sum}
use Rattle.dp_base.proofs.NaturalSumLaws.{nat_sum_none}
use Rattle.dp_spec.specs.declared.span.Span.{Span}
use Rattle.dp_spec.specs.Arithmetic.{Arithmetic, point}
use Rattle.dp_spec.specs.Calls.{Calls}
use Rattle.dp_spec.specs.Model.{Model, joint_actions, joint_observations, obs_at}
use Rattle.dp_spec.specs.Quantities.{action_look_ahead_in, look_ahead_in, span_sum, weighted_reward_in}
use Rattle.dp_spec.specs.Quantities.{weights_after_in}
use Rattle.dp_spec.specs.SizesOfLookAhead.{next_look_size}
use Rattle.dp_spec.specs.Zeros.{KeepsZero}
use Rattle.dp_laws.proofs.EqualWeights.{look_ahead_in_ext}
use Rattle.dp_laws.proofs.SizeSums.{abs_add, int_sum_part, reward_size_le}
use Rattle.dp_laws.proofs.SpanSums.{span_sum_ends}
use Rattle.dp_links.specs.Links.{seen_after, seen_chance, those_of}
use Rattle.dp_links.proofs.LinkSums.{at_item, those_below, those_count, those_sum}
use Rattle.dp_pomdp.specs.Looking.{IsLooking, weights_of}
use Rattle.dp_pomdp.proofs.Cuts.{no_look, none}
use Rattle.dp_pomdp.proofs.Pushes.{none_seen}

-- ---- sums of numbers

as_numbers : (n : ℕ) (g : ℕ → ℤ) → (span_sum n (λ i. point (g i))).high ≡ int_sum n g
as_numbers n g = ap (λ (w : Span). w.high) (span_sum_ends n (λ i. point (g i)))

-- a sum over the numbers of which f is not 0 is one over all numbers, where the others add nothing
pub those_added : (f : ℕ → ℕ) (g : ℕ → ℤ) (n : ℕ) → ((k : ℕ) → f k ≡ 0 → g k ≡ pos 0)
    → int_sum (length (those_of f n)) (at_item g (those_of f n)) ≡ int_sum n g
those_added f g n none_there =
    sym (as_numbers (length (those_of f n)) (at_item g (those_of f n)))
    ∙ ap (λ (w : Span). w.high) (those_sum f (λ i. point (g i)) n (λ k e. ap point (none_there k e)))
    ∙ as_numbers n g

-- ---- what may be seen

-- a place of the list
pub seen_below : (m : Model) (a k : ℕ) (xs : List ℕ) → xs ≡ seen_after m a → k < length xs
    → get_or xs k 0 < joint_observations m
seen_below m a k xs is lt = rw is (those_below (seen_chance m a) (joint_observations m) k (rw is at lt))

-- after what may not be seen nothing is earned
unseen : (A : Arithmetic) → KeepsZero A → (m : Model) (r : ℕ) (ws : ℕ → Span) (a j o : ℕ) → seen_chance m a o ≡ 0
    → look_ahead_in A m r (weights_after_in A m ws a o) j ≡ pos 0
unseen A z m r ws a j o e =
    look_ahead_in_ext A m r j (weights_after_in A m ws a o) none
    (λ t p. sym (none_seen A z m ws a o t (nat_sum_none m.states (λ t. obs_at m a t o) e t p)))
    ∙ no_look A m z r j

-- the look-ahead after each joint observation
abbrev pub look_after : Arithmetic → Model → ℕ → (ℕ → Span) → ℕ → ℕ → ℕ → ℤ
look_after A m r ws a j o = look_ahead_in A m r (weights_after_in A m ws a o) j

-- all of the list together, with the reward, are the look-ahead of the joint action
pub looks_are_action : (A : Arithmetic) → KeepsZero A → (m : Model) (r look : ℕ) (ws : ℕ → Span) (a k : ℕ)
    (xs : List ℕ) (total : ℤ) → xs ≡ seen_after m a → k ≡ length xs
    → total ≡ (weighted_reward_in A m r ws a).high +ℤ int_sum k (at_item (look_after A m r ws a (look - 1)) xs)
    → total ≡ action_look_ahead_in A m r ws a look
unfolding action_look_ahead_in
looks_are_action A z m r look ws a k xs total list all is =
    let now = (weighted_reward_in A m r ws a).high in
    is ∙ ap (λ n. now +ℤ int_sum n (at_item (look_after A m r ws a (look - 1)) xs)) all
    ∙ ap (λ (l : List ℕ). now +ℤ int_sum (length l) (at_item (look_after A m r ws a (look - 1)) l)) list
    ∙ ap (λ x. now +ℤ x)
    (those_added (seen_chance m a) (look_after A m r ws a (look - 1)) (joint_observations m)
    (unseen A z m r ws a (look - 1)))

-- the reward now and the first look-aheads of the list
pub looks_part_fits : (A : Arithmetic) (C : Calls) (m : Model) (r : ℕ) (ws : List Span)
    → IsLooking A C m (suc r) ws → (a j : ℕ) (xs : List ℕ) → a < joint_actions m → xs ≡ seen_after m a → (k : ℕ)
    → k ≤ length xs → unsigned_abs ((weighted_reward_in A m r (weights_of ws) a).high
    +ℤ int_sum k (at_item (look_after A m r (weights_of ws) a j) xs)) < 2 ^ 127
unfolding next_look_size
looks_part_fits A C m r ws is a j xs pa list k le =
    let V = look_after A m r (weights_of ws) a j in
    let now = reward_size_le A m r (weights_of ws) a in
    let part = int_sum_part k (length xs) (at_item V xs) le in
    let few : nat_sum (length xs) (λ i. unsigned_abs (V (get_or xs i 0)))
    ≤ nat_sum (joint_observations m) (λ o. unsigned_abs (V o)) =
    rw list (those_count (seen_chance m a) (λ o. unsigned_abs (V o)) (joint_observations m)) in
    let both = abs_add (weighted_reward_in A m r (weights_of ws) a).high (int_sum k (at_item V xs)) in
    let all = is.look.looks is.time r j (weights_of ws) a is.left is.weights pa in
    omega (arith, now, part, few, both, all)
