-- The index that a word draws from a row.
use Rattle.std.proofs.Common.{◌≡◌, ℤ, ℕ, suc, ◌<◌, ◌≤◌, true, false, nat_lt, length, get_or, ap, ◌∙◌, arith}
use Rattle.std.proofs.lemmas.Bool.Decides.{nat_tests}
use Rattle.std.proofs.lemmas.List.FromFn.{get_or-map-range_with_len, length-map-range_with_len}
use Rattle.std.proofs.lemmas.List.Sums.{position_or_len_is}
use Rattle.dp_base.specs.Sums.{nat_sum}
use Rattle.dp_base.proofs.NaturalSumLaws.{nat_sum_part}
use Rattle.dp_spec.specs.Model.{Model, reward_at}
use Rattle.dp_sim.specs.Draw.{drawn, running_sums, scaled}
use Rattle.dp_sim.specs.Episode.{next_drawn, seen_drawn, step_drawn, step_to}

-- the running sum at an index
sum_at : (n : ℕ) (row : ℕ → ℕ) (i : ℕ) → i < n → get_or (running_sums n row) i 0 ≡ nat_sum (suc i) row
sum_at n row i lt = get_or-map-range_with_len (λ i. nat_sum (suc i) row) 0 n i i 0 lt (omega arith)

passes : (k x y : ℕ) → x ≡ y → k < y → nat_lt k x ≡ true
passes k x y e lt = grind (arith, nat_tests)

fails : (k x y : ℕ) → x ≡ y → y ≤ k → nat_lt k x ≡ false
fails k x y e le = grind (arith, nat_tests)

-- an index is drawn where its running sum is the first that is more than the number that the word stands for
pub drawn_is : (n d : ℕ) (row : ℕ → ℕ) (word i : ℕ) → i < n → nat_sum i row ≤ scaled d word
    → scaled d word < nat_sum (suc i) row → drawn n d row word ≡ i
unfolding drawn
drawn_is n d row word i lt before after =
    let len : length (running_sums n row) ≡ n = length-map-range_with_len (λ i. nat_sum (suc i) row) 0 n in
    position_or_len_is (nat_lt (scaled d word)) (running_sums n row) i 0 (omega arith)
    (λ k lk. fails (scaled d word) (get_or (running_sums n row) k 0) (nat_sum (suc k) row)
    (sum_at n row k (omega arith)) (omega (arith, nat_sum_part (suc k) i row (omega arith))))
    (λ li. passes (scaled d word) (get_or (running_sums n row) i 0) (nat_sum (suc i) row) (sum_at n row i lt) after)

-- a step whose parts are drawn is the step that is drawn
pub step_is : (m : Model) (a s x y t o : ℕ) (r : ℤ) → t ≡ next_drawn m a s x → o ≡ seen_drawn m a t y
    → r ≡ reward_at m a s t o → record { action = a; next = t; seen = o; reward = r } ≡ step_drawn m a s x y
unfolding step_drawn
step_is m a s x y t o r next seen reward =
    ap (λ z. record { action = a; next = t; seen = o; reward = z }) reward
    ∙ ap (step_to m a s t) seen
    ∙ ap (λ u. step_to m a s u (seen_drawn m a u y)) next
