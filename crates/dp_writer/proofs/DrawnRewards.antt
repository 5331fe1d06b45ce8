-- Rewards that are drawn one after the other.
use Rattle.std.proofs.Common.{◌≡◌, ℕ, ◌+◌, ◌-◌, ◌*◌, ◌/◌, ◌<◌, ℤ, pos, List, ◌++◌, length, get_or, take, sym, ap}
use Rattle.std.proofs.Common.{◌∙◌}
use Rattle.std.proofs.Common.{inl, inr, arith}
use Rattle.std.specs.Prelude.{replicate}
use Rattle.std.proofs.Math.Nat.{add-mul}
use Rattle.std.proofs.lemmas.Bool.{cases_lt}
use Rattle.std.proofs.lemmas.List.{get_or-append_right, get_or-replicate, get_or_append_left, length-append}
use Rattle.std.proofs.lemmas.List.{length-replicate, take_all}
use Rattle.std.proofs.lemmas.List.FromFn.{fill_by_all}
use Rattle.std.proofs.lemmas.Nat.{div-mul-add}
use Rattle.rand_core.specs.Stream.{Stream}
use Rattle.dp_writer.specs.Draws.{reward_drawn, rewards_drawn, word_at}

pub record AreRewards (stream : Stream) (len row : ℕ) (cells : List ℤ) : Type 0 where
  pub long : length cells ≡ row * len
  pub drawn : (j : ℕ) → j < row * len → get_or cells j (pos 0) ≡ reward_drawn (word_at stream (j / len))

-- the rewards of one row more: the list is lengthened to n cells by one reward
module _ (stream : Stream) (len row n : ℕ) (x : ℤ) (cells after : List ℤ)
    (drawn : x ≡ reward_drawn (word_at stream row)) (before : AreRewards stream len row cells)
    (size : n ≡ length cells + len) (more : after ≡ take n cells ++ replicate (n - length cells) x) where
  grown : after ≡ cells ++ replicate len x
  grown =
      let new : n - length cells ≡ len = omega arith in
      more ∙ ap (λ (l : List ℤ). l ++ replicate (n - length cells) x) (take_all n cells (omega arith))
      ∙ ap (λ k. cells ++ replicate k x) new

  next_row : (row + 1) * len ≡ row * len + len
  next_row = let one = add-mul row 1 len in omega arith

  at_place : (j : ℕ) → j < (row + 1) * len → get_or after j (pos 0) ≡ reward_drawn (word_at stream (j / len))
  at_place j lt = elim (cases_lt j (row * len)) [
    | inl early ↦
        ap (λ (l : List ℤ). get_or l j (pos 0)) grown
        ∙ get_or_append_left cells (replicate len x) (pos 0) j (omega (arith, early, before.long))
        ∙ before.drawn j early
    | inr late ↦
        let at : row * len + (j - row * len) ≡ j = omega arith in
        let inside : j - row * len < len = omega (arith, next_row, lt) in
        let quotient : j / len ≡ row = ap (λ k. k / len) (sym at) ∙ div-mul-add row len (j - row * len) inside in
        ap (λ (l : List ℤ). get_or l j (pos 0)) grown
        ∙ get_or-append_right cells (replicate len x) (row * len) j (pos 0) before.long late
        ∙ get_or-replicate len (j - row * len) x (pos 0) inside
        ∙ drawn ∙ ap (λ k. reward_drawn (word_at stream k)) (sym quotient)
  ]

  pub rewards_more : AreRewards stream len (row + 1) after
  rewards_more = record {
    long =
        let sum = length-append cells (replicate len x) in
        let all = ap length grown in
        let some = length-replicate len x in
        omega (arith, sum, all, some, before.long, next_row);
    drawn = at_place;
  }

pub all_rewards : (stream : Stream) (len rows : ℕ) (cells : List ℤ) → AreRewards stream len rows cells
    → cells ≡ rewards_drawn stream rows len
unfolding rewards_drawn
all_rewards stream len rows cells are =
    fill_by_all (λ j. reward_drawn (word_at stream (j / len))) cells (rows * len) (pos 0) are.long are.drawn
