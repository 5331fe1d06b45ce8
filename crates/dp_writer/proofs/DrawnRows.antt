-- Rows of chances that are drawn one after the other into cells that are 0 before.
use Rattle.std.proofs.Common.{◌≡◌, ◌⊎◌, ℕ, zero, suc, ◌+◌, ◌-◌, ◌*◌, ◌/◌, ◌%◌, ◌<◌, ◌≤◌, List, length, get_or, refl}
use Rattle.std.proofs.Common.{sym, ap, ◌∙◌, inl, inr, arith}
use Rattle.std.specs.Prelude.{replicate}
use Rattle.std.proofs.Math.Nat.{add-mul}
use Rattle.std.proofs.lemmas.Bool.{cases_lt}
use Rattle.std.proofs.lemmas.List.FromFn.{fill_by_all}
use Rattle.std.proofs.lemmas.Nat.{div-mul-add, mod-mul-add}
use Rattle.rand_core.specs.Stream.{Stream}
use Rattle.dp_writer.specs.Draws.{chance_drawn, chances_drawn, row_drawn, word_at}

-- ---- so many rows, and cells of 0 behind them

pub record AreDrawn (stream : Stream) (len row : ℕ) (cells : List ℕ) : Type 0 where
  pub drawn : (j : ℕ) → j < row * len → get_or cells j 0 ≡ row_drawn stream len (j / len) (j % len)
  pub empty : (j : ℕ) → row * len ≤ j → get_or cells j 0 ≡ 0

zeros : (n j : ℕ) → get_or {A = ℕ} (replicate n 0) j 0 ≡ 0
zeros zero j = refl
zeros (suc n) zero = refl
zeros (suc n) (suc j) = zeros n j

pub none_drawn : (stream : Stream) (len : ℕ) (cells : List ℕ) (n : ℕ) → cells ≡ replicate n 0
    → AreDrawn stream len 0 cells
none_drawn stream len cells n is = record {
  drawn = λ j lt. absurd (omega arith);
  empty = λ j le. ap (λ (l : List ℕ). get_or l j 0) is ∙ zeros n j;
}

-- one row more
module _ (stream : Stream) (len row x y z : ℕ) (cells after : List ℕ) (some : 0 < len)
    (first : x ≡ word_at stream (3 * row)) (second : y ≡ word_at stream (3 * row + 1))
    (third : z ≡ word_at stream (3 * row + 2)) (before : AreDrawn stream len row cells)
    (here : (i : ℕ) → i < len → get_or after (row * len + i) 0 ≡ chance_drawn len x y z i)
    (others : (j : ℕ) → (j < row * len) ⊎ (row * len + len ≤ j) → get_or after j 0 ≡ get_or cells j 0) where
  next_row : (row + 1) * len ≡ row * len + len
  next_row = let one = add-mul row 1 len in omega arith

  in_row : (i : ℕ) → i < len
      → get_or after (row * len + i) 0 ≡ row_drawn stream len ((row * len + i) / len) ((row * len + i) % len)
  unfolding row_drawn
  in_row i lt =
      here i lt
      ∙ (λ k. chance_drawn len (first k) (second k) (third k) i)
      ∙ (λ k. row_drawn stream len (sym (div-mul-add row len i lt) k) (sym (mod-mul-add row len i lt) k))

  pub row_more : AreDrawn stream len (row + 1) after
  row_more = record {
    drawn = λ j lt. elim (cases_lt j (row * len)) [
      | inl early ↦ others j (inl early) ∙ before.drawn j early
      | inr late ↦
          let at : row * len + (j - row * len) ≡ j = omega arith in
          let inside : j - row * len < len = omega (arith, next_row, lt) in
          ap (λ k. get_or after k 0) (sym at) ∙ in_row (j - row * len) inside
          ∙ ap (λ k. row_drawn stream len (k / len) (k % len)) at
    ];
    empty = λ j le.
        let past : row * len + len ≤ j = omega (arith, next_row, le) in
        others j (inr past) ∙ before.empty j (omega arith);
  }

pub all_drawn : (stream : Stream) (len rows : ℕ) (cells : List ℕ) → length cells ≡ rows * len
    → AreDrawn stream len rows cells → cells ≡ chances_drawn stream rows len
unfolding chances_drawn
all_drawn stream len rows cells long are =
    fill_by_all (λ j. row_drawn stream len (j / len) (j % len)) cells (rows * len) 0 long are.drawn
