-- Rows of look-aheads, joint class by joint class.
use Rattle.std.proofs.Common.{◌≡◌, inl, inr, ℕ, zero, suc, ◌+◌, ◌*◌, ◌<◌, ◌++◌, ℤ, map, length, get_or}
use Rattle.std.proofs.Common.{refl, sym, ap, ◌∙◌, arith}
use Rattle.std.specs.List.{range_with_len}
use Rattle.std.proofs.lemmas.List.{get_or_append_left, get_or-append-add, length-append}
use Rattle.std.proofs.lemmas.List.FromFn.{length-map-range_with_len}
use Rattle.dp_base.proofs.Order.{last_or_before}
use Rattle.dp_spec.proofs.JointNumberLaws.{row_below}
use Rattle.dp_cluster.proofs.OwnParts.{made_at}
use Rattle.dp_check.specs.Bounding.{rows_of}

pub rows_length : (Q : ℕ → ℕ → ℤ) (S n : ℕ) → length (rows_of Q S n) ≡ n * S
rows_length Q S zero = omega arith
rows_length Q S (suc n) = omega (
  arith,
  length-append (rows_of Q S n) (map (Q n) (range_with_len 0 S)),
  rows_length Q S n,
  length-map-range_with_len (Q n) 0 S,
)

-- the number of a row and a place
pub rows_at : (Q : ℕ → ℕ → ℤ) (S n C a : ℕ) (d : ℤ) → C < n → a < S
    → get_or (rows_of Q S n) (C * S + a) d ≡ Q C a
rows_at Q S zero C a d hC hs = absurd (omega arith)
rows_at Q S (suc n) C a d hC hs =
    let long = rows_length Q S n in
    elim (last_or_before C n hC) [
      | inl e ↦
          let place : C * S + a ≡ length (rows_of Q S n) + a = rw (long, e) refl in
          ap (λ (z : ℕ). get_or (rows_of Q S n ++ map (Q n) (range_with_len 0 S)) z d) place
          ∙ get_or-append-add (rows_of Q S n) (map (Q n) (range_with_len 0 S)) a d
          ∙ made_at S a d (Q n) hs ∙ ap (λ (z : ℕ). Q z a) (sym e)
      | inr lt ↦
          let inside : C * S + a < length (rows_of Q S n) = rw long (row_below C n S a lt hs) in
          get_or_append_left (rows_of Q S n) (map (Q n) (range_with_len 0 S)) d (C * S + a) inside
          ∙ rows_at Q S n C a d lt hs
    ]
