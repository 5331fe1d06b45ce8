-- Lists of weights, joint class by joint class.
use Rattle.std.proofs.Common.{◌≡◌, inl, inr, ℕ, zero, suc, ◌+◌, ◌*◌, ◌<◌, ◌++◌, map, length, get_or, refl, sym, ap}
use Rattle.std.proofs.Common.{◌∙◌, ◌/◌, ◌%◌, List, pos, arith}
use Rattle.std.specs.List.{range_with_len}
use Rattle.std.proofs.lemmas.List.{ext_get_or, get_or_append_left, get_or-append-add, length-append}
use Rattle.std.proofs.lemmas.Nat.{div-mul-add, mod-mul-add}
use Rattle.std.proofs.lemmas.List.FromFn.{length-map-range_with_len}
use Rattle.dp_spec.specs.declared.span.Span.{Span}
use Rattle.dp_spec.proofs.JointNumberLaws.{row_below}
use Rattle.dp_base.proofs.Order.{last_or_before}
use Rattle.dp_cluster.specs.Advances.{weight_rows}
use Rattle.dp_value.specs.WeightUpdates.{weights_of}
use Rattle.dp_spec.specs.Arithmetic.{point}
use Rattle.dp_cluster.proofs.OwnParts.{made_at}
use Rattle.dp_cluster.proofs.RunsOfWeights.{map_alike, map_plus}

pub rows_length : (W : ℕ → ℕ → Span) (S n : ℕ) → length (weight_rows W S n) ≡ n * S
rows_length W S zero = omega arith
rows_length W S (suc n) = omega (
  arith,
  length-append (weight_rows W S n) (map (W n) (range_with_len 0 S)),
  rows_length W S n,
  length-map-range_with_len (W n) 0 S,
)

-- the weight of a joint class and a state
pub rows_at : (W : ℕ → ℕ → Span) (S n C s : ℕ) (d : Span) → C < n → s < S
    → get_or (weight_rows W S n) (C * S + s) d ≡ W C s
rows_at W S zero C s d hC hs = absurd (omega arith)
rows_at W S (suc n) C s d hC hs =
    let long = rows_length W S n in
    elim (last_or_before C n hC) [
      | inl e ↦
          let place : C * S + s ≡ length (weight_rows W S n) + s = rw (long, e) refl in
          ap (λ (z : ℕ). get_or (weight_rows W S n ++ map (W n) (range_with_len 0 S)) z d) place
          ∙ get_or-append-add (weight_rows W S n) (map (W n) (range_with_len 0 S)) s d
          ∙ made_at S s d (W n) hs ∙ ap (λ (z : ℕ). W z s) (sym e)
      | inr lt ↦
          let inside : C * S + s < length (weight_rows W S n) = rw long (row_below C n S s lt hs) in
          get_or_append_left (weight_rows W S n) (map (W n) (range_with_len 0 S)) d (C * S + s) inside
          ∙ rows_at W S n C s d lt hs
    ]

-- the list of them place by place
pub rows_flat : (W : ℕ → ℕ → Span) (S n : ℕ)
    → weight_rows W S n ≡ map (λ p. W (p / S) (p % S)) (range_with_len 0 (n * S))
rows_flat W S zero = let none : 0 ≡ 0 * S = omega arith in
    ap (λ k. map (λ p. W (p / S) (p % S)) (range_with_len 0 k)) none
rows_flat W S (suc n) =
    let last = map_alike (W n) (λ j. W ((n * S + j) / S) ((n * S + j) % S)) S (λ j lt.
    sym (λ i. W (div-mul-add n S j lt i) (mod-mul-add n S j lt i))) in
    let all : n * S + S ≡ suc n * S = omega arith in
    (λ j. rows_flat W S n j ++ last j) ∙ sym (map_plus (λ p. W (p / S) (p % S)) (n * S) S)
    ∙ ap (λ k. map (λ p. W (p / S) (p % S)) (range_with_len 0 k)) all

-- a list by its places
pub as_map : (xs : List Span) → xs ≡ map (weights_of xs) (range_with_len 0 (length xs))
as_map xs = ext_get_or (point (pos 0)) xs _ (sym (length-map-range_with_len (weights_of xs) 0 (length xs)))
    (λ i lt. sym (made_at (length xs) i (point (pos 0)) (weights_of xs) lt))
