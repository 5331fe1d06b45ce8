-- Products of which only the part up to a limit is kept.
use Rattle.std.proofs.Common.{◌≡◌, ℕ, zero, suc, ◌+◌, ◌*◌, ◌≤◌, List, sym, ap, ◌∙◌, arith, mul_assoc, mul_comm, inl}
use Rattle.std.proofs.Common.{inr, ◌<◌, length, map, drop, get_or}
use Rattle.std.specs.Prelude.{min}
use Rattle.std.proofs.lemmas.Bool.{cases_lt}
use Rattle.std.proofs.Math.Nat.{mul-le-mul_right}
use Rattle.dp_spec.specs.JointNumbers.{product}
use Rattle.dp_items.proofs.Places.{drop_item}

-- a factor that passes the limit may be cut down to it
pub min_times : (most a n : ℕ) → min (min a most * n) most ≡ min (a * n) most
min_times most a n = elim (cases_lt a most) [
  | inl h ↦ let e : min a most ≡ a = omega arith in ap (λ k. min (k * n) most) e
  | inr h ↦ let e : min a most ≡ most = omega arith in ap (λ k. min (k * n) most) e ∙ past n h
]
  where
    past : (n : ℕ) → most ≤ a → min (most * n) most ≡ min (a * n) most
    past zero h = omega arith
    past (suc n) h =
        let l : most ≤ most * suc n = grind arith in
        let k = mul-le-mul_right (suc n) h in omega arith

-- a product so far and what is left of it
pub record Saturates (most all size rest : ℕ) : Type 0 where
  pub limit : size ≤ most
  pub is : min all most ≡ min (size * rest) most

pub starts : (most all : ℕ) → 1 ≤ most → Saturates most all 1 all
starts most all h = record { limit = h; is = (let e : 1 * all ≡ all = omega arith in ap (λ k. min k most) (sym e)) }

pub one_more : {most all size left : ℕ} (n rest : ℕ) → Saturates most all size left → left ≡ n * rest
    → Saturates most all (min (size * n) most) rest
one_more {most} {all} {size} {left} n rest h e = record {
  limit = omega arith;
  is = h.is ∙ ap (λ k. min (size * k) most) e ∙ ap (λ k. min k most) (sym (mul_assoc size n rest))
      ∙ sym (min_times most (size * n) rest);
}

pub done : {most all size : ℕ} → Saturates most all size 1 → size ≡ min all most
done h = let l = h.limit in let e = h.is in omega arith

-- so may the next factor
cut : (most a n : ℕ) → min (a * min n most) most ≡ min (a * n) most
cut most a n =
    ap (λ k. min k most) (mul_comm a (min n most)) ∙ min_times most n a ∙ ap (λ k. min k most) (mul_comm n a)

pub one_cut : {most all size left : ℕ} (n rest : ℕ) → Saturates most all size left → left ≡ n * rest
    → Saturates most all (min (size * min n most) most) rest
one_cut {most} {all} {size} {left} n rest h e = rw (cut most size n) (one_more n rest h e)

-- the product of what stands from a place on, by what stands there
pub product_at : {X : Type 0} (f : X → ℕ) (xs : List X) (k : ℕ) (d : X) → k < length xs
    → product (map f (drop k xs)) ≡ f (get_or xs k d) * product (map f (drop (k + 1) xs))
product_at f xs k d h = ap (λ ys. product (map f ys)) (drop_item xs k d h)
