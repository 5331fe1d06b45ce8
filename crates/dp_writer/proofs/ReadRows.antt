-- Rows of chances that are written are read with the same fractions.
use Rattle.std.proofs.Common.{◌≡◌, ℕ, suc, ◌+◌, ◌*◌, ◌/◌, ◌%◌, ◌^◌, ◌<◌, List, [], ◌∷◌, length, get_or, map, sum}
use Rattle.std.proofs.Common.{false, refl, sym, ap, subst, ◌∙◌, arith}
use Rattle.std.specs.Int.{◌∣◌}
use Rattle.std.specs.List.{fold}
use Rattle.std.proofs.Math.Nat.{div-mul_cancel, eq_of_mul-eq-mul_right, mul_assoc, mul_comm, mul_right_comm}
use Rattle.dp_base.specs.declared.decimal.Decimal.{Decimal}
use Rattle.dp_base.proofs.Outcomes.{shortest_form}
use Rattle.dp_meaning.specs.Cells.{chance_over}
use Rattle.dp_writer.specs.WriterLaws.{WrittenRowsNeedNoRepair, chance_again, fraction_digits}
use Rattle.dp_writer.specs.WrittenNumbers.{decimal_over}
use Rattle.dp_writer.proofs.ReadFractions.{times_scale, without_tens}

-- the fraction again, in plain numbers: n of k fraction digits is a / scale
again : (read scale a n k : ℕ) → n * scale ≡ a * 10 ^ k → 10 ^ k ∣ read → n * (read / 10 ^ k) * scale ≡ a * read
again read scale a n k is fits =
    let q = read / 10 ^ k in
    mul_right_comm n q scale ∙ ap (λ x. x * q) is ∙ mul_assoc a (10 ^ k) q
    ∙ ap (λ x. a * x) (mul_comm (10 ^ k) q ∙ div-mul_cancel (10 ^ k) fits)

-- one chance
one_again : (read scale n : ℕ) → 0 < scale → n * 10 ^ 18 % scale ≡ 0 → 10 ^ fraction_digits scale n ∣ read
    → chance_again read scale n * scale ≡ n * read
unfolding decimal_over
one_again read scale n some whole fits =
    let v = n * 10 ^ 18 / scale in
    let f = shortest_form false v 18 in
    let same = without_tens f.n n scale f.j f.k 18 v f.reduced.sum f.reduced.value
    (times_scale n scale (10 ^ 18) v whole refl) in
    ap (λ d. chance_over read d * scale) f.is
    ∙ again read scale n f.n f.k same (subst (λ (d : Decimal). 10 ^ d.digits ∣ read) f.is fits)

-- the sum of a first number and others
sum_front : (n m : ℕ) (ns : List ℕ) → fold ◌+◌ (n + m) ns ≡ n + fold ◌+◌ m ns
sum_front n m [] = refl
sum_front n m (x ∷ xs) =
    let moved : n + m + x ≡ n + (m + x) = omega arith in ap (λ k. fold ◌+◌ k xs) moved ∙ sum_front n (m + x) xs

sum_cons : (n : ℕ) (ns : List ℕ) → sum (n ∷ ns) ≡ n + sum ns
sum_cons n ns = let turned : 0 + n ≡ n + 0 = omega arith in ap (λ k. fold ◌+◌ k ns) turned ∙ sum_front n 0 ns

-- their sum
sum_again : (f : ℕ → ℕ) (read scale : ℕ) (cells : List ℕ)
    → ((i : ℕ) → i < length cells → f (get_or cells i 0) * scale ≡ get_or cells i 0 * read)
    → sum (map f cells) * scale ≡ sum cells * read
sum_again f read scale [] each = omega arith
sum_again f read scale (n ∷ cells) each =
    let first = each 0 (omega arith) in
    let others = sum_again f read scale cells (λ i lt. each (suc i) (omega (arith, lt))) in
    let left : (f n + sum (map f cells)) * scale ≡ f n * scale + sum (map f cells) * scale = omega arith in
    let right : (n + sum cells) * read ≡ n * read + sum cells * read = omega arith in
    ap (λ k. k * scale) (sum_cons (f n) (map f cells)) ∙ left ∙ (λ i. first i + others i) ∙ sym right
    ∙ sym (ap (λ k. k * read) (sum_cons n cells))

-- a row
pub rows_need_no_repair : WrittenRowsNeedNoRepair
rows_need_no_repair read scale cells some sums whole fits =
    let same : (i : ℕ) → i < length cells
    → chance_again read scale (get_or cells i 0) * scale ≡ get_or cells i 0 * read =
    λ i lt. one_again read scale (get_or cells i 0) some (whole i lt) (fits i lt) in
    record {
      same = same;
      sums = eq_of_mul-eq-mul_right scale some (sum (map (chance_again read scale) cells)) read
          (sum_again (chance_again read scale) read scale cells same ∙ ap (λ x. x * read) sums ∙ mul_comm scale read);
    }
