-- joint classes one step on: pairs of a joint class and a joint observation
use Rattle.std.proofs.Common.{◌≡◌, ℕ, ◌+◌, ◌*◌, ◌/◌, ◌%◌, ◌<◌, ℤ, pos, ◌+ℤ◌, List, [], ◌∷◌, length, refl, sym, ap}
use Rattle.std.proofs.Common.{◌∙◌, arith}
use Rattle.std.proofs.lemmas.Int.{ints}
use Rattle.std.proofs.lemmas.Nat.{div-mul-add, mod-mul-add}
use Rattle.dp_base.proofs.Sums.{int_sum_ext, int_sum_prod, int_sum_swap}
use Rattle.dp_spec.specs.Front.{next_own_histories}
use Rattle.dp_spec.specs.JointNumbers.{joint_number, parts_of, product}
use Rattle.dp_base.specs.Sums.{int_sum}
use Rattle.dp_spec.proofs.JointNumberLaws.{AreBelow, joint_number-parts_of, parts_below, parts_of-joint_number}
use Rattle.dp_spec.proofs.JointNumberLaws.{row_below, same_parts}
use Rattle.dp_spec.specs.ClassSteps.{pair_counts, pair_number}

pub next_below : (cs ns xs ps : List ℕ) → length ns ≡ length cs → AreBelow cs xs → AreBelow ns ps
    → AreBelow (pair_counts cs ns) (next_own_histories ns xs ps)
next_below [] [] xs ps e h g = tt
next_below [] (n ∷ ns) xs ps e h g = absurd (omega arith)
next_below (c ∷ cs) [] xs ps e h g = absurd (omega arith)
next_below (c ∷ cs) (n ∷ ns) [] ps e h g = absurd h
next_below (c ∷ cs) (n ∷ ns) (x ∷ xs) [] e h g = absurd g
next_below (c ∷ cs) (n ∷ ns) (x ∷ xs) (p ∷ ps) e h g = (
  row_below x c n p h.0 g.0,
  next_below cs ns xs ps (omega arith) h.1 g.1,
)

nothing : (xs : List ℕ) → AreBelow [] xs → xs ≡ []
nothing [] h = refl
nothing (x ∷ xs) h = absurd h

-- different own histories and observations lead to different own histories
pub next_injective : (cs ns xs ps ys qs : List ℕ) → length ns ≡ length cs → AreBelow cs xs → AreBelow ns ps
    → AreBelow cs ys → AreBelow ns qs → next_own_histories ns xs ps ≡ next_own_histories ns ys qs
    → (xs ≡ ys) × (ps ≡ qs)
next_injective [] [] xs ps ys qs e hx hp hy hq same = (
  nothing xs hx ∙ sym (nothing ys hy),
  nothing ps hp
      ∙ sym (nothing qs hq),
)
next_injective [] (n ∷ ns) xs ps ys qs e hx hp hy hq same = absurd (omega arith)
next_injective (c ∷ cs) [] xs ps ys qs e hx hp hy hq same = absurd (omega arith)
next_injective (c ∷ cs) (n ∷ ns) [] ps ys qs e hx hp hy hq same = absurd hx
next_injective (c ∷ cs) (n ∷ ns) (x ∷ xs) [] ys qs e hx hp hy hq same = absurd hp
next_injective (c ∷ cs) (n ∷ ns) (x ∷ xs) (p ∷ ps) [] qs e hx hp hy hq same = absurd hy
next_injective (c ∷ cs) (n ∷ ns) (x ∷ xs) (p ∷ ps) (y ∷ ys) [] e hx hp hy hq same = absurd hq
next_injective (c ∷ cs) (n ∷ ns) (x ∷ xs) (p ∷ ps) (y ∷ ys) (q ∷ qs) e hx hp hy hq same =
    let first : x * n + p ≡ y * n + q = cc in
    let others : next_own_histories ns xs ps ≡ next_own_histories ns ys qs = cc in
    let here = same_parts n x p y q hp.0 hq.0 first in
    let rest = next_injective cs ns xs ps ys qs (omega arith) hx.1 hp.1 hy.1 hq.1 others in
    (cc (here.0, rest.0), cc (here.1, rest.1))

-- different pairs have different numbers
pub pair_injective : (cs ns : List ℕ) (C o D u : ℕ) → length ns ≡ length cs → C < product cs → o < product ns
    → D < product cs → u < product ns → pair_number cs ns C o ≡ pair_number cs ns D u → (C ≡ D) × (o ≡ u)
pair_injective cs ns C o D u e hC ho hD hu same =
    let C_in = parts_below cs C hC in
    let o_in = parts_below ns o ho in
    let D_in = parts_below cs D hD in
    let u_in = parts_below ns u hu in
    let parts = next_injective cs ns (parts_of cs C) (parts_of ns o) (parts_of cs D) (parts_of ns u)
    e C_in o_in D_in u_in
    (sym (parts_of-joint_number _ _ (next_below cs ns _ _ e C_in o_in)) ∙ ap (parts_of (pair_counts cs ns)) same
    ∙ parts_of-joint_number _ _ (next_below cs ns _ _ e D_in u_in)) in (
      sym (joint_number-parts_of cs C hC) ∙ ap (joint_number cs) parts.0 ∙ joint_number-parts_of cs D hD,
      sym (joint_number-parts_of ns o ho) ∙ ap (joint_number ns) parts.1 ∙ joint_number-parts_of ns u hu,
    )

one_place : (f : ℕ → ℤ) → pos 0 +ℤ f 0 ≡ pos 0 +ℤ (pos 0 +ℤ f 0)
one_place f = omega (arith, ints)

-- the number of a pair, agent by agent
pub pair_step : (c n : ℕ) (cs ns : List ℕ) (x C p o : ℕ) → C < product cs → o < product ns →
    (x * n + p) * product (pair_counts cs ns) + pair_number cs ns C o
    ≡ pair_number (c ∷ cs) (n ∷ ns) (x * product cs + C) (p * product ns + o)
pair_step c n cs ns x C p o hC ho =
    let first : (x * product cs + C) / product cs ≡ x = div-mul-add x (product cs) C hC in
    let rest : (x * product cs + C) % product cs ≡ C = mod-mul-add x (product cs) C hC in
    let first' : (p * product ns + o) / product ns ≡ p = div-mul-add p (product ns) o ho in
    let rest' : (p * product ns + o) % product ns ≡ o = mod-mul-add p (product ns) o ho in
    rw (first, rest, first', rest')

-- a sum over the numbers of pairs is a sum over joint classes and joint observations
pub int_sum_pairs : (cs ns : List ℕ) → length ns ≡ length cs → (g : ℕ → ℤ)
    → int_sum (product (pair_counts cs ns)) g
    ≡ int_sum (product cs) (λ C. int_sum (product ns) (λ o. g (pair_number cs ns C o)))
int_sum_pairs [] [] e g = one_place g
int_sum_pairs [] (n ∷ ns) e g = absurd (omega arith)
int_sum_pairs (c ∷ cs) [] e g = absurd (omega arith)
int_sum_pairs (c ∷ cs) (n ∷ ns) e g =
    let P = product (pair_counts cs ns) in
    let N = product cs in
    let O = product ns in
    int_sum_prod (c * n) P g
    ∙ int_sum_prod c n (λ i. int_sum P (λ j. g (i * P + j)))
    ∙ int_sum_ext c _ _ (λ x hx.
    int_sum_ext n _ _ (λ p hp. int_sum_pairs cs ns (omega arith) (λ j. g ((x * n + p) * P + j)))
    ∙ int_sum_swap n N (λ p C. int_sum O (λ o. g ((x * n + p) * P + pair_number cs ns C o)))
    ∙ int_sum_ext N _ _ (λ C hC.
    int_sum_ext n _ _ (λ p hp. int_sum_ext O _ _ (λ o ho. ap g (pair_step c n cs ns x C p o hC ho)))
    ∙ sym (int_sum_prod n O (λ u. g (pair_number (c ∷ cs) (n ∷ ns) (x * N + C) u)))))
    ∙ sym (int_sum_prod c N (λ D. int_sum (n * O) (λ u. g (pair_number (c ∷ cs) (n ∷ ns) D u))))
