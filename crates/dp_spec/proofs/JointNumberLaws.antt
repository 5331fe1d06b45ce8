-- Laws of products, of joint numbers and of their parts.
use Rattle.std.proofs.Common.{◌≡◌, ℕ, zero, suc, ◌+◌, ◌*◌, ◌/◌, ◌%◌, ◌<◌, ◌≤◌, List, [], ◌∷◌, ◌++◌, length, get_or}
use Rattle.std.proofs.Common.{drop, refl, sym, ap, ◌∙◌, arith}
use Rattle.std.specs.Int.{◌∣◌}
use Rattle.std.proofs.lemmas.Nat.{div-mul-add, mod-mul-add, mod_below, mul-add-lt}
use Rattle.std.proofs.lemmas.Nat.Gcd.{dvd_refl, dvd_trans}
use Rattle.std.proofs.Math.Nat.{div-add-mod, div-div-eq-div-mul, div-lt_iff_lt-mul, dvd-mul_left, le-mul_of_pos_right}
use Rattle.std.proofs.Math.Nat.{mod-eq_of_lt, mod-mod_of_dvd, mul_assoc, mul_comm}
use Rattle.std.proofs.Math.Seq.{drop-cons}
use Rattle.dp_spec.specs.JointNumbers.{joint_number, parts_of, product}

-- ---- rows and places in them

-- where a product is above a number, its second factor is above 0 ..
pub positive_right : (n k o : ℕ) → o < n * k → 0 < k
positive_right n zero o h = absurd (omega arith)
positive_right n (suc k) o h = omega arith

-- .. and so is its first
pub positive_left : (n k o : ℕ) → o < n * k → 0 < n
positive_left zero k o h = absurd (omega arith)
positive_left (suc n) k o h = omega arith

-- a row and a place in it are below the rows together
pub row_below : (p n k j : ℕ) → p < n → j < k → p * k + j < n * k
row_below p n k j h g = omega (arith, mul-add-lt p k j n h g, mul_comm k n)

-- equal numbers have equal rows and places
pub same_parts : (n p j p' j' : ℕ) → j < n → j' < n → p * n + j ≡ p' * n + j' → (p ≡ p') × (j ≡ j')
same_parts n p j p' j' lt lt' e = (
  sym (div-mul-add p n j lt) ∙ ap (λ (z : ℕ). z / n) e ∙ div-mul-add p' n j' lt',
  sym (mod-mul-add p n j lt) ∙ ap (λ (z : ℕ). z % n) e ∙ mod-mul-add p' n j' lt',
)

-- the row of a number
pub part_below : (n k o : ℕ) → o < n * k → o / k < n
part_below n k o h = (div-lt_iff_lt-mul (positive_right n k o h)).1 h

-- the middle digits of x
pub mod-div : (x n k : ℕ) → 0 < n → 0 < k → x % (n * k) / k ≡ x / k % n
mod-div x n k some_n some_k =
    let low : x % k < k = mod_below x k some_k in
    let middle : x / k % n < n = mod_below (x / k) n some_n in
    let inner : x / k % n * k + x % k < n * k = row_below (x / k % n) n k (x % k) middle low in
    let split : x ≡ x / k / n * (n * k) + (x / k % n * k + x % k) =
    sym (div-add-mod x k) ∙ ap (λ y. k * y + x % k) (sym (div-add-mod (x / k) n)) ∙ omega arith in
    ap (λ y. y % (n * k) / k) split
    ∙ ap (λ y. y / k) (mod-mul-add (x / k / n) (n * k) (x / k % n * k + x % k) inner)
    ∙ div-mul-add (x / k % n) k (x % k) low

-- ---- products

-- the product of two lists, one after the other
pub product-append : (ns ms : List ℕ) → product (ns ++ ms) ≡ product ns * product ms
product-append [] ms = omega arith
product-append (n ∷ ns) ms = ap (λ y. n * y) (product-append ns ms) ∙ sym (mul_assoc n (product ns) (product ms))

-- the product from place i on is the number at place i times the product behind it
pub product-drop : (ns : List ℕ) (i : ℕ) → i < length ns
    → product (drop i ns) ≡ get_or ns i 0 * product (drop (suc i) ns)
product-drop ns i lt = rw (drop-cons ns i 0 lt) refl

-- no part of a product above 0 is 0, or more than the product
pub product-drop_above : (ns : List ℕ) (i : ℕ) → 0 < product ns → 0 < product (drop i ns)
product-drop_above ns zero some = some
product-drop_above [] (suc i) some = some
product-drop_above (n ∷ ns) (suc i) some = product-drop_above ns i (positive_right n (product ns) 0 some)

pub product-drop_le : (ns : List ℕ) (i : ℕ) → 0 < product ns → product (drop i ns) ≤ product ns
product-drop_le ns zero some = omega arith
product-drop_le [] (suc i) some = omega arith
product-drop_le (n ∷ ns) (suc i) some =
    let one : 0 < n = positive_left n (product ns) 0 some in
    let more : product ns ≤ product ns * n = le-mul_of_pos_right (product ns) one in
    omega (arith, product-drop_le ns i (positive_right n (product ns) 0 some))

pub product-drop_dvd : (ns : List ℕ) (i : ℕ) → product (drop i ns) ∣ product ns
product-drop_dvd ns zero = dvd_refl _
product-drop_dvd [] (suc i) = dvd_refl _
product-drop_dvd (n ∷ ns) (suc i) = dvd_trans (product (drop i ns)) (product-drop_dvd ns i)
    (dvd-mul_left (product ns) n)

-- no number of a product above 0 is 0
pub size_above : (ns : List ℕ) (i : ℕ) → 0 < product ns → i < length ns → 0 < get_or ns i 0
size_above [] i some lt = absurd (omega arith)
size_above (n ∷ ns) zero some lt = positive_left n (product ns) 0 some
size_above (n ∷ ns) (suc i) some lt = size_above ns i (positive_right n (product ns) 0 some) (omega arith)

-- ---- parts below their numbers

-- one part for each number, and below it
abbrev pub AreBelow : List ℕ → List ℕ → Type 0
AreBelow [] [] = Unit {0}
AreBelow [] (p ∷ ps) = ⊥
AreBelow (n ∷ ns) [] = ⊥
AreBelow (n ∷ ns) (p ∷ ps) = (p < n) × AreBelow ns ps

-- there are as many parts as numbers ..
pub length-below : (ns ps : List ℕ) → AreBelow ns ps → length ps ≡ length ns
length-below [] [] h = refl
length-below [] (p ∷ ps) h = absurd h
length-below (n ∷ ns) [] h = absurd h
length-below (n ∷ ns) (p ∷ ps) h = ap suc (length-below ns ps h.1)

-- .. each is below its number ..
pub below_at : (i : ℕ) (ns ps : List ℕ) → i < length ns → AreBelow ns ps → get_or ps i 0 < get_or ns i 0
below_at i [] ps lt h = absurd (omega arith)
below_at i (n ∷ ns) [] lt h = absurd h
below_at zero (n ∷ ns) (p ∷ ps) lt h = h.0
below_at (suc i) (n ∷ ns) (p ∷ ps) lt h = below_at i ns ps (omega arith) h.1

-- .. and that is all
pub below_each : (ns ps : List ℕ) → length ps ≡ length ns → ((i : ℕ) → i < length ns → get_or ps i 0 < get_or ns i 0)
    → AreBelow ns ps
below_each [] [] alike below = tt
below_each [] (p ∷ ps) alike below = absurd (omega arith)
below_each (n ∷ ns) [] alike below = absurd (omega arith)
below_each (n ∷ ns) (p ∷ ps) alike below = (
  below 0 (omega arith),
  below_each ns ps (omega arith) (λ i lt. below (suc i) (omega arith)),
)

-- ---- joint numbers and their parts

-- a joint number is below the product
pub joint_number_below : (ns ps : List ℕ) → AreBelow ns ps → joint_number ns ps < product ns
joint_number_below [] [] h = omega arith
joint_number_below [] (p ∷ ps) h = absurd h
joint_number_below (n ∷ ns) [] h = absurd h
joint_number_below (n ∷ ns) (p ∷ ps) h = row_below p n _ _ h.0 (joint_number_below ns ps h.1)

-- the joint number from place i on
pub joint_number-drop : (ns ps : List ℕ) (i : ℕ) → length ps ≡ length ns → i < length ns →
    joint_number (drop i ns) (drop i ps) ≡ get_or ps i 0 * product (drop (suc i) ns)
    + joint_number (drop (suc i) ns) (drop (suc i) ps)
joint_number-drop ns ps i alike lt =
    let there : i < length ps = omega arith in
    rw (drop-cons ns i 0 lt, drop-cons ps i 0 there) refl

-- one part for each number
pub length-parts_of : (ns : List ℕ) (x : ℕ) → length (parts_of ns x) ≡ length ns
length-parts_of [] x = refl
length-parts_of (n ∷ ns) x = ap suc (length-parts_of ns _)

-- the parts of a joint number are below their numbers
pub parts_below : (ns : List ℕ) (x : ℕ) → x < product ns → AreBelow ns (parts_of ns x)
parts_below [] x h = tt
parts_below (n ∷ ns) x h = (
  part_below n (product ns) x h,
  parts_below ns _ (mod_below x (product ns) (positive_right n (product ns) x h)),
)

-- a joint number has the parts of which it is made
pub parts_of-joint_number : (ns ps : List ℕ) → AreBelow ns ps → parts_of ns (joint_number ns ps) ≡ ps
parts_of-joint_number [] [] h = refl
parts_of-joint_number [] (p ∷ ps) h = absurd h
parts_of-joint_number (n ∷ ns) [] h = absurd h
parts_of-joint_number (n ∷ ns) (p ∷ ps) h =
    let lt : joint_number ns ps < product ns = joint_number_below ns ps h.1 in
    let first : (p * product ns + joint_number ns ps) / product ns ≡ p =
    div-mul-add p (product ns) (joint_number ns ps) lt in
    let rest : (p * product ns + joint_number ns ps) % product ns ≡ joint_number ns ps =
    mod-mul-add p (product ns) (joint_number ns ps) lt in
    rw (first, rest, parts_of-joint_number ns ps h.1)

put_together : (x p j : ℕ) → j ≡ x % p → x / p * p + j ≡ x
put_together x p j e = omega arith

-- a joint number is that of its parts
pub joint_number-parts_of : (ns : List ℕ) (x : ℕ) → x < product ns → joint_number ns (parts_of ns x) ≡ x
joint_number-parts_of [] x h = omega arith
joint_number-parts_of (n ∷ ns) x h =
    put_together x (product ns) _ (joint_number-parts_of ns (x % product ns)
    (mod_below x (product ns) (positive_right n (product ns) x h)))

-- the parts from place f on are those of what is left by the parts before
pub joint_number-drop_parts : (f : ℕ) (ns : List ℕ) (x : ℕ) → x < product ns
    → joint_number (drop f ns) (drop f (parts_of ns x)) ≡ x % product (drop f ns)
joint_number-drop_parts zero ns x h = joint_number-parts_of ns x h ∙ sym (mod-eq_of_lt h)
joint_number-drop_parts (suc f) [] x h = omega arith
joint_number-drop_parts (suc f) (n ∷ ns) x h =
    joint_number-drop_parts f ns (x % product ns) (mod_below x (product ns) (positive_right n (product ns) x h))
    ∙ mod-mod_of_dvd (product (drop f ns)) x (product-drop_dvd ns f)

-- a part is what is left of the number by the parts before, over the product behind
part-rest : (ns : List ℕ) (x i : ℕ) → x < product ns → i < length ns
    → get_or (parts_of ns x) i 0 ≡ x % product (drop i ns) / product (drop (suc i) ns)
part-rest [] x i h lt = absurd (omega arith)
part-rest (n ∷ ns) x zero h lt = ap (λ y. y / product ns) (sym (mod-eq_of_lt h))
part-rest (n ∷ ns) x (suc i) h lt =
    part-rest ns (x % product ns) i (mod_below x (product ns) (positive_right n (product ns) x h)) (omega arith)
    ∙ ap (λ y. y / product (drop (suc i) ns)) (mod-mod_of_dvd (product (drop i ns)) x (product-drop_dvd ns i))

-- a part by one quotient and one remainder
pub part-is : (ns : List ℕ) (x i : ℕ) → x < product ns → i < length ns
    → get_or (parts_of ns x) i 0 ≡ x / product (drop (suc i) ns) % get_or ns i 0
part-is ns x i h lt =
    let some : 0 < product ns = omega arith in
    part-rest ns x i h lt
    ∙ ap (λ y. x % y / product (drop (suc i) ns)) (product-drop ns i lt)
    ∙ mod-div x (get_or ns i 0) (product (drop (suc i) ns)) (size_above ns i some lt)
    (product-drop_above ns (suc i) some)

-- ---- two lists, one after the other

-- the parts for two lists are those of the row and those of the place in it
pub parts_of-append : (ns ms : List ℕ) (x : ℕ) → x < product (ns ++ ms)
    → parts_of (ns ++ ms) x ≡ parts_of ns (x / product ms) ++ parts_of ms (x % product ms)
parts_of-append [] ms x h = ap (parts_of ms) (sym (mod-eq_of_lt h))
parts_of-append (n ∷ ns) ms x h =
    let N = product ns in
    let M = product ms in
    let P = product (ns ++ ms) in
    let factors : P ≡ N * M = product-append ns ms in
    let some : 0 < P = positive_right n P x h in
    let some_product : 0 < N * M = omega arith in
    let row : x / P ≡ x / M / N = ap (λ (y : ℕ). x / y) (factors ∙ mul_comm N M) ∙ sym (div-div-eq-div-mul x M N) in
    let rest : x % P / M ≡ x / M % N = ap (λ (y : ℕ). x % y / M) factors
    ∙ mod-div x N M (positive_left N M 0 some_product) (positive_right N M 0 some_product) in
    let place : x % P % M ≡ x % M = ap (λ (y : ℕ). x % y % M) factors ∙ mod-mod_of_dvd M x (dvd-mul_left M N) in
    ap (λ (y : ℕ). y ∷ parts_of (ns ++ ms) (x % P)) row
    ∙ ap (λ (ps : List ℕ). x / M / N ∷ ps) (parts_of-append ns ms (x % P) (mod_below x P some))
    ∙ ap (λ (y : ℕ). x / M / N ∷ (parts_of ns y ++ parts_of ms (x % P % M))) rest
    ∙ ap (λ (y : ℕ). x / M / N ∷ (parts_of ns (x / M % N) ++ parts_of ms y)) place

-- the joint number for two lists is that of the first, times the product of the second, and that of the second
pub joint_number-append : (ns ms ps qs : List ℕ) → length ps ≡ length ns
    → joint_number (ns ++ ms) (ps ++ qs) ≡ joint_number ns ps * product ms + joint_number ms qs
joint_number-append [] ms [] qs alike = omega arith
joint_number-append [] ms (p ∷ ps) qs alike = absurd (omega arith)
joint_number-append (n ∷ ns) ms [] qs alike = absurd (omega arith)
joint_number-append (n ∷ ns) ms (p ∷ ps) qs alike = rw (
  product-append ns ms,
  joint_number-append ns ms ps qs (omega arith),
) (omega arith)
