-- The greatest common divisor of a list, number by number, and the list divided by it, place by place.
use Rattle.std.proofs.Common.{◌≡◌, ℕ, zero, suc, ◌+◌, ◌/◌, ◌<◌, ◌≤◌, List, [], ◌∷◌, ◌++◌, map, length, get_or, set}
use Rattle.std.proofs.Common.{take, drop, ℤ, pos, unsigned_abs, refl, sym, ap, ◌∙◌, subst, arith}
use Rattle.std.specs.Prelude.{All}
use Rattle.std.specs.Int.{IsGcd, ◌∣◌}
use Rattle.std.proofs.lemmas.List.{get_or-map, length-map, take_more}
use Rattle.std.proofs.lemmas.List.Elements.{All-cons, All-head, All-nil, All-push, All-tail, All-take, All-weaker}
use Rattle.std.proofs.lemmas.Nat.Gcd.{dvd-zero, dvd_trans}
use Rattle.std.proofs.Math.Nat.{div-one, div-zero, eq-zero_of_zero-dvd, one-dvd}
use Rattle.dp_spec.specs.Primitive.{IsGcdOf}

-- ---- the greatest common divisor

-- of no numbers it is 0
pub gcd_of_none : IsGcdOf [] 0
gcd_of_none = record { divides = All-nil (λ x. 0 ∣ x); greatest = λ d all. dvd-zero d }

-- what holds of all of a list holds of its front and of its last
all_front : (P : ℕ → Type 0) (xs ys : List ℕ) → All P (xs ++ ys) → All P xs
all_front P [] ys all = All-nil P
all_front P (x ∷ xs) ys all =
    All-cons P x xs (All-head P x (xs ++ ys) all) (all_front P xs ys (All-tail P x (xs ++ ys) all))

all_last : (P : ℕ → Type 0) (xs : List ℕ) (x : ℕ) → All P (xs ++ x ∷ []) → P x
all_last P [] x all = All-head P x [] all
all_last P (y ∷ ys) x all = all_last P ys x (All-tail P y (ys ++ x ∷ []) all)

-- one number more
gcd_push : (xs : List ℕ) (x g k : ℕ) → IsGcdOf xs g → IsGcd g x k → IsGcdOf (xs ++ x ∷ []) k
gcd_push xs x g k is both = record {
  divides =
      let of_all = All-weaker (λ y. g ∣ y) (λ y. k ∣ y) (λ y divides. dvd_trans k both.0 divides)
      xs is.divides in
      All-push (λ y. k ∣ y) xs x of_all both.1;
  greatest = λ d all.
      both.2 d (is.greatest d (all_front (λ y. d ∣ y) xs (x ∷ []) all)) (all_last (λ y. d ∣ y) xs x all);
}

gcd_more : (xs : List ℕ) (i g k : ℕ) → i < length xs → IsGcdOf (take i xs) g → IsGcd g (get_or xs i 0) k
    → IsGcdOf (take (i + 1) xs) k
gcd_more xs i g k lt is both =
    subst (λ (l : List ℕ). IsGcdOf l k) (sym (take_more xs i 0 lt))
    (gcd_push (take i xs) (get_or xs i 0) g k is both)

-- the same for numbers with a sign, of which the next is r without it
pub gcd_next : (vs : List ℤ) (i g k r : ℕ) → i < length vs → r ≡ unsigned_abs (get_or vs i (pos 0))
    → IsGcdOf (take i (map unsigned_abs vs)) g → IsGcd g r k → IsGcdOf (take (i + 1) (map unsigned_abs vs)) k
gcd_next vs i g k r lt read is both =
    let size = length-map vs unsigned_abs in
    let value : r ≡ get_or (map unsigned_abs vs) i 0 = read ∙ sym (get_or-map unsigned_abs vs i (pos 0) 0 lt) in
    gcd_more (map unsigned_abs vs) i g k (omega arith) is (subst (λ x. IsGcd g x k) value both)

-- where it is 1 for some of them it is 1 for all
pub gcd_one : (xs : List ℕ) (i : ℕ) → IsGcdOf (take i xs) 1 → IsGcdOf xs 1
gcd_one xs i is = record {
  divides = λ k d lt. one-dvd (get_or xs k d);
  greatest = λ d all. is.greatest d (All-take (λ x. d ∣ x) i xs all);
}

-- ---- a list, divided up to a place

abbrev pub divided_to : List ℤ → ℕ → ℕ → List ℤ
divided_to vs g i = map (λ v. pos (unsigned_abs v / g)) (take i vs) ++ drop i vs

pub divided_next : (vs : List ℤ) (g i : ℕ) (d : ℤ) → i < length vs
    → set (divided_to vs g i) i (pos (unsigned_abs (get_or vs i d) / g)) ≡ divided_to vs g (suc i)
divided_next [] g i d lt = absurd (omega arith)
divided_next (v ∷ vs) g zero d lt = refl
divided_next (v ∷ vs) g (suc i) d lt =
    ap (λ (l : List ℤ). pos (unsigned_abs v / g) ∷ l) (divided_next vs g i d (omega arith))

pub divided_read : (vs : List ℤ) (g i : ℕ) (d : ℤ) → get_or (divided_to vs g i) i d ≡ get_or vs i d
divided_read [] g zero d = refl
divided_read [] g (suc i) d = refl
divided_read (v ∷ vs) g zero d = refl
divided_read (v ∷ vs) g (suc i) d = divided_read vs g i d

pub divided_length : (vs : List ℤ) (g i : ℕ) → length (divided_to vs g i) ≡ length vs
divided_length [] g zero = refl
divided_length [] g (suc i) = refl
divided_length (v ∷ vs) g zero = refl
divided_length (v ∷ vs) g (suc i) = ap suc (divided_length vs g i)

pub divided_all : (xs : List ℕ) (g i : ℕ) → length xs ≤ i
    → divided_to (map pos xs) g i ≡ map pos (map (λ x. x / g) xs)
divided_all [] g zero le = refl
divided_all [] g (suc i) le = refl
divided_all (x ∷ xs) g zero le = absurd (omega arith)
divided_all (x ∷ xs) g (suc i) le = ap (λ (l : List ℤ). pos (x / g) ∷ l) (divided_all xs g i (omega arith))

-- the numbers without their signs are the numbers
pub unsigned_pos : (xs : List ℕ) → map unsigned_abs (map pos xs) ≡ xs
unsigned_pos [] = refl
unsigned_pos (x ∷ xs) = ap (λ (l : List ℕ). x ∷ l) (unsigned_pos xs)

-- divided by 1 they stay, and divided by 0 where all are 0
by_one : (xs : List ℕ) → map (λ x. x / 1) xs ≡ xs
by_one [] = refl
by_one (x ∷ xs) = λ j. div-one x j ∷ by_one xs j

by_zero : (xs : List ℕ) → All (λ x. 0 ∣ x) xs → map (λ x. x / 0) xs ≡ xs
by_zero [] all = refl
by_zero (x ∷ xs) all =
    let none : x ≡ 0 = eq-zero_of_zero-dvd (All-head (λ y. 0 ∣ y) x xs all) in
    λ j. (div-zero x ∙ sym none) j ∷ by_zero xs (All-tail (λ y. 0 ∣ y) x xs all) j

pub undivided : (xs : List ℕ) (g : ℕ) → g ≤ 1 → IsGcdOf xs g → map (λ x. x / g) xs ≡ xs
undivided xs zero le is = by_zero xs is.divides
undivided xs (suc zero) le is = by_one xs
undivided xs (suc (suc g)) le is = absurd (omega arith)
