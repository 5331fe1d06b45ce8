-- A fraction in millionths: its digits one after another, its rounding, its sign and its text.
use Rattle.std.proofs.Common.{◌≡◌, ℕ, zero, suc, ◌+◌, ◌*◌, ◌/◌, ◌%◌, ◌^◌, ◌<◌, ◌≤◌, Bool, true, false, not, T, List}
use Rattle.std.proofs.Common.{[], ◌∷◌, ◌++◌, drop, ℤ, pos, negsuc, neg_ℤ, ◌*ℤ◌, unsigned_abs, decimal, refl, sym, ap}
use Rattle.std.proofs.Common.{subst, ◌∙◌, arith}
use mathlib.Core.List.{append_assoc}
use Rattle.std.proofs.lemmas.Int.{ints}
use Rattle.std.proofs.lemmas.Nat.{div-mul-add, div_below}
use Rattle.std.proofs.Math.Nat.{pow-suc, pow-le-pow_right, one-le-pow}
use Rattle.std.proofs.lemmas.Fmt.{decimal_digit, decimal_step}
use Rattle.std.specs.Int.{is_negative}
use Rattle.std.specs.Int.Signed.{lt_z_yes, lt_z_no}
use mathlib.Core.Bool.{beq}
use Rattle.dp_base.specs.Rounding.{floor_of, ceiling_of}
use Rattle.dp_num.specs.FractionTexts.{fraction_text, last_digits, millionths, millionths_text, sign_text}

-- ---- a digit

-- a digit of a quotient is below ten
pub digit_below : (v d r s : ℕ) → v * d + r ≡ 10 * s → r < d → s < d → v < 10
digit_below v d r s is left small =
    let below : (10 * s) / d < 10 = div_below (10 * s) d 10 (omega arith) (omega arith) in
    subst (λ n. n < 10) (ap (λ n. n / d) (sym is) ∙ div-mul-add v d r left) below

-- with one digit more the quotient is ten times itself and the digit
pub next_digit : (w k x d r v s a : ℕ) → (w * 10 ^ k + x) * d + r ≡ a * 10 ^ k → v * d + s ≡ 10 * r
    → (w * 10 ^ (k + 1) + (x * 10 + v)) * d + s ≡ a * 10 ^ (k + 1)
next_digit w k x d r v s a so_far digit =
    let power : 10 ^ (k + 1) ≡ 10 ^ k * 10 = subst (λ n. 10 ^ n ≡ 10 ^ k * 10) (omega arith) (pow-suc 10 k) in
    rw power (omega arith)

-- ---- rounding

floor_is : (m d n r : ℕ) → n * d + r ≡ m → r < d → m / d ≡ n
floor_is m d n r is left = ap (λ k. k / d) (sym is) ∙ div-mul-add n d r left

-- a rest above 0 rounds up to the next number
pub ceiling_next : (m d n r : ℕ) → n * d + r ≡ m → r < d → 0 < r
    → ceiling_of (pos m) d ≡ pos (n + 1)
unfolding ceiling_of
ceiling_next zero d n r is left some = absurd (omega arith)
ceiling_next (suc m) d n zero is left some = absurd (omega arith)
ceiling_next (suc m) d n (suc r) is left some =
    let e = floor_is m d n r (omega arith) (omega arith) in ap (λ k. pos (suc k)) e ∙ ap pos (omega arith)

-- no rest is no rounding
pub ceiling_same : (m d n : ℕ) → n * d ≡ m → 0 < d → ceiling_of (pos m) d ≡ pos n
unfolding ceiling_of
ceiling_same zero d zero is some = let e : 0 / d ≡ 0 = omega arith in rw e refl
ceiling_same (suc m) d zero is some = absurd (omega arith)
ceiling_same zero d (suc n) is some = absurd (omega arith)
ceiling_same (suc m) zero (suc n) is some = absurd (omega arith)
ceiling_same (suc m) (suc d) (suc n) is some =
    let e = floor_is m (suc d) n d (omega arith) (omega arith) in ap (λ k. pos (suc k)) e

-- what is left of a division decides the rounding up
pub rounded_up : (a d n r : ℕ) → n * d + r ≡ a * 10 ^ 6 → r < d → 0 < r
    → pos (n + 1) ≡ millionths (pos a) d true
rounded_up a d n r is left some = sym (ceiling_next (a * 10 ^ 6) d n r is left some)

pub not_rounded : (a d n r : ℕ) → n * d + r ≡ a * 10 ^ 6 → r < d → r ≡ 0 → (up : Bool)
    → pos n ≡ millionths (pos a) d up
not_rounded a d n r is left none false = sym (ap pos (floor_is (a * 10 ^ 6) d n r is left))
not_rounded a d n r is left none true = sym (ceiling_same (a * 10 ^ 6) d n (omega arith) (omega arith))

pub rounded_down : (a d n r : ℕ) → n * d + r ≡ a * 10 ^ 6 → r < d → pos n ≡ millionths (pos a) d false
rounded_down a d n r is left = sym (ap pos (floor_is (a * 10 ^ 6) d n r is left))

-- ---- the sign

twice : (z : ℤ) → neg_ℤ (neg_ℤ z) ≡ z
twice z = omega (arith, ints)

-- a number below 0 rounds as its magnitude does the other way
turned : (a d : ℕ) (up : Bool) → millionths (negsuc a) d up ≡ neg_ℤ (millionths (pos (suc a)) d (not up))
unfolding ceiling_of
turned a d false = sym (twice (floor_of (negsuc a *ℤ pos (10 ^ 6)) d))
turned a d true = ap (λ z. neg_ℤ (floor_of z d)) (twice (pos (suc a * 10 ^ 6)))

-- ---- the text

above_text : (a d n : ℕ) (up : Bool) → pos n ≡ millionths (pos a) d up
    → millionths_text n ≡ fraction_text (pos a) d up
unfolding fraction_text
above_text a d n up is = ap (λ z. sign_text z ++ millionths_text (unsigned_abs z)) is

below_text : (a d n : ℕ) (up : Bool) → pos n ≡ millionths (pos (suc a)) d (not up)
    → sign_text (neg_ℤ (pos n)) ++ millionths_text (unsigned_abs (neg_ℤ (pos n)))
    ≡ fraction_text (negsuc a) d up
unfolding fraction_text
below_text a d n up is =
    ap (λ z. sign_text (neg_ℤ z) ++ millionths_text (unsigned_abs (neg_ℤ z))) is
    ∙ ap (λ z. sign_text z ++ millionths_text (unsigned_abs z)) (sym (turned a d up))

-- the magnitude of the fraction in millionths, rounded as its sign asks
abbrev pub IsMagnitude : ℤ → ℕ → Bool → Bool → ℕ → Type 0
IsMagnitude num d up below n = pos n ≡ millionths (pos (unsigned_abs num)) d (not (beq up below))

-- a number that is not below 0 has no sign
pub unsigned_text : (num : ℤ) (d n : ℕ) (up below : Bool) → below ≡ is_negative num → below ≡ false
    → IsMagnitude num d up below n → millionths_text n ≡ fraction_text num d up
unsigned_text (pos a) d n false false told no_sign is = above_text a d n false is
unsigned_text (pos a) d n true false told no_sign is = above_text a d n true is
unsigned_text (negsuc a) d n up false told no_sign is =
    let above = lt_z_no {a = negsuc a} {b = pos 0} (subst (λ b. T (not b)) told tt) in
    absurd (omega (arith, ints))
unsigned_text num d n up true told no_sign is = absurd cc

-- nor has one that rounds to 0
pub zero_text : (num : ℤ) (d n : ℕ) (up below : Bool) → below ≡ is_negative num → below ≡ true → n ≡ 0
    → IsMagnitude num d up below n → millionths_text n ≡ fraction_text num d up
zero_text (pos a) d n up true told sign none is =
    let below = lt_z_yes {a = pos a} {b = pos 0} (subst T told tt) in
    absurd (omega (arith, ints))
zero_text (negsuc a) d zero false true told sign none is = below_text a d 0 false is
zero_text (negsuc a) d zero true true told sign none is = below_text a d 0 true is
zero_text (negsuc a) d (suc n) up true told sign none is = absurd (omega arith)
zero_text num d n up false told sign none is = absurd cc

-- every other below 0 has one
pub signed_text : (num : ℤ) (d n : ℕ) (up below : Bool) → below ≡ is_negative num → below ≡ true → (n ≡ 0 → ⊥)
    → IsMagnitude num d up below n → 45 ∷ millionths_text n ≡ fraction_text num d up
signed_text (pos a) d n up true told sign some is =
    let below = lt_z_yes {a = pos a} {b = pos 0} (subst T told tt) in
    absurd (omega (arith, ints))
signed_text (negsuc a) d zero up true told sign some is = absurd (some refl)
signed_text (negsuc a) d (suc n) false true told sign some is = below_text a d (suc n) false is
signed_text (negsuc a) d (suc n) true true told sign some is = below_text a d (suc n) true is
signed_text num d n up false told sign some is = absurd cc

-- ---- digits with their zeros

-- a one before a number of at most k digits keeps its zeros
pub kept_zeros : (k n : ℕ) → k < 7 → n < 10 ^ k → decimal (10 ^ k + n) ≡ 49 ∷ last_digits k n
kept_zeros zero n few small = let e : 10 ^ 0 + n ≡ 1 = omega arith in ap decimal e
    ∙ decimal_digit 1 (omega arith)
kept_zeros (suc k) n few small =
    let power : 10 ^ suc k ≡ 10 ^ k * 10 = pow-suc 10 k in
    let most : 10 ^ suc k ≤ 10 ^ 7 = pow-le-pow_right {n = 10} (omega arith) {i = suc k} {j = 7}
    (omega arith) in
    let whole : (10 ^ suc k + n) / 10 ≡ 10 ^ k + n / 10 = omega arith in
    let last : (10 ^ suc k + n) % 10 ≡ n % 10 = omega arith in
    let some : 1 ≤ 10 ^ k = one-le-pow k 10 (omega arith) in
    decimal_step (10 ^ suc k + n) (omega arith) (omega arith)
    ∙ (λ i. decimal (whole i) ++ ((48 + last i) ∷ []))
    ∙ ap (λ l. l ++ ((48 + n % 10) ∷ [])) (kept_zeros k (n / 10) (omega arith) (omega arith))

-- wholes change none of the last digits
kept_wholes : (k w n : ℕ) → last_digits k (w * 10 ^ k + n) ≡ last_digits k n
kept_wholes zero w n = refl
kept_wholes (suc k) w n =
    let power : 10 ^ suc k ≡ 10 ^ k * 10 = pow-suc 10 k in
    let whole : (w * 10 ^ suc k + n) / 10 ≡ w * 10 ^ k + n / 10 = rw power (omega arith) in
    let last : (w * 10 ^ suc k + n) % 10 ≡ n % 10 = rw power (omega arith) in
    (λ i. last_digits k (whole i) ++ ((48 + last i) ∷ []))
    ∙ ap (λ l. l ++ ((48 + n % 10) ∷ [])) (kept_wholes k w (n / 10))

-- wholes, a point and the digits behind a one, appended
pub millionths_pushed : (old first second third digits : List ℕ) (w n : ℕ) → n < 10 ^ 6
    → digits ≡ decimal (10 ^ 6 + n)
    → first ≡ old ++ decimal w
    → second ≡ first ++ (46 ∷ [])
    → third ≡ second ++ drop 1 digits
    → third ≡ old ++ millionths_text (w * 10 ^ 6 + n)
millionths_pushed old first second third digits w n small spelled e f g =
    let six : drop 1 digits ≡ last_digits 6 n = ap (drop 1) (spelled ∙ kept_zeros 6 n (omega arith) small) in
    let wholes : w ≡ (w * 10 ^ 6 + n) / 10 ^ 6 = omega arith in
    g
    ∙ (λ i. (f i) ++ six i)
    ∙ ap (λ l. (l ++ (46 ∷ [])) ++ last_digits 6 n) e
    ∙ append_assoc (old ++ decimal w) (46 ∷ []) (last_digits 6 n)
    ∙ append_assoc old (decimal w) (46 ∷ last_digits 6 n)
    ∙ (λ i. old ++ (decimal (wholes i) ++ (46 ∷ (sym (kept_wholes 6 w n) i))))
