-- The least bound after an action for a class, action after action, and the spread.
use Rattle.std.proofs.Common.{◌≡◌, ℕ, zero, suc, ◌<◌, ℤ, ◌+ℤ◌, neg_ℤ, ◌≤ℤ◌, List, [], ◌∷◌, length, get_or, set, None}
use Rattle.std.proofs.Common.{Some, refl, sym, ap, ◌∙◌, arith}
use Rattle.std.specs.Int.{int_min, int_max}
use Rattle.std.proofs.lemmas.Int.{ints, clamps}
use Rattle.std.proofs.lemmas.List.{get_or-set_same, length-set}
use Rattle.dp_base.specs.Sums.{greatest, numbers_below}
use Rattle.dp_spec.specs.Arithmetic.{arithmetic}
use Rattle.dp_spec.specs.Fitting.{front_bound}
use Rattle.dp_spec.specs.Model.{Model}
use Rattle.dp_spec.specs.Qualities.{spread_of}
use Rattle.dp_spec.specs.Steps.{IsUnassigned, chosen_front}
use Rattle.dp_laws.proofs.Leaves.{some_action}
use Rattle.dp_laws.proofs.Spreads.{chosen_front_bound_le}
use Rattle.dp_cluster.specs.KeptFronts.{IsFrontOf, KeptFront}
use Rattle.dp_game.specs.Games.{KeptGame, own_choice, with_own_choice}

-- ---- the least of a number and of f below n

abbrev pub least_of : ℤ → (ℕ → ℤ) → ℕ → ℤ
least_of x f zero = x
least_of x f (suc n) = int_min (least_of x f n) (f n)

pub least_of_at_most : (x : ℤ) (f : ℕ → ℤ) (n : ℕ) → least_of x f n ≤ℤ x
least_of_at_most x f zero = omega (arith, ints)
least_of_at_most x f (suc n) = let le = least_of_at_most x f n in omega (arith, ints, clamps)

-- the greatest of the negated numbers, where none is above x
lowest : (x y : ℤ) → y ≤ℤ x → neg_ℤ (int_min x y) ≡ neg_ℤ y
lowest x y le = omega (arith, ints, clamps)

negated : (x y z : ℤ) → neg_ℤ x ≡ z → neg_ℤ (int_min x y) ≡ int_max (neg_ℤ y) z
negated x y z e = omega (arith, ints, clamps)

pub least_is_greatest : (x : ℤ) (f : ℕ → ℤ) (n : ℕ) → f 0 ≤ℤ x
    → neg_ℤ (least_of x f (suc n)) ≡ greatest (λ a. neg_ℤ (f a)) (numbers_below (suc n))
least_is_greatest x f zero le = lowest x (f 0) le
least_is_greatest x f (suc n) le = negated (least_of x f (suc n)) (f (suc n)) _ (least_is_greatest x f n le)

-- ---- of a front

-- the least of the bound of a front and its bounds after the actions below n for class c of agent i
abbrev pub least_bound : Model → KeptFront → ℕ → ℕ → ℕ → ℕ → ℤ
least_bound m k look i c n =
    least_of (front_bound (arithmetic k.is_exact m.scales) m k.horizon look k.front)
    (λ a. front_bound (arithmetic k.is_exact m.scales) m k.horizon look (chosen_front k.front i c a)) n

-- the spread is the bound less the least bound after all actions
pub spread_is : (m : Model) (k : KeptFront) → IsFrontOf m k → k.front.stage < k.horizon → (look i c n : ℕ)
    → IsUnassigned i c k.front.agents → n ≡ get_or m.actions i 0
    → front_bound (arithmetic k.is_exact m.scales) m k.horizon look k.front +ℤ neg_ℤ
    (least_bound m k look i c n)
    ≡ spread_of (arithmetic k.is_exact m.scales) m k.horizon look k.front i c
unfolding spread_of
spread_is m k is early look i c zero free many =
    let some = some_action m k.horizon k.front i c is.model is.front free in absurd (omega arith)
spread_is m k is early look i c (suc n) free many =
    let A = arithmetic k.is_exact m.scales in
    let B = front_bound A m k.horizon look k.front in
    let f = λ (a : ℕ). front_bound A m k.horizon look (chosen_front k.front i c a) in
    let some = some_action m k.horizon k.front i c is.model is.front free in
    let le = chosen_front_bound_le A m is.model k.horizon look k.front i c 0 is.front early free some in
    ap (λ y. B +ℤ y) (least_is_greatest B f n le)
    ∙ ap (λ (j : ℕ). B +ℤ greatest (λ a. neg_ℤ (f a)) (numbers_below j)) many

-- ---- a choice that is taken back

set_back : {X : Type 0} (xs : List X) (i : ℕ) (x y d : X) → i < length xs → get_or xs i d ≡ y
    → set (set xs i x) i y ≡ xs
set_back [] i x y d lt e = absurd (omega arith)
set_back (z ∷ xs) zero x y d lt e = ap (λ w. w ∷ xs) (sym e)
set_back (z ∷ xs) (suc i) x y d lt e = ap (λ ys. z ∷ ys) (set_back xs i x y d (omega arith) e)

pub taken_back : (g : KeptGame) (i c a : ℕ) → i < length g.choices → c < length (get_or g.choices i [])
    → own_choice g i c ≡ None → with_own_choice (with_own_choice g i c (Some a)) i c None ≡ g
taken_back g i c a hi hc none =
    let own = get_or g.choices i [] in
    let chosen = set own c (Some a) in
    let inner : set (get_or (set g.choices i chosen) i []) c None ≡ own =
    ap (λ os. set os c None) (get_or-set_same g.choices i chosen [] hi)
    ∙ set_back own c (Some a) None None hc none in
    ap (λ oss. record g { choices = oss })
    (ap (λ os. set (set g.choices i chosen) i os) inner ∙ set_back g.choices i chosen own [] hi refl)

-- ---- a class after a choice

pub class_kept : (g : KeptGame) (i c a : ℕ) → i < length g.choices → c < length (get_or g.choices i [])
    → c < length (get_or (with_own_choice g i c (Some a)).choices i [])
class_kept g i c a hi hc =
    let own = get_or g.choices i [] in
    let same : length (get_or (set g.choices i (set own c (Some a))) i []) ≡ length own =
    ap (λ os. length os) (get_or-set_same g.choices i (set own c (Some a)) [] hi) ∙ length-set own c (Some a) in
    omega arith

pub choice_made : (g : KeptGame) (i c a : ℕ) → i < length g.choices → c < length (get_or g.choices i [])
    → own_choice (with_own_choice g i c (Some a)) i c ≡ Some a
choice_made g i c a hi hc =
    let own = get_or g.choices i [] in
    ap (λ os. get_or os c None) (get_or-set_same g.choices i (set own c (Some a)) [] hi)
    ∙ get_or-set_same own c (Some a) None hc
