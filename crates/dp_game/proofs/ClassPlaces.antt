-- The joint classes that hold a class of an agent.
use Rattle.std.proofs.Common.{◌≡◌, ◌≢◌, ℕ, zero, suc, ◌+◌, ◌*◌, ◌/◌, ◌%◌, ◌<◌, ◌≤◌, Bool, true, false, cond, eqb, inl}
use Rattle.std.proofs.Common.{inr, ℤ, pos, ◌+ℤ◌, ◌-ℤ◌, unsigned_abs, List, [], ◌∷◌, length, get_or, drop, take, refl}
use Rattle.std.proofs.Common.{sym, ap, ◌∙◌, arith}
use Rattle.std.proofs.Math.Nat.{div-eq_of_lt, mod-eq_of_lt}
use Rattle.std.proofs.lemmas.Int.{ints}
use Rattle.std.proofs.lemmas.Bool.{cases_eq}
use Rattle.std.proofs.lemmas.Bool.Decides.{nat_tests}
use Rattle.std.proofs.lemmas.Nat.{mod_below}
use Rattle.dp_base.specs.Sums.{int_sum, nat_sum}
use Rattle.dp_base.proofs.NaturalSumLaws.{nat_sum_at, nat_sum_le}
use Rattle.dp_base.proofs.Sums.{int_sum_ext, int_sum_out}
use Rattle.dp_spec.specs.JointNumbers.{joint_number, parts_of, product}
use Rattle.dp_spec.specs.Merge.{placed_number, without}
use Rattle.dp_spec.proofs.JointNumberLaws.{below_at, joint_number-parts_of, joint_number_below, length-parts_of}
use Rattle.dp_spec.proofs.JointNumberLaws.{part_below, parts_below, positive_right}
use Rattle.dp_laws.proofs.JointPlaces.{below_inserted, below_others, get_or-inserted, int_sum_placed, joint_is_placed}
use Rattle.dp_laws.proofs.JointPlaces.{parts-placed}
use Rattle.dp_laws.proofs.MergedSpans.{placed_at, product_split, product_without}
use Rattle.dp_laws.proofs.SizeSums.{int_sum_abs, int_sum_part}

others_long : (i : ℕ) (ns : List ℕ) → i < length ns → i ≤ length (without i ns)
others_long i [] h = absurd (omega arith)
others_long zero (n ∷ ns) h = omega arith
others_long (suc i) (n ∷ ns) h = let e = others_long i ns (omega arith) in omega arith

module _ (i : ℕ) (ns : List ℕ) (hi : i < length ns) where
  abbrev pub place : ℕ → ℕ → ℕ
  place b y = placed_number i ns b y

  abbrev pub count : ℕ
  count = get_or ns i 0

  abbrev pub others : ℕ
  others = product (without i ns)

  -- a place is a joint class, in which the agent has the class
  pub place_in : (b y : ℕ) → b < count → y < others → place b y < product ns
  place_in b y hb hy = joint_number_below ns _ (below_inserted i ns b _ hi hb (parts_below (without i ns) y hy))

  pub part_there : (b y : ℕ) → b < count → y < others → get_or (parts_of ns (place b y)) i 0 ≡ b
  part_there b y hb hy =
      let long = length-parts_of (without i ns) y in
      let more = others_long i ns hi in
      ap (λ l. get_or l i 0) (parts-placed i ns b y hi hb hy) ∙ get_or-inserted i b (parts_of (without i ns) y)
      (omega arith)

  -- each joint class is a place
  pub record IsPlaced (C : ℕ) : Type 0 where
    pub class : ℕ
    pub other : ℕ
    pub class_below : class < count
    pub other_below : other < others
    pub is : C ≡ place class other
    pub part : get_or (parts_of ns C) i 0 ≡ class

  pub placed : (C : ℕ) → C < product ns → IsPlaced C
  placed C lt =
      let below = parts_below ns C lt in record {
        class = get_or (parts_of ns C) i 0;
        other = joint_number (without i ns) (without i (parts_of ns C));
        class_below = below_at i ns (parts_of ns C) hi below;
        other_below = joint_number_below (without i ns) _ (below_others i ns (parts_of ns C) below);
        is = sym (joint_number-parts_of ns C lt) ∙ joint_is_placed i ns (parts_of ns C) hi below;
        part = refl;
      }

  -- as the code computes it
  pub place_is : (b y width : ℕ) → width ≡ product (drop (suc i) ns) → y < others
      → (y / width * count + b) * width + y % width ≡ place b y
  place_is b y width is hy =
      let whole = product_without i ns hi in
      let inside : y < product (take i ns) * width = rw is (omega arith) in
      let some : 0 < width = positive_right (product (take i ns)) width y inside in
      let high : y / width < product (take i ns) = part_below (product (take i ns)) width y inside in
      let low : y % width < width = mod_below y width some in
      let low' : y % width < product (drop (suc i) ns) = omega arith in
      (λ j. (y / width * count + b) * is j + y % width)
      ∙ sym (placed_at i ns b (y / width) (y % width) hi high low')
      ∙ ap (λ (z : ℕ). place b (y / width * z + y % width)) (sym is) ∙ ap (place b) (together y width)
    where
      together : (y w : ℕ) → y / w * w + y % w ≡ y
      together y w = omega arith

  pub as_many_places : product ns ≡ others * count
  as_many_places =
      let split = product_split i ns hi in let whole = product_without i ns hi in
      split ∙ regroup (product (take i ns)) count (product (drop (suc i) ns))
      ∙ ap (λ (z : ℕ). z * count) (sym whole)
    where
      regroup : (h n l : ℕ) → h * n * l ≡ h * l * n
      regroup h n l = omega arith

  -- ---- sums over joint classes

  -- the sum over the joint classes that hold a class
  abbrev pub class_sum : (ℕ → ℤ) → ℕ → ℤ
  class_sum f b = int_sum others (λ y. f (place b y))

  pos_sum : (n : ℕ) (u : ℕ → ℕ) → int_sum n (λ k. pos (u k)) ≡ pos (nat_sum n u)
  pos_sum zero u = refl
  pos_sum (suc n) u = ap (λ x. x +ℤ pos (u n)) (pos_sum n u) ∙ added (nat_sum n u) (u n)
    where
      added : (a b : ℕ) → pos a +ℤ pos b ≡ pos (a + b)
      added a b = omega (arith, ints)

  sizes_placed : (u : ℕ → ℕ) → nat_sum (product ns) u ≡ nat_sum count (λ b. nat_sum others (λ y. u (place b y)))
  sizes_placed u =
      ap (λ (x : ℤ). unsigned_abs x)
      (sym (pos_sum (product ns) u) ∙ int_sum_placed i ns hi (λ C. pos (u C))
      ∙ int_sum_ext count _ _ (λ b p. pos_sum others (λ y. u (place b y)))
      ∙ pos_sum count (λ b. nat_sum others (λ y. u (place b y))))

  -- a first part of it is no larger than all magnitudes together
  pub part_small : (f : ℕ → ℤ) (b k : ℕ) → b < count → k ≤ others
      → unsigned_abs (int_sum k (λ y. f (place b y))) ≤ nat_sum (product ns) (λ C. unsigned_abs (f C))
  part_small f b k hb hk =
      let part = int_sum_part k others (λ y. f (place b y)) hk in
      let one = nat_sum_at count (λ c. nat_sum others (λ y. unsigned_abs (f (place c y)))) b hb in
      let all = sizes_placed (λ C. unsigned_abs (f C)) in omega arith

  -- the sum over the other joint classes
  abbrev pub other_sum : (ℕ → ℤ) → ℕ → ℤ
  other_sum f b = int_sum count (λ c. cond (eqb b c) (pos 0) (class_sum f c))

  pub sum_splits : (f : ℕ → ℤ) (b : ℕ) → b < count → int_sum (product ns) f ≡ other_sum f b +ℤ class_sum f b
  sum_splits f b hb = int_sum_placed i ns hi f ∙ int_sum_out count b (class_sum f) hb

  pub other_sum_small : (f : ℕ → ℤ) (b : ℕ) → unsigned_abs (other_sum f b) ≤ nat_sum (product ns)
      (λ C. unsigned_abs (f C))
  other_sum_small f b =
      let most = int_sum_abs count (λ c. cond (eqb b c) (pos 0) (class_sum f c)) in
      let each = nat_sum_le count (λ c. unsigned_abs (cond (eqb b c) (pos 0) (class_sum f c)))
      (λ c. nat_sum others (λ y. unsigned_abs (f (place c y)))) (λ c p. one (eqb b c) c) in
      let all = sizes_placed (λ C. unsigned_abs (f C)) in omega arith
    where
      one : (t : Bool) (c : ℕ) → unsigned_abs (cond t (pos 0) (class_sum f c)) ≤ nat_sum others
          (λ y. unsigned_abs (f (place c y)))
      one true c = omega arith
      one false c = int_sum_abs others (λ y. f (place c y))

  -- where the other joint classes keep their numbers
  pub other_sum_kept : (f g : ℕ → ℤ) (b : ℕ) → ((c y : ℕ) → c < count → y < others → c ≢ b → f (place c y) ≡ g
      (place c y))
      → other_sum f b ≡ other_sum g b
  other_sum_kept f g b same = int_sum_ext count _ _ (λ c p. elim (cases_eq c b) [
    | inl e ↦ let here : eqb b c ≡ true = grind (arith, nat_tests) in
        (λ j. cond (here j) (pos 0) (class_sum f c)) ∙
        (λ j. cond (sym here j) (pos 0) (class_sum g c))
    | inr ne ↦ ap (λ x. cond (eqb b c) (pos 0) x) (int_sum_ext others _ _ (λ y q. same c y p q ne))
  ])

-- ---- places that need no division

-- in the first row
pub place_in_first : (other n class width : ℕ) → other < width
    → (other / width * n + class) * width + other % width ≡ class * width + other
place_in_first other n class width lt =
    (λ j. (div-eq_of_lt lt j * n + class) * width + mod-eq_of_lt lt j)
    ∙ ap (λ (z : ℕ). z * width + other) none
  where
    none : 0 * n + class ≡ class
    none = omega arith

-- in rows of one
pub place_in_last : (other n class width : ℕ) → width ≡ 1
    → (other / width * n + class) * width + other % width ≡ other * n + class
place_in_last other n class width one =
    (λ j. (other / one j * n + class) * one j + other % one j) ∙ (λ j. (whole j * n + class) * 1 + rest j)
    ∙ last
  where
    whole : other / 1 ≡ other
    whole = omega arith

    rest : other % 1 ≡ 0
    rest = omega arith

    last : (other * n + class) * 1 + 0 ≡ other * n + class
    last = omega arith

-- ---- a sum after a change

pub moved_is : (e z old new sum gone come : ℤ) → sum ≡ e +ℤ (z +ℤ old) → gone ≡ old → come ≡ new
    → (sum -ℤ gone) +ℤ come ≡ e +ℤ (z +ℤ new)
moved_is e z old new sum gone come is g c = omega (arith, ints)

pub less_is : (e z old sum gone : ℤ) → sum ≡ e +ℤ (z +ℤ old) → gone ≡ old → sum -ℤ gone ≡ e +ℤ z
less_is e z old sum gone is g = omega (arith, ints)
