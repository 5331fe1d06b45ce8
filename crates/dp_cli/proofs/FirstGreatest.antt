-- The first of the greatest items, found item by item.
use Rattle.std.proofs.Common.{◌≡◌, ◌⊎◌, ℕ, ◌+◌, ◌<◌, ◌≤◌, ℤ, ◌≤ℤ◌, List, length, get_or, Some, ap, subst, ⊎_elim}
use Rattle.std.proofs.Common.{arith}
use Rattle.std.specs.Prelude.{◌<ℤ◌, slice_get}
use Rattle.std.proofs.lemmas.Int.{ints}
use Rattle.std.proofs.lemmas.Option.{get_or_from_slice_get, slice_get-get_or, slice_get_within}
use Rattle.dp_cli.specs.Orders.{IsFirstGreatest}

last_or_below : (y n : ℕ) → y < n + 1 → (y < n) ⊎ (y ≡ n)
last_or_below y n lt = grind arith

-- an item in place of those past the end
module _ {P : Type 0} (size : P → ℤ) (none : P) (items : List P) where
  abbrev size_at : ℕ → ℤ
  size_at y = size (get_or items y none)

  -- number x is that of the first greatest of the first n items
  pub record IsFirstOf (n x : ℕ) : Type 0 where
    pub inside : x < n
    pub greatest : (y : ℕ) → y < n → size_at y ≤ℤ size_at x
    pub first : (y : ℕ) → y < x → size_at y <ℤ size_at x

  same_size : (y z : ℕ) → y ≡ z → size_at y ≤ℤ size_at z
  same_size y z e = let sizes = ap size_at e in omega (arith, ints, sizes)

  pub first_of_one : IsFirstOf 1 0
  first_of_one = record {
    inside = omega arith;
    greatest = λ y lt. same_size y 0 (omega arith);
    first = λ y lt. absurd (omega arith);
  }

  -- the next item is greater than all before it
  pub first_is_next : (n x : ℕ) → IsFirstOf n x → size_at x <ℤ size_at n → IsFirstOf (n + 1) n
  first_is_next n x so_far greater = record {
    inside = omega arith;
    greatest = λ y lt. ⊎_elim (λ less. weaker y (below y less)) (λ e. same_size y n e) (last_or_below y n lt);
    first = λ y lt. below y lt;
  }
    where
      below : (y : ℕ) → y < n → size_at y <ℤ size_at n
      below y lt = let le = so_far.greatest y lt in omega (arith, ints, le, greater)

      weaker : (y : ℕ) → size_at y <ℤ size_at n → size_at y ≤ℤ size_at n
      weaker y less = omega (arith, ints, less)

  -- or it is not
  pub first_stays : (n x : ℕ) → IsFirstOf n x → size_at n ≤ℤ size_at x → IsFirstOf (n + 1) x
  first_stays n x so_far most = record {
    inside = omega (arith, so_far.inside);
    greatest = λ y lt. ⊎_elim (λ less. so_far.greatest y less) (λ e. last y e) (last_or_below y n lt);
    first = so_far.first;
  }
    where
      last : (y : ℕ) → y ≡ n → size_at y ≤ℤ size_at x
      last y e = let here = same_size y n e in omega (arith, ints, here, most)

  -- after the last item
  pub first_of_all : (n x : ℕ) → IsFirstOf n x → length items ≤ n → n ≤ length items → IsFirstGreatest size items x
  first_of_all n x all past within = record {
    item = get_or items x none;
    is = slice_get-get_or items x none (omega (arith, all.inside));
    greatest = λ y other e. subst (λ (o : P). size o ≤ℤ size_at x) (get_or_from_slice_get items y other none e)
        (all.greatest y (inside y other e));
    first = λ y other lt e. subst (λ (o : P). size o <ℤ size_at x) (get_or_from_slice_get items y other none e)
        (all.first y lt);
  }
    where
      inside : (y : ℕ) (other : P) → slice_get items y ≡ Some other → y < n
      inside y other e = omega (arith, slice_get_within items y other e)
