-- Lists of names: as the texts of the keys of a set, and what they keep.
use Rattle.std.proofs.Common.{◌≡◌, ◌≢◌, ℕ, zero, suc, ◌+◌, ◌^◌, ◌<◌, Bool, true, false, cond, not, ◌||◌, List, []}
use Rattle.std.proofs.Common.{◌∷◌, ◌++◌, length, get_or, map, position, refl, sym, ap, ◌∙◌, true≢false, arith}
use Rattle.std.specs.Prelude.{if◌then◌else◌, replicate, slice_get, slice_set, IsTrue, is_some}
use Rattle.std.specs.List.{list_any, position_or_len}
use Rattle.std.specs.Str.{bytes_eq}
use Rattle.std.proofs.lemmas.List.{map-append, length-map, length_push}
use Rattle.std.proofs.lemmas.List.Elements.{All-push}
use Rattle.std.proofs.lemmas.List.Quantifiers.{all_pairs_push}
use Rattle.std.proofs.lemmas.Slice.Eq.{bytes_eq-Decides}
use Rattle.std.proofs.Math.Bool.{or-true}
use Rattle.dp_base.specs.Names.{is_name}
use Rattle.dp_model.specs.Names.{IsNameList, has_name, names_of, place_of, with_name}

module _ {X : Type 0} (f : X → List ℕ) where
  list_any-map : (p : List ℕ → Bool) (xs : List X) → list_any p (map f xs) ≡ list_any (λ x. p (f x)) xs
  list_any-map p [] = refl
  list_any-map p (x ∷ xs) = ap (λ b. p (f x) || b) (list_any-map p xs)

  position_or_len-map : (p : List ℕ → Bool) (xs : List X)
      → position_or_len p (map f xs) ≡ position_or_len (λ x. p (f x)) xs
  position_or_len-map p [] = refl
  position_or_len-map p (x ∷ xs) = ap (λ n. cond (not (p (f x))) (1 + n) 0) (position_or_len-map p xs)

  position-map : (p : List ℕ → Bool) (xs : List X) → position p (map f xs) ≡ position (λ x. p (f x)) xs
  position-map p xs = rw (position_or_len-map p xs, length-map xs f) refl

  -- whether one of the keys has this text
  pub has_name-texts : (xs : List X) (names : List (List ℕ)) (text name : List ℕ) → map f xs ≡ names → text ≡ name →
      list_any (λ x. bytes_eq text (f x)) xs ≡ has_name names name
  has_name-texts xs names text name e t = sym (list_any-map (bytes_eq text) xs) ∙ (λ i. has_name (e i) (t i))

  -- the place of the key of this text
  pub place_of-texts : (xs : List X) (names : List (List ℕ)) (name : List ℕ) → map f xs ≡ names →
      position (λ x. bytes_eq name (f x)) xs ≡ place_of names name
  place_of-texts xs names name e = sym (position-map (bytes_eq name) xs) ∙ ap (λ l. place_of l name) e

  -- the texts of the keys after one is inserted
  pub with_name-texts : (xs : List X) (y : X) (names : List (List ℕ)) (name : List ℕ) → map f xs ≡ names
      → f y ≡ name →
      map f (if list_any (λ x. bytes_eq (f y) (f x)) xs then xs else xs ++ y ∷ []) ≡ with_name names name
  with_name-texts xs y names name e t = by (list_any (λ x. bytes_eq (f y) (f x)) xs)
      ∙ ap (λ b. if b then names else names ++ name ∷ []) (has_name-texts xs names (f y) name e t)
    where
      by : (b : Bool) → map f (if b then xs else xs ++ y ∷ []) ≡ (if b then names else names ++ name ∷ [])
      by true = e
      by false = map-append f xs (y ∷ []) ∙ (λ i. e i ++ t i ∷ [])

some_at : {X : Type 0} (xs : List X) (i : ℕ) → i < length xs → is_some (slice_get xs i) ≡ false → ⊥
some_at [] i lt none = omega arith
some_at (x ∷ xs) zero lt none = true≢false none
some_at (x ∷ xs) (suc i) lt none = some_at xs i (omega arith) none

-- where a list has nothing at a place that it has if it has any, it is empty
pub none_is : {X : Type 0} (xs : List X) (i : ℕ) → (0 < length xs → i < length xs) → is_some (slice_get xs i) ≡ false
    → xs ≡ []
none_is [] i within none = refl
none_is (x ∷ xs) i within none = absurd (some_at (x ∷ xs) i (within (omega arith)) none)

-- ---- what lists of names keep

-- a list has each of its items
has_name-at : (names : List (List ℕ)) (name : List ℕ) (k : ℕ) (d : List ℕ) → k < length names
    → get_or names k d ≡ name → has_name names name ≡ true
has_name-at [] name k d lt e = absurd (omega arith)
has_name-at (x ∷ xs) name zero d lt e = ap (λ b. b || has_name xs name) ((bytes_eq-Decides name x).1 (sym e))
has_name-at (x ∷ xs) name (suc k) d lt e = ap (λ b. bytes_eq name x || b) (has_name-at xs name k d (omega arith) e)
    ∙ or-true (bytes_eq name x)

pub with_name-kept : (names : List (List ℕ)) (name : List ℕ) → IsNameList names → IsTrue (is_name name)
    → length names < 2 ^ 26 → IsNameList (with_name names name)
with_name-kept names name kept named room = by (has_name names name) refl
  where
    by : (b : Bool) → has_name names name ≡ b → IsNameList (if b then names else names ++ name ∷ [])
    by true has = kept
    by false has = record {
      are_names = All-push (λ text. IsTrue (is_name text)) names name kept.are_names named;
      once = all_pairs_push (λ a b. a ≢ b) names name kept.once
          (λ k d lt e. true≢false (sym (has_name-at names name k d lt e) ∙ has));
      limit = rw (length_push names name) (omega arith);
    }

pub empty-kept : IsNameList []
empty-kept = record {
  are_names = λ k d lt. absurd (let no : k < 0 = lt in omega arith);
  once =
      λ i j d lt in_. absurd (let no : j < 0 = in_ in omega arith);
  limit = omega arith;
}

-- one list of agents' lists replaced by another
pub slice_set-kept : (lists : List (List (List ℕ))) (i : ℕ) (list : List (List ℕ))
    → ((j : ℕ) → IsNameList (names_of lists j)) → IsNameList list → (j : ℕ)
    → IsNameList (names_of (slice_set lists i list) j)
slice_set-kept [] i list kept new j = kept j
slice_set-kept (l ∷ ls) zero list kept new zero = new
slice_set-kept (l ∷ ls) zero list kept new (suc j) = kept (suc j)
slice_set-kept (l ∷ ls) (suc i) list kept new zero = kept 0
slice_set-kept (l ∷ ls) (suc i) list kept new (suc j) = slice_set-kept ls i list (λ k. kept (suc k)) new j

names_of-replicate : (n i : ℕ) → names_of (replicate n []) i ≡ []
names_of-replicate zero i = refl
names_of-replicate (suc n) zero = refl
names_of-replicate (suc n) (suc i) = names_of-replicate n i

pub replicate-kept : (n i : ℕ) → IsNameList (names_of (replicate n []) i)
replicate-kept n i = rw (names_of-replicate n i) empty-kept
