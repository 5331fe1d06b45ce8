-- What stands at a place of a list, and from it on.
use Rattle.std.proofs.Common.{◌≡◌, ℕ, zero, suc, ◌+◌, ◌<◌, length, get_or, drop-cons, List, [], ◌∷◌, drop, add-one}
use Rattle.std.proofs.Common.{arith}
use Rattle.std.specs.Prelude.{Some, None}
use Rattle.std.specs.List.{slice_get}
use Rattle.std.proofs.lemmas.List.{drop_all}

drop_suc : {X : Type 0} (xs : List X) (k : ℕ) (x : X) → slice_get xs k ≡ Some x → drop k xs ≡ x ∷ drop (suc k) xs
drop_suc [] k x e = cc
drop_suc (y ∷ ys) zero x e = cc
drop_suc (y ∷ ys) (suc k) x e = drop_suc ys k x e

pub drop_at : {X : Type 0} (xs : List X) (k : ℕ) (x : X) → slice_get xs k ≡ Some x → drop k xs ≡ x ∷ drop (k + 1) xs
drop_at xs k x e = rw add-one (drop_suc xs k x e)

pub drop_none : {X : Type 0} (xs : List X) (k : ℕ) → slice_get xs k ≡ None → drop k xs ≡ []
drop_none [] k e = drop_all k [] (omega arith)
drop_none (y ∷ ys) zero e = cc
drop_none (y ∷ ys) (suc k) e = drop_none ys k e

pub drop_item : {X : Type 0} (xs : List X) (k : ℕ) (d : X) → k < length xs
    → drop k xs ≡ get_or xs k d ∷ drop (k + 1) xs
drop_item xs k d h = rw add-one (drop-cons xs k d h)
