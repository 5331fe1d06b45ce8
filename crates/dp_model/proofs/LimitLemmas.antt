-- The first passed limit of a list.
use Rattle.std.proofs.Common.{◌≡◌, ℕ, zero, suc, ◌≤◌, Bool, true, false, List, [], ◌∷◌, get_or, refl, arith, cond}
use Rattle.std.specs.Prelude.{nat_lt, Option, Some, None}
use Rattle.std.proofs.lemmas.Bool.Decides.{nat_tests}
use Rattle.dp_model.specs.declared.limit.Limit.{Limit}
use Rattle.dp_model.specs.declared.limit.TooLarge.{TooLarge}
use Rattle.dp_model.specs.Limits.{first_passed, greatest_allowed, passed_by}

-- where none is passed, each is kept
pub none_at : (xs : List (Option TooLarge)) → first_passed xs ≡ None → (k : ℕ) → get_or xs k None ≡ None
none_at [] e k = refl
none_at (Some passed ∷ xs) e k = cc
none_at (None ∷ xs) e zero = refl
none_at (None ∷ xs) e (suc k) = none_at xs e k

-- the count of a limit that is kept
pub not_passed : (what : Limit) (count : ℕ) → passed_by what count ≡ None → count ≤ greatest_allowed what
not_passed what count e = by (greatest_allowed what) (nat_lt (greatest_allowed what) count) refl e
  where
    by : (most : ℕ) (b : Bool) → nat_lt most count ≡ b
        → cond {A = Option TooLarge} b (Some (record { what = what; count = count })) None ≡ None
        → count ≤ most
    by most true t f = cc
    by most false t f = grind (arith, nat_tests)
