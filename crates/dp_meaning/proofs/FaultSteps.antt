-- Steps that may fail.
use Rattle.std.proofs.Common.{◌≡◌, refl}
use Rattle.std.specs.Prelude.{Result, Ok, Err}
use Rattle.dp_meaning.specs.declared.why.Fault.{Fault}
use Rattle.dp_meaning.specs.Faults.{◌>>=◌}

abbrev pub done : {A : Type 0} → A → Result A Fault
done x = Ok x

abbrev pub failed : {A : Type 0} → Fault → Result A Fault
failed f = Err f

pub ok_same : {A : Type 0} (x y : A) → done x ≡ done y → x ≡ y
ok_same x y e = cc

pub err_not_ok : {A : Type 0} (y : A) (f : Fault) → failed f ≡ done y → ⊥
err_not_ok y f e = cc

-- a step and what follows it do not fail where both do not
pub bind_ok : {A B : Type 0} (x : Result A Fault) (f : A → Result B Fault) (y : B) → (x >>= f) ≡ Ok y
    → (a : A) × (x ≡ Ok a) × (f a ≡ Ok y)
bind_ok (Ok a) f y e = (a, refl, e)
bind_ok (Err w) f y e = absurd (err_not_ok y w e)
