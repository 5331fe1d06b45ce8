-- The two arithmetics over scales keep the enclosure that their own test of exactness names.
use Rattle.std.proofs.Common.{◌≡◌, Bool, true, false, refl, sym, subst}
use Rattle.dp_spec.specs.declared.scales.Scales.{Scales}
use Rattle.dp_spec.specs.Arithmetic.{exact, outward}
use Rattle.dp_spec.specs.Calls.{AreInRange}
use Rattle.dp_spec.specs.Enclosure.{IsSound, enclosure}
use Rattle.dp_laws.proofs.ExactArithmetic.{exact_sound}
use Rattle.dp_laws.proofs.OutwardArithmetic.{outward_sound}

exact_is : (c : Scales) → (exact c).is_exact ≡ true
unfolding exact
exact_is c = refl

outward_is : (c : Scales) → (outward c).is_exact ≡ false
unfolding outward
outward_is c = refl

-- the exact arithmetic, whose enclosure is equality
pub exact_holds : (c : Scales) → IsSound c (exact c) (enclosure (exact c).is_exact)
exact_holds c = subst (λ (b : Bool). IsSound c (exact c) (enclosure b)) (sym (exact_is c)) (exact_sound c)

-- the outward arithmetic, whose enclosure is containment
pub outward_holds : (c : Scales) → AreInRange c → IsSound c (outward c) (enclosure (outward c).is_exact)
outward_holds c range =
    subst (λ (b : Bool). IsSound c (outward c) (enclosure b)) (sym (outward_is c)) (outward_sound c range)
