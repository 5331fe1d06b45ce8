-- Classes that exist and have no action.
use Rattle.std.proofs.Common.{◌≡◌, ℕ, zero, suc, ◌<◌, ◌≤◌, Bool, false, List, [], ◌∷◌, length, get_or, Option, refl}
use Rattle.std.proofs.Common.{sym, ap, ◌∙◌, arith}
use Rattle.std.specs.Prelude.{is_none, is_some, not, ◌&&◌, nat_lt}
use Rattle.std.proofs.lemmas.Bool.Decides.{nat_tests}
use Rattle.dp_spec.specs.Front.{AgentFront, class_counts}
use Rattle.dp_spec.specs.Reasons.{is_unassigned}
use Rattle.dp_cluster.specs.KeptFronts.{choice_at}
use Rattle.dp_cluster.proofs.WideFronts.{none_test}

-- ---- whether one has none

pub no_agent : (ds : List AgentFront) (i c : ℕ) → length ds ≤ i → is_unassigned i c ds ≡ false
no_agent [] i c le = refl
no_agent (d ∷ ds) zero c le = absurd (omega arith)
no_agent (d ∷ ds) (suc i) c le = no_agent ds i c (omega arith)

pub unassigned_at : (ds : List AgentFront) (i c : ℕ) → i < length ds
    → is_unassigned i c ds ≡ (nat_lt c (get_or (class_counts ds) i 0) && is_none (choice_at ds i c))
unassigned_at [] i c lt = absurd (omega arith)
unassigned_at (d ∷ ds) zero c lt = refl
unassigned_at (d ∷ ds) (suc i) c lt = unassigned_at ds i c (omega arith)

-- whether it exists and has none
pub no_class : (ds : List AgentFront) (i c : ℕ) → i < length ds → get_or (class_counts ds) i 0 ≤ c
    → false ≡ is_unassigned i c ds
no_class ds i c lt le = sym (unassigned_at ds i c lt ∙ not_below c (get_or (class_counts ds) i 0)
    (is_none (choice_at ds i c)) le)
  where
    not_below : (c n : ℕ) (t : Bool) → n ≤ c → (nat_lt c n && t) ≡ false
    not_below c n t le = grind (arith, nat_tests)

pub class_none : (ds : List AgentFront) (i c : ℕ) (o : Option ℕ) (t : Bool) → i < length ds
    → c < get_or (class_counts ds) i 0
    → o ≡ choice_at ds i c → is_some o ≡ not t → t ≡ is_unassigned i c ds
class_none ds i c o t lt inside e test =
    none_test o t test ∙ ap is_none e ∙ sym (unassigned_at ds i c lt
    ∙ below c (get_or (class_counts ds) i 0) (is_none (choice_at ds i c)) inside)
  where
    below : (c n : ℕ) (t : Bool) → c < n → (nat_lt c n && t) ≡ t
    below c n t lt = grind (arith, nat_tests)
