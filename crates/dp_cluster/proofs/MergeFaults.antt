-- What a merge finds: unassigned classes, and their first difference.
use Rattle.std.proofs.Common.{◌≡◌, ℕ, zero, suc, ◌<◌, ◌≤◌, true, false, List, [], ◌∷◌, length, get_or, Option, Some}
use Rattle.std.proofs.Common.{None, is_some, refl, sym, ap, ◌∙◌, arith}
use Rattle.dp_spec.specs.Front.{AgentFront, class_counts}
use Rattle.dp_spec.specs.Merge.{merged_front}
use Rattle.dp_spec.specs.Model.{Model}
use Rattle.dp_spec.specs.Steps.{IsUnassigned}
use Rattle.dp_spec.specs.UnequalPlaces.{IsFirstUnequal, first_unequal}
use Rattle.dp_laws.proofs.LosslessMerging.{merged_keeps_front, merging_loses_nothing}
use Rattle.dp_laws.proofs.UnequalPlaces.{first_unequal_is, none_unequal_is}
use Rattle.dp_cluster.specs.KeepingPolicies.{KeepsToo, LosesNothing}
use Rattle.dp_cluster.specs.KeptFronts.{IsFrontOf, KeptFront, choice_at}
use Rattle.dp_cluster.specs.Merging.{AreComparable, AreMerged}

-- an unassigned class has no action
pub unassigned_none : (ds : List AgentFront) (i c : ℕ) → IsUnassigned i c ds → choice_at ds i c ≡ None
unassigned_none [] i c free = absurd free
unassigned_none (d ∷ ds) zero c free = free.1
unassigned_none (d ∷ ds) (suc i) c free = unassigned_none ds i c free

-- a class without one is unassigned
pub none_unassigned : (ds : List AgentFront) (i c : ℕ) → i < length ds → c < get_or (class_counts ds) i 0
    → choice_at ds i c ≡ None → IsUnassigned i c ds
none_unassigned [] i c agent class none = absurd (omega arith)
none_unassigned (d ∷ ds) zero c agent class none = (class, none)
none_unassigned (d ∷ ds) (suc i) c agent class none = none_unassigned ds i c (omega arith) class none

-- as it was read
pub assigned : (ds : List AgentFront) (i c : ℕ) (o : Option ℕ) → o ≡ choice_at ds i c → is_some o ≡ true
    → ¬ IsUnassigned i c ds
assigned ds i c o read some free =
    let none : o ≡ None = read ∙ unassigned_none ds i c free in
    let no : true ≡ false = sym some ∙ ap is_some none in cc

pub none_of : (o : Option ℕ) → is_some o ≡ false → o ≡ None
none_of None e = refl
none_of (Some a) e = absurd (let no : true ≡ false = e in cc)

pub comparable : (k : KeptFront) (i a b : ℕ) (x y : Option ℕ) → k.is_exact ≡ true → a ≤ b → (a ≡ b → ⊥)
    → i < length k.front.agents → b < get_or (class_counts k.front.agents) i 0
    → x ≡ choice_at k.front.agents i a → is_some x ≡ false → y ≡ choice_at k.front.agents i b
    → is_some y ≡ false
    → AreComparable k i a b
comparable k i a b x y exact order apart agent class first no_first second no_second =
    let less : a < b = omega arith in
    record {
      exact = exact;
      order = less;
      first = none_unassigned k.front.agents i a agent (omega arith) (sym first ∙ none_of x no_first);
      second = none_unassigned k.front.agents i b agent class (sym second ∙ none_of y no_second);
    }

-- the first difference that was found
pub unequal : (m : Model) (k : KeptFront) (i a b p : ℕ) (o : Option ℕ) → o ≡ first_unequal m k.front i a b
    → o ≡ Some p
    → IsFirstUnequal m k.front i a b p
unequal m k i a b p o is found = (first_unequal_is m k.front i a b p).0 (sym is ∙ found)

-- none was found
pub merged : (m : Model) (k : KeptFront) (i a b : ℕ) (o : Option ℕ) → AreComparable k i a b
    → o ≡ first_unequal m k.front i a b
    → o ≡ None → AreMerged m k i a b
merged m k i a b o are is none = record {
  comparable = are;
  equivalent = (none_unequal_is m k.front i a b).0 (sym is ∙ none);
}

-- then nothing is lost
pub loses_nothing : (m : Model) (k : KeptFront) (i a b : ℕ) → IsFrontOf m k → k.front.stage < k.horizon
    → AreMerged m k i a b
    → LosesNothing m k.horizon k.front (merged_front k.front i a b)
loses_nothing m k i a b is lt are qs policy keeps =
    merging_loses_nothing m k.horizon k.front i a b is.front lt are.comparable.order are.comparable.first
    are.comparable.second are.equivalent qs policy keeps

pub keeps_too : (m : Model) (k : KeptFront) (i a b : ℕ) → AreComparable k i a b
    → KeepsToo m (merged_front k.front i a b) k.front
keeps_too m k i a b are qs keeps = merged_keeps_front m k.front i a b are.order are.second qs keeps
