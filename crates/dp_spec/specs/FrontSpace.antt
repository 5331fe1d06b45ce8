-- The space of a planner: the fronts of a model, with merging or without, under a branching rule.
use Rattle.std.specs.Prelude.{ℕ, ◌<◌, ◌≡◌, Bool, true, not, nat_lt, IsTrue, ℤ, List, [], ◌∷◌, map, slice_get, get_or}
use Rattle.std.specs.Prelude.{Some}
use Rattle.std.specs.List.{range_with_len}
use Rattle.dp_spec.specs.Model.{Model}
use Rattle.dp_spec.specs.Front.{Front}
use Rattle.dp_spec.specs.Steps.{IsUnassigned, front_after_choice, root_front}
use Rattle.dp_spec.specs.Merge.{AreEquivalent, merged_front}
use Rattle.dp_spec.specs.Arithmetic.{Arithmetic}
use Rattle.dp_spec.specs.Fitting.{front_bound}
use Rattle.dp_spec.specs.Qualities.{HasNoEquivalent, Place, places_of}
use Rattle.dp_spec.specs.declared.step.Step.{Step}
use Rattle.dp_spec.specs.declared.step.Step.TheVariants.{Branch, Merge}
use Rattle.dp_spec.specs.Space.{Space}
use Rattle.dp_spec.specs.Wide.{is_wide}

-- the fronts after a step
abbrev pub fronts_after : Model → Front → Step → List Front
fronts_after m F (Branch i c) = map (front_after_choice m F i c) (range_with_len 0 (get_or m.actions i 0))
fronts_after m F (Merge i a b) = merged_front F i a b ∷ []

-- the place of agent i's class c is one that the rule may answer for the places of a front
abbrev pub IsPicked : (List Place → ℕ → Type 0) → List Place → ℕ → ℕ → Type 0
IsPicked May places i c =
    (x : ℕ) × May places x × ((p : Place) × (slice_get places x ≡ Some p) × (p.agent ≡ i) × (p.class ≡ c))

-- a branch stands at a place of the rule, where nothing could be merged; a merge joins two equivalent classes
abbrev pub IsAllowed : Arithmetic → Model → ℕ → ℕ → Bool → (List Place → ℕ → Type 0) → Front → Step → Type 0
IsAllowed A m h look merging May F (Branch i c) =
    (F.stage < h) × IsUnassigned i c F.agents × (merging ≡ true → IsTrue A.is_exact → HasNoEquivalent m F)
    × IsPicked May (places_of A m h look F) i c
IsAllowed A m h look merging May F (Merge i a b) =
    (F.stage < h) × (a < b) × IsUnassigned i a F.agents × IsUnassigned i b F.agents × AreEquivalent m F i a b
    × IsTrue A.is_exact × (merging ≡ true)

-- the fronts of a model, of a horizon of h steps and a look, whether it merges, a branching rule, and the worth of
-- the policy that a full front fixes
abbrev pub front_space : Arithmetic → Model → ℕ → ℕ → Bool → (List Place → ℕ → Type 0) → (Front → ℤ) → Space
front_space A m h look merging May worth = record {
  root = root_front m;
  next = fronts_after m;
  May = IsAllowed A m h look merging May;
  bound = front_bound A m h look;
  is_full = λ F. not (nat_lt F.stage h);
  is_wide = is_wide m h;
  worth = worth;
}
