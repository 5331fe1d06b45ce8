-- Fronts with a class that has no action.
use Rattle.std.proofs.Common.{◌≡◌, ℕ, zero, suc, ◌*◌, ◌<◌, Bool, true, false, ◌&&◌, List, [], ◌∷◌, length, get_or}
use Rattle.std.proofs.Common.{Option, None, Some, refl, sym, ap, subst, ◌∙◌, arith}
use Rattle.std.specs.Prelude.{replicate}
use Rattle.std.proofs.lemmas.List.{length-replicate}
use Rattle.dp_laws.proofs.MergedAgents.{get_or-without_below, length-without}
use Rattle.dp_spec.proofs.JointNumberLaws.{positive_left}
use Rattle.dp_spec.specs.Front.{AgentFront, Front, class_counts}
use Rattle.dp_spec.specs.JointNumbers.{product}
use Rattle.dp_spec.specs.Merge.{merged_agents, merged_front}
use Rattle.dp_spec.specs.Model.{IsModel, Model}
use Rattle.dp_spec.specs.Steps.{IsUnassigned, advanced_agent, advanced_agents, advanced_front, all_chosen}
use Rattle.dp_spec.specs.Steps.{chosen_front, front_after_choice, is_complete}
use Rattle.dp_spec.specs.WellFormed.{IsFront}
use Rattle.dp_cluster.proofs.AdvancedParts.{some_class}
use Rattle.dp_cluster.proofs.ChosenActions.{agents_of}
use Rattle.dp_search.proofs.FrontSteps.{after_complete, after_incomplete}

none_left : (os : List (Option ℕ)) (c : ℕ) → c < length os → get_or os c None ≡ None → all_chosen os ≡ false
none_left [] c lt none = absurd (omega arith)
none_left (None ∷ os) c lt none = refl
none_left (Some a ∷ os) zero lt none = cc
none_left (Some a ∷ os) (suc c) lt none = none_left os c (omega arith) none

not_both : (a b : Bool) → b ≡ false → (a && b) ≡ false
not_both true b e = e
not_both false b e = refl

-- a front with an unassigned class is not complete
pub unassigned_incomplete : (ds : List AgentFront) (i c : ℕ) → IsUnassigned i c ds → is_complete ds ≡ false
unassigned_incomplete [] i c free = absurd free
unassigned_incomplete (d ∷ ds) zero c free = rw (none_left d.chosen c free.0 free.1) refl
unassigned_incomplete (d ∷ ds) (suc i) c free = not_both (all_chosen d.chosen) (is_complete ds)
    (unassigned_incomplete ds i c free)

-- and one that is not complete has one
some_left : (os : List (Option ℕ)) → all_chosen os ≡ false
    → (c : ℕ) × ((c < length os) × (get_or os c None ≡ None))
some_left [] e = cc
some_left (None ∷ os) e = (0, (omega arith, refl))
some_left (Some a ∷ os) e = let rest = some_left os e in (suc rest.0, (omega (arith, rest.1.0), rest.1.1))

pub incomplete_has_one : (ds : List AgentFront) → is_complete ds ≡ false
    → (i : ℕ) × ((c : ℕ) × IsUnassigned i c ds)
incomplete_has_one [] e = cc
incomplete_has_one (d ∷ ds) e = go (all_chosen d.chosen) refl (incomplete_has_one ds)
  where
    go : (t : Bool) → all_chosen d.chosen ≡ t
        → (is_complete ds ≡ false → (i : ℕ) × ((c : ℕ) × IsUnassigned i c ds))
        → (i : ℕ) × ((c : ℕ) × IsUnassigned i c (d ∷ ds))
    go false at rest = let here = some_left d.chosen at in (0, (here.0, here.1))
    go true at rest =
        let left : is_complete ds ≡ false = sym (ap (λ (t : Bool). t && is_complete ds) at) ∙ e in
        let there = rest left in (suc there.0, (there.1.0, there.1.1))

-- ---- after a merge the first class stays

merged_first : (i a b : ℕ) (ds : List AgentFront) → a < b → IsUnassigned i a ds → IsUnassigned i b ds
    → IsUnassigned i a (merged_agents i a b ds)
merged_first i a b [] less first second = absurd first
merged_first zero a b (d ∷ ds) less first second = (
  omega (arith, length-without b d.chosen second.0, second.0),
  get_or-without_below b d.chosen a None less ∙ first.1,
)
merged_first (suc i) a b (d ∷ ds) less first second = merged_first i a b ds less first second

pub merged_unfinished : (F : Front) (i a b : ℕ) → a < b → IsUnassigned i a F.agents → IsUnassigned i b F.agents
    → is_complete (merged_front F i a b).agents ≡ false
merged_unfinished F i a b less first second =
    unassigned_incomplete (merged_agents i a b F.agents) i a (merged_first i a b F.agents less first second)

-- ---- after a choice, and the advance that may follow

some_none : (k : ℕ) → 0 < k → all_chosen (replicate k None) ≡ false
some_none zero some = absurd (omega arith)
some_none (suc k) some = refl

advanced_incomplete : (f : ℕ) (ns : List ℕ) (ds : List AgentFront) → 0 < length (advanced_agents ns f ds)
    → 0 < product (class_counts (advanced_agents ns f ds)) → is_complete (advanced_agents ns f ds) ≡ false
unfolding advanced_agent
advanced_incomplete f [] ds some counts = absurd (omega arith)
advanced_incomplete f (n ∷ ns) [] some counts = absurd (omega arith)
advanced_incomplete f (n ∷ ns) (d ∷ ds) some counts =
    let k = length d.chosen * n in
    let nothing : Option ℕ = None in
    let own = positive_left (length (replicate k nothing)) (product (class_counts (advanced_agents ns f ds))) 0
    counts in
    let many : 0 < k = omega (arith, own, length-replicate k nothing) in
    rw (some_none k many) refl

pub after_choice_unfinished : (m : Model) (h : ℕ) (F : Front) (i c a : ℕ) → IsModel m
    → IsFront m h (front_after_choice m F i c a) → is_complete (front_after_choice m F i c a).agents ≡ false
after_choice_unfinished m h F i c a ok front = go (is_complete (chosen_front F i c a).agents) refl
  where
    go : (t : Bool) → is_complete (chosen_front F i c a).agents ≡ t
        → is_complete (front_after_choice m F i c a).agents ≡ false
    go false e = ap (λ (G : Front). is_complete G.agents) (after_incomplete m F i c a e) ∙ e
    go true e =
        let G = chosen_front F i c a in
        let there = after_complete m F i c a e in
        let next : IsFront m h (advanced_front m G) = subst (IsFront m h) there front in
        let some : 0 < length (advanced_front m G).agents = omega (
          arith,
          agents_of next.agents,
          ok.sizes.some_agent,
        ) in
        let counts = some_class m h (advanced_front m G) ok next in
        ap (λ (G : Front). is_complete G.agents) there
        ∙ advanced_incomplete F.stage m.observations G.agents some counts

-- where the stage stays, no advance follows
pub same_stage_chosen : (m : Model) (F : Front) (i c a : ℕ) → (front_after_choice m F i c a).stage ≡ F.stage
    → front_after_choice m F i c a ≡ chosen_front F i c a
same_stage_chosen m F i c a same = go (is_complete (chosen_front F i c a).agents) refl
  where
    go : (t : Bool) → is_complete (chosen_front F i c a).agents ≡ t
        → front_after_choice m F i c a ≡ chosen_front F i c a
    go false e = after_incomplete m F i c a e
    go true e = absurd (let s = ap (λ (G : Front). G.stage) (after_complete m F i c a e) in omega arith)
