-- The places of a front are its unassigned classes.
use Rattle.std.proofs.Common.{◌≡◌, inl, inr, ℕ, zero, suc, ◌<◌, ◌≤◌, Bool, true, false, List, [], ◌∷◌, map, All}
use Rattle.std.proofs.Common.{length, get_or}
use Rattle.std.proofs.Common.{Option, None, Some, length-append, refl, sym, ap, subst, ◌∙◌, arith}
use Rattle.std.specs.Prelude.{slice_get, option_map}
use Rattle.std.specs.Fn.{FnReturnsAt, Shared}
use Rattle.std.specs.List.{flat_map, range_with_len}
use Rattle.std.proofs.lemmas.Bool.{cases_lt}
use Rattle.std.proofs.lemmas.List.{length-map}
use Rattle.std.proofs.lemmas.Option.{get_or_from_slice_get, slice_get-get_or, slice_get-map}
use denote.Ref.{Bor}
use Rattle.std.proofs.lemmas.List.Elements.{All-append, All-get_or}
use Rattle.dp_spec.specs.Arithmetic.{Arithmetic}
use Rattle.dp_spec.specs.Front.{Front, class_counts}
use Rattle.dp_spec.specs.FrontSpace.{IsPicked}
use Rattle.dp_spec.specs.Model.{Model}
use Rattle.dp_spec.specs.Qualities.{Place, chosen_of, places_of}
use Rattle.dp_spec.specs.Steps.{IsUnassigned, is_complete}
use Rattle.dp_cluster.proofs.FrontParts.{unassigned_in}
use Rattle.dp_cluster.proofs.MergeFaults.{unassigned_none}
use Rattle.dp_search.specs.declared.place.Place as told
use Rattle.dp_search.specs.Rules.{KeptChooser, MayAnswer, place_of, told_places, without_spread}
use Rattle.dp_search.specs.FrontPlaces.{agent_places_of, place_at, places_below}
use Rattle.dp_search.proofs.PlaceLists.{agent_more, choice_of, count_of, place_more, place_skipped, unassigned}
use Rattle.dp_search.proofs.UnfinishedFronts.{incomplete_has_one}

module _ (A : Arithmetic) (m : Model) (h look : ℕ) (F : Front) where
  abbrev IsFree : Place → Type 0
  IsFree p = IsUnassigned p.agent p.class F.agents

  one_free : (p : Place) → IsFree p → All IsFree (p ∷ [])
  one_free p free k d lt = at k lt
    where
      at : (k : ℕ) → k < 1 → IsFree (get_or (p ∷ []) k d)
      at zero lt = free
      at (suc k) lt = absurd (omega arith)

  -- ---- each is an unassigned class

  free_more : (i n : ℕ) → i < length F.agents → n < length (chosen_of F i)
      → All IsFree (places_below A m h look F i n) → (o : Option ℕ) → get_or (chosen_of F i) n None ≡ o
      → All IsFree (places_below A m h look F i (suc n))
  free_more i n agent lt before (Some a) at =
      subst (All IsFree) (sym (place_skipped A m h look F i n a at)) before
  free_more i n agent lt before None at =
      let class : n < get_or (class_counts F.agents) i 0 = omega (arith, lt, count_of F.agents i agent) in
      let free = unassigned F.agents i n agent class (choice_of F.agents i n agent ∙ at) in
      subst (All IsFree) (sym (place_more A m h look F i n at))
      (All-append IsFree (places_below A m h look F i n) (place_at A m h look F i n ∷ []) before
      (one_free (place_at A m h look F i n) free))

  free_below : (i n : ℕ) → i < length F.agents → n ≤ length (chosen_of F i)
      → All IsFree (places_below A m h look F i n)
  free_below i zero agent le = λ k d lt. absurd (omega arith)
  free_below i (suc n) agent le =
      free_more i n agent (omega arith) (free_below i n agent (omega arith)) (get_or (chosen_of F i) n None)
      refl

  free_agents : (n : ℕ) → n ≤ length F.agents
      → All IsFree (flat_map (agent_places_of A m h look F) (range_with_len 0 n))
  free_agents zero le = λ k d lt. absurd (omega arith)
  free_agents (suc n) le =
      subst (All IsFree) (sym (agent_more A m h look F n))
      (All-append IsFree (flat_map (agent_places_of A m h look F) (range_with_len 0 n))
      (agent_places_of A m h look F n) (free_agents n (omega arith))
      (free_below n (length (chosen_of F n)) (omega arith) (omega arith)))

  pub places_free : All IsFree (places_of A m h look F)
  places_free = free_agents (length F.agents) (omega arith)

  -- ---- and there is one where a class is unassigned

  some_more : (i c n : ℕ) → c < suc n → get_or (chosen_of F i) c None ≡ None
      → (c < n → 0 < length (places_below A m h look F i n)) → (o : Option ℕ)
      → get_or (chosen_of F i) n None ≡ o → 0 < length (places_below A m h look F i (suc n))
  some_more i c n lt none before None at =
      let many = ap (λ l. length l) (place_more A m h look F i n at) in
      let both = length-append (places_below A m h look F i n) (place_at A m h look F i n ∷ []) in
      omega (arith, many, both)
  some_more i c n lt none before (Some a) at =
      let same = ap (λ l. length l) (place_skipped A m h look F i n a at) in
      elim (cases_lt c n) [
        | inl less ↦ let some = before less in omega (arith, same, some)
        | inr le ↦
            let last : c ≡ n = omega arith in
            absurd (let no : Some a ≡ None = sym at ∙ ap (λ (k : ℕ). get_or (chosen_of F i) k None) (sym last)
            ∙ none in cc)
      ]

  some_below : (i c n : ℕ) → c < n → get_or (chosen_of F i) c None ≡ None
      → 0 < length (places_below A m h look F i n)
  some_below i c zero lt none = absurd (omega arith)
  some_below i c (suc n) lt none =
      some_more i c n lt none (λ less. some_below i c n less none) (get_or (chosen_of F i) n None) refl

  some_agent : (i n : ℕ) → i < n → 0 < length (agent_places_of A m h look F i)
      → 0 < length (flat_map (agent_places_of A m h look F) (range_with_len 0 n))
  some_agent i zero lt some = absurd (omega arith)
  some_agent i (suc n) lt some =
      let many = ap (λ l. length l) (agent_more A m h look F n) in
      let both = length-append (flat_map (agent_places_of A m h look F) (range_with_len 0 n))
      (agent_places_of A m h look F n) in
      elim (cases_lt i n) [
        | inl less ↦ omega (arith, many, both, some_agent i n less some)
        | inr le ↦
            let last : i ≡ n = omega arith in
            let here = subst (λ (k : ℕ). 0 < length (agent_places_of A m h look F k)) last some in
            omega (arith, many, both, here)
      ]

  pub some_place : is_complete F.agents ≡ false → 0 < length (places_of A m h look F)
  some_place e =
      let one = incomplete_has_one F.agents e in
      let i = one.0 in
      let c = one.1.0 in
      let within = unassigned_in F.agents i c one.1.1 in
      let none = sym (choice_of F.agents i c within.0) ∙ unassigned_none F.agents i c one.1.1 in
      let class : c < length (chosen_of F i) = omega (arith, within.1, count_of F.agents i within.0) in
      some_agent i (length F.agents) within.0 (some_below i c (length (chosen_of F i)) class none)

-- ---- the places as they are told to a rule

-- there are as many
told_length : (s : Bool) (ps : List Place) → length (told_places s ps) ≡ length ps
told_length true ps = refl
told_length false ps = length-map ps without_spread

-- what is told at a number is of the place there
told_at : (s : Bool) (ps : List Place) (x : ℕ) (q : Place) → slice_get (told_places s ps) x ≡ Some q
    → (p : Place) × (slice_get ps x ≡ Some p) × (p.agent ≡ q.agent) × (p.class ≡ q.class)
told_at true ps x q e = (q, e, refl, refl)
told_at false ps x q e = by (slice_get ps x) refl (sym (slice_get-map without_spread ps x) ∙ e)
  where
    by : (o : Option Place) → slice_get ps x ≡ o → option_map without_spread o ≡ Some q
        → (p : Place) × (slice_get ps x ≡ Some p) × (p.agent ≡ q.agent) × (p.class ≡ q.class)
    by (Some p) is e =
        let there : without_spread p ≡ q = cc in
        (p, is, ap (λ (r : Place). r.agent) there, ap (λ (r : Place). r.class) there)
    by None is e = cc

module _ (A : Arithmetic) (m : Model) (h look : ℕ) (F : Front) (s : Bool) (all : List told.Place)
    (are : map place_of all ≡ told_places s (places_of A m h look F)) where
  pub as_many : length all ≡ length (places_of A m h look F)
  as_many = sym (length-map all place_of) ∙ ap (λ l. length l) are ∙ told_length s (places_of A m h look F)

  pub some_told : is_complete F.agents ≡ false → 0 < length all
  some_told e = omega (arith, some_place A m h look F e, as_many)

  module _ (x : ℕ) (p d : told.Place) (lt : x < length all) (at : p ≡ get_or all x d) where
    answered : slice_get (told_places s (places_of A m h look F)) x ≡ Some (place_of p)
    answered =
        ap (λ l. slice_get l x) (sym are) ∙ slice_get-map place_of all x
        ∙ ap (option_map place_of) (slice_get-get_or all x d lt ∙ ap (λ q. Some q) (sym at))

    -- the place that is answered
    own : (q : Place) × (slice_get (places_of A m h look F) x ≡ Some q) × (q.agent ≡ p.agent)
        × (q.class ≡ p.class)
    own = told_at s (places_of A m h look F) x (place_of p) answered

    pub place_free : IsUnassigned p.agent p.class F.agents
    place_free =
        let q = own.0 in
        let here = get_or_from_slice_get (places_of A m h look F) x q q own.1 in
        let within : x < length (places_of A m h look F) = omega (arith, lt, as_many) in
        let free = subst (IsFree A m h look F) here
        (All-get_or (IsFree A m h look F) (places_of A m h look F) x q within (places_free A m h look F)) in
        subst (λ c. IsUnassigned p.agent c F.agents) own.3
        (subst (λ i. IsUnassigned i q.class F.agents) own.2 free)

    pub place_picked : {C : Type 0} (g : Shared C (Bor (List told.Place) × Unit {0}) ℕ) (chooser : KeptChooser C)
        → chooser.spreads ≡ s → FnReturnsAt g chooser.rule all x
        → IsPicked (MayAnswer g chooser) (places_of A m h look F) p.agent p.class
    place_picked g chooser same answer =
        let told = subst (λ t. map place_of all ≡ told_places t (places_of A m h look F)) (sym same) are in
        (x, (all, told, answer), own)
