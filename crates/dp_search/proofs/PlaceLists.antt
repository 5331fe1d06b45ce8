-- The places of a front in their list, class after class and agent after agent.
use Rattle.std.proofs.Common.{◌≡◌, ℕ, zero, suc, ◌+◌, ◌^◌, ◌<◌, ◌≤◌, Bool, true, false, List, [], ◌∷◌, ◌++◌, map}
use Rattle.std.proofs.Common.{length, get_or, add-one, append_assoc, length-append, true≢false, Option, None, Some}
use Rattle.std.proofs.Common.{ℤ, refl, sym, ap, ◌∙◌, arith}
use Rattle.std.specs.Prelude.{filter, is_none, is_some}
use Rattle.std.specs.List.{flat_map, range_with_len}
use Rattle.std.proofs.lemmas.Grind.{flat_map-append}
use Rattle.std.proofs.lemmas.List.{map-append}
use Rattle.std.proofs.lemmas.List.Elements.{filter-append}
use Rattle.dp_spec.specs.Arithmetic.{Arithmetic}
use Rattle.dp_spec.specs.Front.{AgentFront, Front, class_counts}
use Rattle.dp_spec.specs.JointNumbers.{product}
use Rattle.dp_spec.specs.Model.{Model}
use Rattle.dp_spec.specs.Qualities.{chosen_of}
use Rattle.dp_spec.specs.Steps.{IsUnassigned, root_agent}
use Rattle.dp_spec.proofs.ModelLaws.{some_state}
use Rattle.dp_cluster.specs.Joins.{own_count}
use Rattle.dp_cluster.specs.KeptFronts.{IsFrontOf, IsStored, KeptFront, choice_at}
use Rattle.dp_cluster.proofs.AdvancedParts.{factor_le, some_class}
use Rattle.dp_cluster.proofs.FrontParts.{as_many_counts, count_most}
use Rattle.dp_game.specs.Games.{IsGameOf, KeptGame, own_choice}
use Rattle.dp_game.proofs.OwnChoices.{as_many_choices, choices_of}
use Rattle.dp_spec.specs.Qualities as qualities
use Rattle.dp_search.specs.declared.place.Place.{Place}
use Rattle.dp_search.specs.Rules.{place_of, told_place, told_places, without_spread}
use Rattle.dp_search.specs.FrontPlaces.{agent_places_of, place_at, places_below, spread_told}

-- ---- lists of numbers

pub range_more : (a n : ℕ) → range_with_len a (suc n) ≡ range_with_len a n ++ (a + n) ∷ []
range_more a zero = ap (λ (x : ℕ). x ∷ []) (omega arith)
range_more a (suc n) =
    let same : a + 1 + n ≡ a + suc n = omega arith in
    ap (λ l. a ∷ l) (range_more (a + 1) n ∙ ap (λ (x : ℕ). range_with_len (a + 1) n ++ x ∷ []) same)

pub below_more : (n : ℕ) → range_with_len 0 (suc n) ≡ range_with_len 0 n ++ n ∷ []
below_more n = range_more 0 n ∙ ap (λ (x : ℕ). range_with_len 0 n ++ x ∷ []) (omega arith)

one_kept : (p : ℕ → Bool) (n : ℕ) → p n ≡ true → filter p (n ∷ []) ≡ n ∷ []
one_kept p n e = rw e refl

none_kept : (p : ℕ → Bool) (n : ℕ) → p n ≡ false → filter p (n ∷ []) ≡ []
none_kept p n e = rw e refl

append_none : {X : Type 0} (xs : List X) → xs ++ [] ≡ xs
append_none [] = refl
append_none (x ∷ xs) = ap (λ l. x ∷ l) (append_none xs)

-- ---- the places of an agent

module _ (A : Arithmetic) (m : Model) (h look : ℕ) (F : Front) where
  abbrev free_class : ℕ → ℕ → Bool
  free_class i c = is_none (get_or (chosen_of F i) c None)

  all_more : (i n : ℕ) → places_below A m h look F i (suc n)
      ≡ places_below A m h look F i n ++ map (place_at A m h look F i) (filter (free_class i) (n ∷ []))
  all_more i n =
      ap (λ l. map (place_at A m h look F i) (filter (free_class i) l)) (below_more n)
      ∙ ap (map (place_at A m h look F i)) (filter-append (free_class i) (range_with_len 0 n) (n ∷ []))
      ∙ map-append (place_at A m h look F i) (filter (free_class i) (range_with_len 0 n)) (filter (free_class i)
      (n ∷ []))

  pub place_more : (i n : ℕ) → get_or (chosen_of F i) n None ≡ None
      → places_below A m h look F i (suc n) ≡ places_below A m h look F i n ++ place_at A m h look F i n ∷ []
  place_more i n none =
      all_more i n
      ∙ ap (λ l. places_below A m h look F i n ++ map (place_at A m h look F i) l)
      (one_kept (free_class i) n (ap (λ o. is_none o) none))

  pub place_skipped : (i n a : ℕ) → get_or (chosen_of F i) n None ≡ Some a
      → places_below A m h look F i (suc n) ≡ places_below A m h look F i n
  place_skipped i n a some =
      all_more i n
      ∙ ap (λ l. places_below A m h look F i n ++ map (place_at A m h look F i) l)
      (none_kept (free_class i) n (ap (λ o. is_none o) some)) ∙ append_none (places_below A m h look F i n)

  -- ---- agent after agent
  pub agent_more : (i : ℕ) → flat_map (agent_places_of A m h look F) (range_with_len 0 (suc i))
      ≡ flat_map (agent_places_of A m h look F) (range_with_len 0 i) ++ agent_places_of A m h look F i
  agent_more i =
      ap (flat_map (agent_places_of A m h look F)) (below_more i)
      ∙ flat_map-append (agent_places_of A m h look F) (range_with_len 0 i) (i ∷ [])
      ∙ ap (λ l. flat_map (agent_places_of A m h look F) (range_with_len 0 i) ++ l) (append_none
      (agent_places_of A m h look F i))

-- ---- classes as they are read

pub choice_of : (ds : List AgentFront) (i c : ℕ) → i < length ds
    → choice_at ds i c ≡ get_or ((get_or ds i root_agent).chosen) c None
choice_of [] i c lt = absurd (omega arith)
choice_of (d ∷ ds) zero c lt = refl
choice_of (d ∷ ds) (suc i) c lt = choice_of ds i c (omega arith)

pub count_of : (ds : List AgentFront) (i : ℕ) → i < length ds
    → get_or (class_counts ds) i 0 ≡ length ((get_or ds i root_agent).chosen)
count_of [] i lt = absurd (omega arith)
count_of (d ∷ ds) zero lt = refl
count_of (d ∷ ds) (suc i) lt = count_of ds i (omega arith)

pub unassigned : (ds : List AgentFront) (i c : ℕ) → i < length ds → c < get_or (class_counts ds) i 0
    → choice_at ds i c ≡ None → IsUnassigned i c ds
unassigned [] i c lt hc none = absurd (omega arith)
unassigned (d ∷ ds) zero c lt hc none = (hc, none)
unassigned (d ∷ ds) (suc i) c lt hc none = unassigned ds i c (omega arith) hc none

choices_at : (ds : List AgentFront) (i : ℕ) → i < length ds
    → get_or (choices_of ds) i [] ≡ (get_or ds i root_agent).chosen
choices_at [] i lt = absurd (omega arith)
choices_at (d ∷ ds) zero lt = refl
choices_at (d ∷ ds) (suc i) lt = choices_at ds i (omega arith)

-- ---- and in the game of a front

module _ (m : Model) (h look : ℕ) (F : Front) (g : KeptGame) (is : IsGameOf m h look F g) (i c : ℕ)
    (lt : i < length F.agents) where
  pub agent_in : i < length g.choices
  agent_in = let many = ap (λ oss. length oss) is.choices in let e = as_many_choices F.agents in omega arith

  own_is : get_or g.choices i [] ≡ (get_or F.agents i root_agent).chosen
  own_is = ap (λ oss. get_or oss i []) is.choices ∙ choices_at F.agents i lt

  pub class_in : c < get_or (class_counts F.agents) i 0 → c < length (get_or g.choices i [])
  class_in hc = let e = ap (λ os. length os) own_is in let n = count_of F.agents i lt in omega arith

  pub choice_in : own_choice g i c ≡ choice_at F.agents i c
  choice_in = ap (λ os. get_or os c None) own_is ∙ sym (choice_of F.agents i c lt)

-- ---- how many there are

-- an agent has at most 2^22 classes
pub count_small : (m : Model) (k : KeptFront) → IsFrontOf m k → IsStored k → k.front.stage < k.horizon → (i : ℕ)
    → i < length k.front.agents → own_count k i ≤ 2 ^ 22
count_small m k is stored early i lt =
    let counts = class_counts k.front.agents in
    let some = some_class m k.horizon k.front is.model is.front in
    let states : 0 < k.states = let s = some_state m is.model in let e = is.states in omega arith in
    let all = count_most (product counts) k.states (2 ^ 22) states (stored.room early) in
    let n = as_many_counts k.front.agents in
    let le = factor_le counts i some (omega arith) in omega arith

-- ---- places as they are told

pub told_none : (s : Bool) → told_places s [] ≡ []
told_none true = refl
told_none false = refl

pub told_append : (s : Bool) (ps qs : List qualities.Place)
    → told_places s (ps ++ qs) ≡ told_places s ps ++ told_places s qs
told_append true ps qs = refl
told_append false ps qs = map-append without_spread ps qs

told_more : (s : Bool) (ps : List qualities.Place) (p : qualities.Place)
    → told_places s (ps ++ p ∷ []) ≡ told_places s ps ++ told_place s p ∷ []
told_more true ps p = refl
told_more false ps p = map-append without_spread ps (p ∷ [])

-- the place of a class, with its spread as it is told
abbrev pub place_with : ℕ → ℕ → ℤ → ℤ → qualities.Place
place_with i c w x = record { agent = i; class = c; weight = w; spread = x }

pub told_is : (s : Bool) (i c : ℕ) (w x y : ℤ) → x ≡ spread_told s y
    → place_with i c w x ≡ told_place s (place_with i c w y)
told_is true i c w x y e = ap (place_with i c w) e
told_is false i c w x y e = ap (place_with i c w) e

-- ---- one class further

module _ (A : Arithmetic) (m : Model) (h look : ℕ) (F : Front) (s : Bool) (i c : ℕ) (lt : i < length F.agents)
    (pre : List qualities.Place) (all : List Place)
    (before : map place_of all ≡ pre ++ told_places s (places_below A m h look F i c)) where
  pub class_pushed : (new : Place) (all' : List Place) → choice_at F.agents i c ≡ None
      → place_of new ≡ told_place s (place_at A m h look F i c) → all' ≡ all ++ new ∷ []
      → map place_of all' ≡ pre ++ told_places s (places_below A m h look F i (c + 1))
  class_pushed new all' none same pushed =
      ap (map place_of) pushed ∙ map-append place_of all (new ∷ [])
      ∙ (λ j. before j ++ same j ∷ [])
      ∙ append_assoc pre (told_places s (places_below A m h look F i c))
      (told_place s (place_at A m h look F i c) ∷ [])
      ∙ ap (λ l. pre ++ l) (sym (told_more s (places_below A m h look F i c) (place_at A m h look F i c)))
      ∙ ap (λ l. pre ++ told_places s l)
      (sym (place_more A m h look F i c (sym (choice_of F.agents i c lt) ∙ none)))
      ∙ ap (λ n. pre ++ told_places s (places_below A m h look F i n)) (sym (add-one c))

  pub class_skipped : (a : ℕ) → choice_at F.agents i c ≡ Some a
      → map place_of all ≡ pre ++ told_places s (places_below A m h look F i (c + 1))
  class_skipped a some =
      before ∙ ap (λ l. pre ++ told_places s l) (sym (place_skipped A m h look F i c a
      (sym (choice_of F.agents i c lt) ∙ some)))
      ∙ ap (λ n. pre ++ told_places s (places_below A m h look F i n)) (sym (add-one c))

pub one_longer : (all all' : List Place) (new : Place) → all' ≡ all ++ new ∷ [] → length all' ≡ length all + 1
one_longer all all' new e = ap (λ l. length l) e ∙ length-append all (new ∷ [])

-- ---- whether a class has an action

pub none_is : (o : Option ℕ) → is_some o ≡ false → o ≡ None
none_is None e = refl
none_is (Some a) e = absurd (true≢false e)

pub some_is : (o : Option ℕ) → is_some o ≡ true → (a : ℕ) × (o ≡ Some a)
some_is None e = absurd (true≢false (sym e))
some_is (Some a) e = (a, refl)
