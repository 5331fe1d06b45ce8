-- What is known of the fronts that a search holds.
use Rattle.std.proofs.Common.{◌≡◌, ℕ, ◌<◌, Bool, true, false}
use Rattle.std.proofs.Common.{ℤ, Option, None, Some, refl, sym, ap, subst, ◌∙◌}
use Rattle.std.specs.Prelude.{◌&&◌, ◌||◌, ◌==◌, not, nat_lt, nat_le, is_none, is_some, IfSome, OnOk, Result, Ok, Err}
use Rattle.dp_spec.specs.Arithmetic.{arithmetic}
use Rattle.dp_spec.specs.Fitting.{front_bound}
use Rattle.dp_spec.specs.Front.{Front}
use Rattle.dp_spec.specs.Merge.{merged_front}
use Rattle.dp_spec.specs.Pairs.{IsPair}
use Rattle.dp_spec.specs.WellFormed.{IsFront}
use Rattle.dp_spec.specs.Mode.{is_exact_mode}
use Rattle.dp_spec.specs.Model.{Model}
use Rattle.dp_spec.specs.Steps.{is_complete}
use Rattle.dp_spec.specs.Wide.{is_wide, unassigned_count, widens}
use Rattle.dp_cluster.specs.KeptFronts.{IsFrontOf, KeptFront}
use Rattle.dp_search.specs.declared.held_front.HeldFront.{HeldFront}
use Rattle.dp_search.specs.FrontPlanners.{IsPlannerFront}
use Rattle.dp_search.specs.FrontPlanning.{IsSearchFront}
use Rattle.dp_search.specs.Expansions.{IsChild, mode_bound}
use Rattle.dp_search.specs.HeldFronts.{IsHeldChild, IsHeldFront, front_meant}
use Rattle.dp_game.specs.Games.{IsGameOf}
use Rattle.dp_search.specs.declared.made_fronts.MadeFront.{MadeFront}
use Rattle.dp_search.specs.declared.path.Pair.{Pair}
use Rattle.dp_search.specs.MadeFronts.{IsMadeFront}
use Rattle.dp_search.specs.Paths.{IsMergeAt, IsPath}
use Rattle.dp_search.proofs.Expansions.{merged_is_child, merged_of_planner}
use Rattle.dp_search.proofs.MergedBounds.{merged_bound_is}

-- what follows of an answer, if there is one
pub if_some_weaker : {X : Type 0} (P Q : X → Type 0) → ((x : X) → P x → Q x) → (o : Option X) → IfSome o P
    → IfSome o Q
if_some_weaker P Q follows None p = tt
if_some_weaker P Q follows (Some x) p = follows x p

pub on_ok_weaker : {X E P Q : Type 0} → (P → Q) → (r : Result X E) → OnOk r P → OnOk r Q
on_ok_weaker follows (Ok x) p = follows p
on_ok_weaker follows (Err e) p = tt

-- ---- what a held front stands for

-- where no front is kept none is said to be
none_is : {X : Type 0} (o : Option X) → is_none o ≡ not (is_some o)
none_is None = refl
none_is (Some x) = refl

module _ (m : Model) (h look : ℕ) (merging : Bool) (s : HeldFront) where
  pub held_is : (k : KeptFront) → IsPath m h merging s.path.value → k.front ≡ front_meant m s
      → is_some s.full ≡ not (nat_lt k.front.stage k.horizon) → IfSome s.full (λ f. f.value ≡ k)
      → s.wide ≡ is_wide m k.horizon 0 k.front → IsSearchFront m h k → s.bound ≡ mode_bound m h look k.front
      → IsHeldFront m h look merging s
  held_is k path is full kept wide search bound =
      let same = search.of_planner.horizon in
      record {
        path = path;
        unfinished = λ early. ap (λ (F : Front). is_complete F.agents) (sym is)
            ∙ search.unfinished (subst (λ (F : Front). F.stage < h) (sym is) early);
        is_full = full ∙ (λ j. not (nat_lt (is j).stage (same j)));
        full = if_some_weaker (λ f. f.value ≡ k) (λ f. IsPlannerFront m h f.value)
            (λ f e. subst (IsPlannerFront m h) (sym e) search.of_planner) s.full kept;
        same = if_some_weaker (λ f. f.value ≡ k) (λ f. f.value.front ≡ front_meant m s)
            (λ f e. ap (λ (o : KeptFront). o.front) e ∙ is) s.full kept;
        wide = wide ∙ (λ j. is_wide m (same j) 0 (is j));
        bound = bound ∙ ap (mode_bound m h look) is;
      }

  module _ (held : IsHeldFront m h look merging s) where
    pub search_is : (k : KeptFront) → k.front ≡ front_meant m s → IsPlannerFront m h k → IsSearchFront m h k
    search_is k is planner = record {
      of_planner = planner;
      unfinished = λ early. ap (λ (F : Front). is_complete F.agents) is
          ∙ held.unfinished (subst (λ (F : Front). F.stage < h) is early);
    }

    -- full fronts are not wide, and neither is one below few steps where the last choice leads to room
    both : (t a x : Bool) → (not (not t) && (a || (t && (false || x)))) ≡ (t && (a || x))
    both true a x = refl
    both false a x = refl

    pub wide_is : (above : ℕ) → (is_none s.full && (nat_le 2048 above || s.wide))
        ≡ is_wide m h above (front_meant m s)
    unfolding is_wide
    wide_is above =
        let F = front_meant m s in
        ap (λ t. t && (nat_le 2048 above || s.wide)) (none_is s.full)
        ∙ (λ j. not (held.is_full j) && (nat_le 2048 above || held.wide j))
        ∙ both (nat_lt F.stage h) (nat_le 2048 above) (unassigned_count F.agents == 1 && widens m h F)

-- by cases
pub settled_or : {P : Type 0} (t : Bool) → (t ≡ true → P) → (t ≡ false → P) → P
settled_or true on off = on refl
settled_or false on off = off refl

-- ---- a child that is held

pub child_is_held : (m : Model) (h look : ℕ) (merging : Bool) (k : KeptFront) (s : HeldFront) (x : ℤ)
    → IsChild m h look (record { front = k; bound = x }) → front_meant m s ≡ k.front
    → (IsSearchFront m h k → x ≡ mode_bound m h look k.front → IsHeldFront m h look merging s)
    → IsHeldChild m h look merging (record { front = s; bound = x })
child_is_held m h look merging k s x child meant held = record {
  held = held (record { of_planner = child.of_planner; unfinished = child.unfinished }) child.bound;
  bound = child.bound ∙ ap (mode_bound m h look) (sym meant);
}

-- the bound of a merged front is that of the front before
merged_mode_bound : (m : Model) (h look : ℕ) (k : KeptFront) (i a b : ℕ) → IsPlannerFront m h k
    → k.front.stage < h → IsPair m k.front i a b → k.is_exact ≡ true
    → mode_bound m h look (merged_front k.front i a b) ≡ mode_bound m h look k.front
merged_mode_bound m h look k i a b is lt pair on =
    let mode : is_exact_mode m h ≡ true = sym (is.of_model.mode ∙ ap (is_exact_mode m) is.horizon) ∙ on in
    let front = subst (λ (n : ℕ). IsFront m n k.front) is.horizon is.of_model.front in
    ap (λ e. front_bound (arithmetic e m.scales) m h look (merged_front k.front i a b)) mode
    ∙ merged_bound_is m is.of_model.model h look k.front i a b front lt pair.order pair.first pair.second
    pair.equivalent
    ∙ ap (λ e. front_bound (arithmetic e m.scales) m h look k.front) (sym mode)

pub merged_child : (m : Model) (h look : ℕ) (merging : Bool) (k next : KeptFront) (s : HeldFront) (x : ℤ)
    (i a b : ℕ) → IsPlannerFront m h k → k.front.stage < h → IsPair m k.front i a b → k.is_exact ≡ true
    → x ≡ mode_bound m h look k.front → next.front ≡ merged_front k.front i a b → IsFrontOf m next
    → next.horizon ≡ k.horizon → front_meant m s ≡ next.front
    → (IsSearchFront m h next → x ≡ mode_bound m h look next.front → IsHeldFront m h look merging s)
    → IsHeldChild m h look merging (record { front = s; bound = x })
merged_child m h look merging k next s x i a b is lt pair on bound merged of_model horizon meant held =
    let own : x ≡ mode_bound m h look next.front =
    bound ∙ sym (merged_mode_bound m h look k i a b is lt pair on) ∙ ap (mode_bound m h look) (sym merged) in
    child_is_held m h look merging next s x
    (merged_is_child m h look k is lt i a b pair next merged of_model horizon x own) meant held

-- the merge may be made, and the front after it was made
pub merge_at : (m : Model) (h : ℕ) (k : KeptFront) → IsPlannerFront m h k → k.front.stage < h → (q : Pair)
    → IsPair m k.front q.agent q.first q.second → k.is_exact ≡ true → IsMergeAt m h k.front q
merge_at m h k is lt q pair on = record {
  early = lt;
  exact = sym (is.of_model.mode ∙ ap (is_exact_mode m) is.horizon) ∙ on;
  pair = pair;
}

pub merged_made : (m : Model) (h look : ℕ) (merging : Bool) (k next : KeptFront) (i a b : ℕ) → IsPlannerFront m h k
    → k.front.stage < h → IsPair m k.front i a b → next.front ≡ merged_front k.front i a b → IsFrontOf m next
    → next.horizon ≡ k.horizon → (F : Front) → F ≡ next.front → (made : MadeFront) → made.front.value ≡ next
    → made.game ≡ None → made.settled ≡ false → IsMadeFront m h look merging F made
merged_made m h look merging k next i a b is lt pair merged of_model horizon F at made same none unsettled = record {
  of_planner = subst (IsPlannerFront m h) (sym same)
      (merged_of_planner m h look k is lt i a b pair next merged of_model horizon);
  front = ap (λ (o : KeptFront). o.front) same ∙ sym at;
  game = subst (λ o. IfSome o (λ g. IsGameOf m h look F g.value)) (sym none) tt;
  settled = λ on. absurd (let no : true ≡ false = sym on ∙ unsettled in cc);
}
