-- The rows of a shared form, stage by stage as they are reached.
use Rattle.std.proofs.Common.{◌≡◌, ℕ, zero, suc, ◌+◌, ◌-◌, ◌^◌, ◌<◌, ◌≤◌, List, [], ◌∷◌, ◌++◌, cond, nat_lt, inl, inr}
use Rattle.std.proofs.Common.{length, get_or, drop, append_assoc, refl, sym, ap, ◌∙◌, subst, arith}
use Rattle.std.specs.Prelude.{◌==◌}
use Rattle.std.proofs.Math.ListN.{get_or-append}
use Rattle.std.proofs.Math.Seq.{drop-cons, get_or-append_seam}
use Rattle.std.proofs.lemmas.Bool.{cases_lt}
use Rattle.std.proofs.lemmas.Bool.Decides.{nat_tests}
use Rattle.dp_spec.specs.Model.{IsModel, Model}
use Rattle.dp_spec.specs.PolicyTree.{PolicyTree, node, more_trees}
use Rattle.dp_spec.specs.SharedForm.{AreInOrder, AreReducedRows, all_nexts, read_after, shared_form, shared_rows}
use Rattle.dp_spec.specs.SharedForm.{shared_rows_of}
use Rattle.dp_spec.specs.SharedPolicy.{AgentRows, AreAgentRows, IsSharedOf, PolicyRow, SharedPolicy, no_row, row_at}
use Rattle.dp_spec.specs.SharedPolicy.{row_count, tree_of_row, trees_of, unfolded, unfolded_tree}
use Rattle.dp_laws.proofs.PlainForms.{first_by_place, stages_from}
use Rattle.dp_laws.proofs.ReducedRows.{reduced_agent_is_form}
use Rattle.dp_laws.proofs.SharedTrees.{first_count_is, last_row_nexts, row_action_below, row_nexts, rows_tree}
use Rattle.dp_laws.proofs.SharedTrees.{rows_tree_is}
use Rattle.dp_laws.proofs.SharedForms.{shared_form_is}
use Rattle.dp_policy.specs.Kinds.{AreKinds}
use Rattle.dp_policy.specs.Renumbered.{AreRenumbered}
use Rattle.dp_policy.specs.SharedRows.{AreKept}
use Rattle.dp_policy.proofs.JoinedRows.{kept_rows, some_step}
use Rattle.dp_policy.proofs.Lists.{drop_all}
use Rattle.dp_policy.proofs.KindsOfRows.{goes_on, nexts_counted, nexts_inside}

-- the rows of stage t for the rows that were reached, and the rows of the next stage that they reach
pub record IsReducedStage (stages : AgentRows) (h t : ℕ) (rows : List PolicyRow)
    (from to : List ℕ) : Type 0 where
  pub counted : length rows ≡ length from
  pub action : (j : ℕ) → j < length from → (get_or rows j no_row).action
      ≡ (row_at stages t (get_or from j 0)).action
  pub nexts : (j : ℕ) → j < length from
      → length (get_or rows j no_row).next ≡ length (row_at stages t (get_or from j 0)).next
  pub below : (j o : ℕ) → j < length from → o < length (row_at stages t (get_or from j 0)).next
      → get_or (get_or rows j no_row).next o 0 < length to
  pub same : (j o : ℕ) → j < length from → o < length (row_at stages t (get_or from j 0)).next
      → rows_tree stages (suc t) (get_or to (get_or (get_or rows j no_row).next o 0) 0)
      ≡ rows_tree stages (suc t)
      (get_or (row_at stages t (get_or from j 0)).next o 0)
  pub in_order : AreInOrder 0 (all_nexts rows)
  pub read : read_after 0 (all_nexts rows) ≡ length to
  pub apart : suc t < h → (x y : ℕ) → x < length to → y < length to
      → rows_tree stages (suc t) (get_or to x 0) ≡ rows_tree stages (suc t) (get_or to y 0) → x ≡ y
  pub inside : suc t < h → (x : ℕ) → x < length to → get_or to x 0 < row_count stages (suc t)

-- the first t stages, with the rows that were reached at each
pub record AreReducedUpTo (stages : AgentRows) (h t : ℕ) (made : AgentRows) (reached : List ℕ) : Type 0 where
  pub met : ℕ → List ℕ
  pub first : met 0 ≡ 0 ∷ []
  pub now : met t ≡ reached
  pub counted : length made ≡ t
  pub each : (u : ℕ) → u < t → IsReducedStage stages h u (get_or made u []) (met u) (met (suc u))

pub reduced_first : (stages : AgentRows) (h : ℕ) → AreReducedUpTo stages h 0 [] (0 ∷ [])
reduced_first stages h = record
    { met = λ u. 0 ∷ []; first = refl; now = refl; counted = refl; each = λ u lt. absurd (omega arith) }

module _ (b n h : ℕ) (stages : AgentRows) (are : AreAgentRows b n h stages) where
  -- rows that were reached are rows
  pub reached_inside : (t : ℕ) (made : AgentRows) (reached : List ℕ) → t < h
      → AreReducedUpTo stages h t made reached
      → (j : ℕ) → j < length reached → get_or reached j 0 < row_count stages t
  reached_inside zero made reached lt so_far j lj =
      let e = sym so_far.first ∙ so_far.now in
      let one : j ≡ 0 = let count = ap length e in omega arith in
      let some : row_count stages 0 ≡ 1 = sym (first_count_is stages) ∙ are.one_first in
      let at : get_or reached j 0 ≡ 0 = ap (λ (l : List ℕ). get_or l j 0) (sym e)
      ∙ ap (λ (z : ℕ). get_or (0 ∷ []) z 0) one in
      omega arith
  reached_inside (suc t) made reached lt so_far j lj =
      subst (λ (l : List ℕ). get_or l j 0 < row_count stages (suc t)) so_far.now
      ((so_far.each t (omega arith)).inside lt j (let e = ap length so_far.now in omega arith))

  -- a stage by its kinds
  pub stage_by_kinds : (t : ℕ) → t < h → (nexts : ℕ) → nexts ≡ cond (nat_lt (suc t) h) n 0
      → (kinds from to : List ℕ) (rows : List PolicyRow)
      → (suc t < h → AreKinds stages (suc t) kinds) → (h ≤ suc t → kinds ≡ [])
      → ((j : ℕ) → j < length from → get_or from j 0 < row_count stages t)
      → AreRenumbered stages t kinds (length from) from rows to
      → ((x : ℕ) → x < length to → get_or to x 0 < length kinds)
      → ((x y : ℕ) → x < length to → y < length to → get_or kinds (get_or to x 0) 0
      ≡ get_or kinds (get_or to y 0) 0
      → x ≡ y)
      → IsReducedStage stages h t rows from to
  stage_by_kinds t lt nexts is kinds from to rows next none inside made within apart = record {
    counted = made.counted;
    action = made.action;
    nexts = made.nexts;
    below = made.below;
    same = λ j o lj lo.
        let e = nexts_counted b n h stages are t lt nexts is (get_or from j 0) (inside j lj) in
        let step = goes_on b n h stages are t lt nexts is (omega arith) in
        let K = next step in
        let size = K.counted in
        let x = get_or (get_or rows j no_row).next o 0 in
        let lx = made.below j o lj lo in
        let w = within x lx in
        (K.same _ _ (omega arith) (nexts_inside b n h stages are t lt nexts is (get_or from j 0) o (inside j lj)
        (omega arith))).0 (made.same j o lj lo);
    in_order = made.in_order;
    read = made.read;
    apart = λ step x y lx ly same.
        let K = next step in
        let size = K.counted in
        let wx = within x lx in
        let wy = within y ly in
        apart x y lx ly ((K.same _ _ (omega arith) (omega arith)).1 same);
    inside = λ step x lx. let size = (next step).counted in let w = within x lx in omega arith;
  }

  -- one stage more
  pub reduced_step : (t : ℕ) (made : AgentRows) (reached later : List ℕ) (rows : List PolicyRow)
      → AreReducedUpTo stages h t made reached
      → IsReducedStage stages h t rows reached later → AreReducedUpTo stages h (suc t) (made ++ rows ∷ []) later
  reduced_step t made reached later rows so_far here = record {
    met = then;
    first = before 0 (omega arith) ∙ so_far.first;
    now = last;
    counted = longer made rows ∙ ap suc so_far.counted;
    each = λ u lu. elim (cases_lt u t) [
      | inl early ↦
          let size = so_far.counted in
          subst (λ (l : List ℕ). IsReducedStage stages h u (get_or (made ++ rows ∷ []) u []) l (then (suc u)))
          (sym (before u (omega arith)))
          (subst (λ (l : List ℕ). IsReducedStage stages h u (get_or (made ++ rows ∷ []) u []) (so_far.met u) l)
          (sym (before (suc u) (omega arith)))
          (subst (λ (r : List PolicyRow). IsReducedStage stages h u r (so_far.met u) (so_far.met (suc u)))
          (sym (get_or-append made (rows ∷ []) [] u (omega arith))) (so_far.each u early)))
      | inr late ↦
          let e : t ≡ u = omega arith in
          let row : get_or (made ++ rows ∷ []) t [] ≡ rows =
          ap (λ (z : ℕ). get_or (made ++ rows ∷ []) z []) (sym so_far.counted)
          ∙ get_or-append_seam made rows [] [] in
          subst (λ (z : ℕ). IsReducedStage stages h z (get_or (made ++ rows ∷ []) z []) (then z)
          (then (suc z))) e
          (subst (λ (l : List ℕ). IsReducedStage stages h t (get_or (made ++ rows ∷ []) t []) l (then (suc t)))
          (sym (before t (omega arith) ∙ so_far.now))
          (subst (λ (l : List ℕ). IsReducedStage stages h t (get_or (made ++ rows ∷ []) t []) reached l)
          (sym last)
          (subst (λ (r : List PolicyRow). IsReducedStage stages h t r reached later) (sym row) here)))
    ];
  }
    where
      then : ℕ → List ℕ
      then u = cond (u == suc t) later (so_far.met u)

      last : then (suc t) ≡ later
      last = grind (arith, nat_tests)

      before : (u : ℕ) → u < suc t → then u ≡ so_far.met u
      before u lt = grind (arith, nat_tests)

      longer : (xs : AgentRows) (x : List PolicyRow) → length (xs ++ x ∷ []) ≡ suc (length xs)
      longer [] x = refl
      longer (y ∷ xs) x = ap suc (longer xs x)

-- trees of numbers in two readings
trees_alike_in : (f g : ℕ → PolicyTree) (xs ys : List ℕ) → length xs ≡ length ys
    → ((o : ℕ) → o < length ys → f (get_or xs o 0) ≡ g (get_or ys o 0)) → trees_of f xs ≡ trees_of g ys
trees_alike_in f g [] [] e each = refl
trees_alike_in f g [] (y ∷ ys) e each = absurd (omega arith)
trees_alike_in f g (x ∷ xs) [] e each = absurd (omega arith)
trees_alike_in f g (x ∷ xs) (y ∷ ys) e each =
    let here = each 0 (omega arith) in
    let rest = trees_alike_in f g xs ys (omega arith) (λ o lt. each (suc o) (omega arith)) in
    (λ i. more_trees (here i) (rest i))

-- ---- all stages

module _ (b n h : ℕ) (stages : AgentRows) (are : AreAgentRows b n h stages) (some : 0 < n) (steps : 0 < h)
    (made : AgentRows) (reached : List ℕ) (all : AreReducedUpTo stages h h made reached) where
  size : length stages ≡ h
  size = are.of_horizon

  met_inside : (t : ℕ) → t < h → (j : ℕ) → j < length (all.met t) → get_or (all.met t) j 0 < row_count stages t
  met_inside zero lt j lj =
      let e = all.first in
      let one : j ≡ 0 = let count = ap length e in omega arith in
      let rows : row_count stages 0 ≡ 1 = sym (first_count_is stages) ∙ are.one_first in
      let at : get_or (all.met 0) j 0 ≡ 0 = ap (λ (l : List ℕ). get_or l j 0) e
      ∙ ap (λ (z : ℕ). get_or (0 ∷ []) z 0) one in
      omega arith
  met_inside (suc t) lt j lj = (all.each t (omega arith)).inside lt j lj

  -- a reached row has as many next rows as there are observations
  old_nexts : (t : ℕ) → suc t < h → (j : ℕ) → j < length (all.met t)
      → length (row_at stages t (get_or (all.met t) j 0)).next ≡ n
  old_nexts t step j lj = let s = size in
      row_nexts b n stages are.rows t (get_or (all.met t) j 0) (omega arith) (met_inside t (omega arith) j lj)

  some_met : (t : ℕ) → t < h → 0 < length (all.met t)
  some_met zero lt = let e = ap length all.first in omega arith
  some_met (suc t) lt =
      let before = some_met t (omega arith) in
      let e = old_nexts t lt 0 before in
      let b = (all.each t (omega arith)).below 0 0 before (omega arith) in
      omega arith

  counts : (t : ℕ) → t < h → row_count made t ≡ length (all.met t)
  counts t lt = (all.each t lt).counted

  -- the new rows are rows
  pub made_rows_are : AreAgentRows b n h made
  made_rows_are =
      let m = all.counted in
      record {
        of_horizon = all.counted;
        one_first = first_by_place made 1 (counts 0 steps ∙ ap length all.first);
        rows = stages_from b n made
            (λ t lt. let c = counts t (omega arith) in let s = some_met t (omega arith) in omega arith)
            (λ t r lt lr.
            let c = counts t (omega arith) in
            let inside : r < length (all.met t) = omega arith in
            let a = (all.each t (omega arith)).action r inside in
            let acts = row_action_below b n stages are.rows t (get_or (all.met t) r 0)
            (met_inside t (omega arith) r inside) in
            omega arith)
            (λ t r lt lr.
            let c = counts t (omega arith) in
            (all.each t (omega arith)).nexts r (omega arith) ∙ old_nexts t (omega arith) r (omega arith))
            (λ t r o lt lr lo.
            let c = counts t (omega arith) in
            let d = counts (suc t) (omega arith) in
            let e = old_nexts t (omega arith) r (omega arith) in
            let x = (all.each t (omega arith)).below r o (omega arith) (omega arith) in
            omega arith)
            (λ t r e lr.
            let c = counts t (omega arith) in
            let s = size in
            (all.each t (omega arith)).nexts r (omega arith)
            ∙ ap length (last_row_nexts b n stages are.rows t (get_or (all.met t) r 0) (omega arith)
            (met_inside t (omega arith) r (omega arith))));
      }

  -- and their trees are those of the rows that were reached
  made_trees : (k t : ℕ) → t + suc k ≡ h → (j : ℕ) → j < length (all.met t)
      → rows_tree made t j ≡ rows_tree stages t (get_or (all.met t) j 0)
  made_trees zero t e j lj =
      let s = size in
      let stage = all.each t (omega arith) in
      let none = last_row_nexts b n stages are.rows t (get_or (all.met t) j 0) (omega arith)
      (met_inside t (omega arith) j lj) in
      let subs = trees_alike_in (rows_tree made (suc t)) (rows_tree stages (suc t)) (row_at made t j).next
      (row_at stages t (get_or (all.met t) j 0)).next (stage.nexts j lj)
      (λ o lo. let l = ap length none in absurd (omega arith)) in
      rows_tree_is made t j ∙ (λ i. node (stage.action j lj i) (subs i))
      ∙ sym (rows_tree_is stages t (get_or (all.met t) j 0))
  made_trees (suc k) t e j lj =
      let stage = all.each t (omega arith) in
      let subs = trees_alike_in (rows_tree made (suc t)) (rows_tree stages (suc t)) (row_at made t j).next
      (row_at stages t (get_or (all.met t) j 0)).next (stage.nexts j lj)
      (λ o lo. made_trees k (suc t) (omega arith) (get_or (row_at made t j).next o 0) (stage.below j o lj lo)
      ∙ stage.same j o lj lo) in
      rows_tree_is made t j ∙ (λ i. node (stage.action j lj i) (subs i))
      ∙ sym (rows_tree_is stages t (get_or (all.met t) j 0))

  met_apart : (t : ℕ) → t < h → (x y : ℕ) → x < length (all.met t) → y < length (all.met t)
      → rows_tree stages t (get_or (all.met t) x 0) ≡ rows_tree stages t (get_or (all.met t) y 0) → x ≡ y
  met_apart zero lt x y lx ly same = let e = ap length all.first in omega arith
  met_apart (suc t) lt x y lx ly same = (all.each t (omega arith)).apart lt x y lx ly same

  made_reduced : AreReducedRows h made
  made_reduced = record {
    different = λ t r s lt lr ls same.
        let c = counts t lt in
        let k = rest_of t lt in
        let trees : rows_tree made t r ≡ rows_tree made t s = rows_tree_is made t r
        ∙ ap (tree_of_row (rows_tree made (suc t))) same ∙ sym (rows_tree_is made t s) in
        met_apart t lt r s (omega arith) (omega arith)
        (sym (made_trees k.0 t k.1 r (omega arith)) ∙ trees ∙ made_trees k.0 t k.1 s (omega arith));
    in_order = λ t step. (all.each t (omega arith)).in_order;
    reached = λ t step. (all.each t (omega arith)).read ∙ sym (counts (suc t) step);
  }
    where
      rest_of : (t : ℕ) → t < h → (k : ℕ) × (t + suc k ≡ h)
      rest_of t lt = (h - suc t, omega arith)

  pub made_is_form : made ≡ shared_rows n h (unfolded_tree stages 0)
  made_is_form =
      let e = all.first in
      let one : 0 < length (all.met 0) = let count = ap length e in omega arith in
      let root : unfolded_tree made 0 ≡ unfolded_tree stages 0 =
      made_trees (h - 1) 0 (omega arith) 0 one ∙ ap (λ (l : List ℕ). rows_tree stages 0 (get_or l 0 0)) e in
      reduced_agent_is_form b n h made made_rows_are made_reduced ∙ ap (shared_rows n h) root

-- ---- the kinds of the next stage, out of those of all stages

module _ (stages : AgentRows) (h t : ℕ) (lists all : List (List ℕ)) (kinds : List ℕ) (same : lists ≡ all)
    (counted : length all ≡ h) (each : (k : ℕ) → k < h → AreKinds stages (h - suc k) (get_or all k []))
    (is : t + 1 < length lists → kinds ≡ get_or lists (length lists - suc (t + 1)) [])
    (none : length lists ≤ t + 1 → kinds ≡ []) where
  pub next_kinds : suc t < h → AreKinds stages (suc t) kinds
  next_kinds step =
      let count = ap length same in
      let k = h - suc (suc t) in
      let place : length lists - suc (t + 1) ≡ h - suc (suc t) = omega arith in
      let at : kinds ≡ get_or all (h - suc (suc t)) [] = is (omega arith)
      ∙ (λ i. get_or (same i) (place i) []) in
      let back : h - suc (h - suc (suc t)) ≡ suc t = omega arith in
      subst (λ (z : ℕ). AreKinds stages z kinds) back
      (subst (AreKinds stages (h - suc k)) (sym at) (each k (omega arith)))

  pub no_kinds : h ≤ suc t → kinds ≡ []
  no_kinds le = let count = ap length same in none (omega arith)

  pub kinds_few : ((u : ℕ) → row_count stages u ≤ 2 ^ 22) → length kinds ≤ 2 ^ 22
  kinds_few few = elim (cases_lt (suc t) h) [
    | inl step ↦ let c = (next_kinds step).counted in let f = few (suc t) in omega arith
    | inr le ↦ rw (no_kinds le) (omega arith)
  ]

  pub kinds_small : (x : ℕ) → x < length kinds → get_or kinds x 0 < length kinds
  kinds_small x lx = elim (cases_lt (suc t) h) [
    | inl step ↦ let K = next_kinds step in let c = K.counted in let m = K.most x (omega arith) in omega arith
    | inr le ↦ let e = ap length (no_kinds le) in absurd (omega arith)
  ]

  pub kinds_follow : (b n : ℕ) → AreAgentRows b n h stages → t < h → (r o : ℕ) → r < row_count stages t
      → o < length (row_at stages t r).next
      → get_or (row_at stages t r).next o 0 < length kinds
  kinds_follow b n are lt r o lr lo =
      let nexts = cond (nat_lt (suc t) h) n 0 in
      let e : length (row_at stages t r).next ≡ nexts = nexts_counted b n h stages are t lt nexts refl r lr in
      let inside : o < nexts = subst (λ (z : ℕ). o < z) e lo in
      let some : 0 < nexts = above o nexts inside in
      let step = goes_on b n h stages are t lt nexts refl some in
      let c = (next_kinds step).counted in
      let l = nexts_inside b n h stages are t lt nexts refl r o lr inside in
      omega arith
    where
      above : (a b : ℕ) → a < b → 0 < b
      above a b lt = omega arith

-- ---- all agents

pub shared_agents_step : (ns : List ℕ) (p : SharedPolicy) (h i : ℕ) (done whole : SharedPolicy)
    (stages : AgentRows)
    → i < length ns → i < length p
    → done ++ shared_rows_of (drop i ns) h (drop i (unfolded p)) ≡ whole
    → stages ≡ shared_rows (get_or ns i 0) h (unfolded_tree (get_or p i []) 0)
    → (done ++ stages ∷ []) ++ shared_rows_of (drop (suc i) ns) h (drop (suc i) (unfolded p)) ≡ whole
shared_agents_step ns p h i done whole stages ln lp so_far here =
    append_assoc done (stages ∷ []) _
    ∙ ap (λ (s : AgentRows). done ++ s ∷ shared_rows_of (drop (suc i) ns) h (drop (suc i) (unfolded p))) here
    ∙ (λ j. done ++ shared_rows_of (sym (drop-cons ns i 0 ln) j) h (sym (next_tree p i lp) j))
    ∙ so_far
  where
    next_tree : (p : SharedPolicy) (i : ℕ) → i < length p
        → drop i (unfolded p) ≡ unfolded_tree (get_or p i []) 0 ∷ drop (suc i) (unfolded p)
    next_tree [] i lt = absurd (omega arith)
    next_tree (stages ∷ p) zero lt = refl
    next_tree (stages ∷ p) (suc i) lt = next_tree p i (omega arith)

pub shared_end : (ns : List ℕ) (qs : List PolicyTree) (h i : ℕ) (done whole : SharedPolicy) → length ns ≤ i
    → done ++ shared_rows_of (drop i ns) h (drop i qs) ≡ whole → done ≡ whole
shared_end ns qs h i done whole le so_far =
    sym (append_none done) ∙ ap (λ (xs : List ℕ). done ++ shared_rows_of xs h (drop i qs))
    (sym (drop_all ns i le))
    ∙ so_far
  where
    append_none : (p : SharedPolicy) → p ++ [] ≡ p
    append_none [] = refl
    append_none (stages ∷ p) = ap (λ (l : SharedPolicy). stages ∷ l) (append_none p)

pub shared_form_made : (m : Model) (h : ℕ) (qs : List PolicyTree)
    → shared_rows_of m.observations h qs ≡ shared_form m h qs
unfolding shared_form
shared_form_made m h qs = refl

pub shared_form_kept : (m : Model) → IsModel m → (h : ℕ) → h ≤ 24 → (p : SharedPolicy) → IsSharedOf m h p
    → AreKept h (shared_form m h (unfolded p))
shared_form_kept m is h limit p shared =
    kept_rows m is h limit _ (shared_form_is m h p is (some_step m is h p shared) shared).0
