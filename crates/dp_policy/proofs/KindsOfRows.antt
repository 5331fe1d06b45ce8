-- Kinds of rows: action by action, and observation by observation.
use Rattle.std.proofs.Common.{◌≡◌, ℕ, suc, ◌+◌, ◌-◌, ◌<◌, ◌≤◌, List, [], ◌∷◌, ◌++◌, cond, nat_lt, inl, inr, length}
use Rattle.std.proofs.Common.{get_or, map, refl, sym, ap, ◌∙◌, subst, arith}
use Rattle.std.specs.Prelude.{◌↔◌}
use Rattle.std.specs.List.{range_with_len}
use Rattle.std.proofs.Math.ListN.{get_or-append}
use Rattle.std.proofs.Math.Seq.{get_or-append_seam}
use Rattle.std.proofs.lemmas.Bool.{cases_lt}
use Rattle.std.proofs.lemmas.List.FromFn.{get_or-map-range_with_len, length-map-range_with_len}
use Rattle.dp_spec.specs.PolicyTree.{PolicyTree, node, more_trees, root_action, subtree}
use Rattle.dp_spec.specs.SharedPolicy.{AgentRows, AreAgentRows, row_at, row_count, trees_of}
use Rattle.dp_laws.proofs.SharedTrees.{row_nexts, next_row_below, last_row_nexts, rows_tree, rows_tree_is}
use Rattle.dp_laws.proofs.SharedTrees.{subtree_of_row}
use Rattle.dp_policy.specs.Kinds.{AreKinds, ArePairNumbers}
use Rattle.dp_policy.proofs.RowsOfTrees.{more_nexts, no_nexts}

-- two rows of stage t have one action, and next rows of equal kinds after the first k observations
pub record AreAlikeUpTo (stages : AgentRows) (t : ℕ) (later : List ℕ) (k r s : ℕ) : Type 0 where
  pub action : (row_at stages t r).action ≡ (row_at stages t s).action
  pub nexts : (o : ℕ) → o < k → get_or later (get_or (row_at stages t r).next o 0) 0 ≡ get_or later
      (get_or (row_at stages t s).next o 0) 0

-- a number for each row of stage t, the same for two rows exactly where they are alike so far, and none above its row
pub record AreKindsUpTo (stages : AgentRows) (t : ℕ) (later : List ℕ) (k : ℕ) (kinds : List ℕ) : Type 0 where
  pub counted : length kinds ≡ row_count stages t
  pub same : (r s : ℕ) → r < row_count stages t → s < row_count stages t → (get_or kinds r 0 ≡ get_or kinds s 0)
      ↔ AreAlikeUpTo stages t later k r s
  pub most : (r : ℕ) → r < row_count stages t → get_or kinds r 0 ≤ r

module _ (stages : AgentRows) (t : ℕ) (later : List ℕ) where
  pub kinds_first : (actions kinds : List ℕ)
      → actions ≡ map (λ r. (row_at stages t r).action) (range_with_len 0 (row_count stages t))
      → ArePairNumbers actions actions kinds
      → AreKindsUpTo stages t later 0 kinds
  kinds_first actions kinds is pairs =
      let f = λ (r : ℕ). (row_at stages t r).action in
      let n = row_count stages t in
      let all : length actions ≡ n = ap length is ∙ length-map-range_with_len f 0 n in
      let at = λ (r : ℕ) (lr : r < n). ap (λ (l : List ℕ). get_or l r 0) is
      ∙ get_or-map-range_with_len f 0 n r r 0 lr (omega arith) in
      record {
        counted = pairs.counted ∙ all;
        most = λ r lr. pairs.most r (omega arith);
        same = λ r s lr ls. (
          λ e. record {
            action = sym (at r lr) ∙ ((pairs.same r s (omega arith) (omega arith)).0 e).0 ∙ at s ls;
            nexts = λ o lo. absurd (omega arith);
          },
          λ alike.
              let e : get_or actions r 0 ≡ get_or actions s 0 = at r lr ∙ alike.action ∙ sym (at s ls) in
              (pairs.same r s (omega arith) (omega arith)).1 (e, e),
        );
      }

  pub kinds_step : (k : ℕ) (kinds following more : List ℕ) → AreKindsUpTo stages t later k kinds
      → following ≡ map (λ r. get_or later (get_or (row_at stages t r).next k 0) 0)
      (range_with_len 0 (row_count stages t))
      → ArePairNumbers kinds following more → AreKindsUpTo stages t later (suc k) more
  kinds_step k kinds following more so_far is pairs =
      let f = λ (r : ℕ). get_or later (get_or (row_at stages t r).next k 0) 0 in
      let n = row_count stages t in
      let all = so_far.counted in
      let at = λ (r : ℕ) (lr : r < n). ap (λ (l : List ℕ). get_or l r 0) is
      ∙ get_or-map-range_with_len f 0 n r r 0 lr (omega arith) in
      record {
        counted = pairs.counted ∙ all;
        most = λ r lr. pairs.most r (omega arith);
        same = λ r s lr ls. (
          λ e.
              let both = (pairs.same r s (omega arith) (omega arith)).0 e in
              let alike = (so_far.same r s lr ls).0 both.0 in
              record {
                action = alike.action;
                nexts = λ o lo. elim (cases_lt o k) [
                  | inl early ↦ alike.nexts o early
                  | inr late ↦
                      let here : k ≡ o = omega arith in
                      subst (λ (z : ℕ). get_or later (get_or (row_at stages t r).next z 0) 0 ≡ get_or later
                      (get_or (row_at stages t s).next z 0) 0) here
                      (sym (at r lr) ∙ both.1 ∙ at s ls)
                ];
              },
          λ alike.
              (pairs.same r s (omega arith) (omega arith)).1 (
                (so_far.same r s lr ls).1 (record
                    { action = alike.action; nexts = λ o lo. alike.nexts o (omega arith) }),
                at r lr ∙ alike.nexts k (omega arith) ∙ sym (at s ls),
              ),
        );
      }

-- trees of numbers are equal where those of each place are
pub trees_alike_of : (g : ℕ → PolicyTree) (xs ys : List ℕ) → length xs ≡ length ys
    → ((o : ℕ) → o < length xs → g (get_or xs o 0) ≡ g (get_or ys o 0)) → trees_of g xs ≡ trees_of g ys
trees_alike_of g [] [] e each = refl
trees_alike_of g [] (y ∷ ys) e each = absurd (omega arith)
trees_alike_of g (x ∷ xs) [] e each = absurd (omega arith)
trees_alike_of g (x ∷ xs) (y ∷ ys) e each =
    let here = each 0 (omega arith) in
    let rest = trees_alike_of g xs ys (omega arith) (λ o lt. each (suc o) (omega arith)) in
    (λ i. more_trees (here i) (rest i))

-- rows with equal actions and trees that are equal after each observation have equal trees
pub rows_trees_alike : (stages : AgentRows) (t r s : ℕ) → (row_at stages t r).action
    ≡ (row_at stages t s).action
    → length (row_at stages t r).next ≡ length (row_at stages t s).next
    → ((o : ℕ) → o < length (row_at stages t r).next
    → rows_tree stages (suc t) (get_or (row_at stages t r).next o 0) ≡ rows_tree stages (suc t)
    (get_or (row_at stages t s).next o 0))
    → rows_tree stages t r ≡ rows_tree stages t s
rows_trees_alike stages t r s act len each =
    let subs = trees_alike_of (rows_tree stages (suc t)) (row_at stages t r).next
    (row_at stages t s).next len each in
    rows_tree_is stages t r ∙ (λ i. node (act i) (subs i)) ∙ sym (rows_tree_is stages t s)

module _ (b n h : ℕ) (stages : AgentRows) (are : AreAgentRows b n h stages) (t : ℕ) (lt : t < h) (nexts : ℕ)
    (each : (r : ℕ) → r < row_count stages t → length (row_at stages t r).next ≡ nexts) where
  -- with all observations passed
  pub kinds_end : (later kinds : List ℕ) (k : ℕ) → k ≡ nexts → (0 < nexts → suc t < h)
      → (suc t < h → AreKinds stages (suc t) later)
      → AreKindsUpTo stages t later k kinds → AreKinds stages t kinds
  kinds_end later kinds k all more next so_far = record {
    counted = so_far.counted;
    most = so_far.most;
    same = λ r s lr ls. (
      λ e.
          let alike = (so_far.same r s lr ls).0 e in
          let er = each r lr in
          let es = each s ls in
          rows_trees_alike stages t r s alike.action (er ∙ sym es)
          (λ o lo.
          let step = more (omega arith) in
          let kinds = next step in
          ((kinds.same _ _ (inside step r o lr (omega arith)) (inside step s o ls (omega arith))).0
          (alike.nexts o (omega arith)))),
      λ same.
          let er = each r lr in
          let es = each s ls in
          (so_far.same r s lr ls).1 (record {
            action = ap root_action (sym (rows_tree_is stages t r) ∙ same ∙ rows_tree_is stages t s);
            nexts = λ o lo.
                let step = more (omega arith) in
                (((next step).same _ _ (inside step r o lr (omega arith)) (inside step s o ls (omega arith))).1
                (sym (subtree_of_row stages t r o (omega arith)) ∙ ap (λ (q : PolicyTree). subtree q o) same
                ∙ subtree_of_row stages t s o (omega arith)));
          }),
    );
  }
    where
      inside : suc t < h → (r o : ℕ) → r < row_count stages t → o < nexts
          → get_or (row_at stages t r).next o 0 < row_count stages (suc t)
      inside step r o lr lo =
          let size = are.of_horizon in
          let alike = row_nexts b n stages are.rows t r (omega arith) lr in
          let e = each r lr in
          next_row_below b n stages are.rows t r o (omega arith) lr (omega arith)

-- how many next rows each row of a stage has
module _ (b n h : ℕ) (stages : AgentRows) (are : AreAgentRows b n h stages) (t : ℕ) (lt : t < h) (nexts : ℕ)
    (is : nexts ≡ cond (nat_lt (suc t) h) n 0) where
  pub nexts_counted : (r : ℕ) → r < row_count stages t → length (row_at stages t r).next ≡ nexts
  nexts_counted r lr =
      let size = are.of_horizon in
      elim (cases_lt (suc t) h) [
        | inl more ↦ row_nexts b n stages are.rows t r (omega arith) lr ∙ sym (is ∙ more_nexts n h t more)
        | inr le ↦ ap length (last_row_nexts b n stages are.rows t r (omega arith) lr)
            ∙ sym (is ∙ no_nexts n h t le)
      ]

  pub goes_on : 0 < nexts → suc t < h
  goes_on some = elim (cases_lt (suc t) h) [
    | inl more ↦ more
    | inr le ↦ let e = no_nexts n h t le in absurd (omega arith)
  ]

  pub nexts_inside : (r o : ℕ) → r < row_count stages t → o < nexts
      → get_or (row_at stages t r).next o 0 < row_count stages (suc t)
  nexts_inside r o lr lo =
      let step = goes_on (omega arith) in
      let size = are.of_horizon in
      let all = more_nexts n h t step in
      next_row_below b n stages are.rows t r o (omega arith) lr (omega arith)

-- the kinds of one stage more
pub kinds_push : (stages : AgentRows) (h n t : ℕ) (lists : List (List ℕ)) (kinds : List ℕ) → length lists ≡ n
    → ((k : ℕ) → k < n → AreKinds stages (h - suc k) (get_or lists k [])) → t ≡ h - suc n
    → AreKinds stages t kinds
    → (k : ℕ) → k < n + 1 → AreKinds stages (h - suc k) (get_or (lists ++ kinds ∷ []) k [])
kinds_push stages h n t lists kinds e before is here k lt = elim (cases_lt k n) [
  | inl early ↦ subst (AreKinds stages (h - suc k)) (sym (get_or-append lists (kinds ∷ []) [] k (omega arith)))
      (before k early)
  | inr late ↦
      let same : n ≡ k = omega arith in
      subst (λ (z : ℕ). AreKinds stages (h - suc z) (get_or (lists ++ kinds ∷ []) z [])) same
      (subst (AreKinds stages (h - suc n))
      (sym (ap (λ (z : ℕ). get_or (lists ++ kinds ∷ []) z []) (sym e) ∙ get_or-append_seam lists kinds [] []))
      (subst (λ (z : ℕ). AreKinds stages z kinds) is here))
]
