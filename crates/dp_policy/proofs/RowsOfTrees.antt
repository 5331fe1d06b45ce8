-- The rows of a plain form, made stage by stage from the trees that remain.
use Rattle.std.proofs.Common.{◌≡◌, ℕ, zero, suc, ◌+◌, ◌-◌, ◌*◌, ◌/◌, ◌%◌, ◌^◌, ◌<◌, ◌≤◌, List, [], ◌∷◌, ◌++◌, Bor}
use Rattle.std.proofs.Common.{cond, nat_lt, inl, inr, length, get_or, drop, map, refl, sym, ap, ◌∙◌, subst}
use Rattle.std.proofs.Common.{append_assoc, arith}
use Rattle.std.specs.List.{range_with_len}
use Rattle.std.proofs.Math.Nat.{pow-suc}
use Rattle.std.proofs.Math.Seq.{drop-cons}
use Rattle.std.proofs.lemmas.Bool.{cases_lt}
use Rattle.std.proofs.lemmas.Bool.Decides.{nat_tests}
use Rattle.std.proofs.lemmas.List.FromFn.{fill_by_all, map-range_with_len_more}
use Rattle.dp_spec.specs.Keeping.{tree_at}
use Rattle.dp_spec.specs.Mode.{IsWithinLimits}
use Rattle.dp_spec.specs.Model.{IsModel, Model, joint_observations}
use Rattle.dp_spec.specs.PlainForm.{plain_form, plain_row, plain_rows, plain_rows_of}
use Rattle.dp_spec.specs.PolicyTree.{IsPolicyOf, IsPolicyTree, PolicyTree, node, no_trees, subtree, subtrees}
use Rattle.dp_spec.specs.SharedPolicy.{AgentRows, PolicyRow, SharedPolicy, no_row}
use Rattle.dp_spec.proofs.JointNumberLaws.{part_below, size_above}
use Rattle.dp_spec.proofs.ModelLaws.{some_joint_observation}
use Rattle.dp_laws.proofs.Keeping.{tree_at_fits}
use Rattle.dp_laws.proofs.PlainForms.{plain_form_is}
use Rattle.dp_policy.specs.declared.tree.PTree.{PTree}
use Rattle.dp_policy.specs.SharedRows.{AreKept}
use Rattle.dp_policy.specs.TreeRows.{AreRowsOfTrees, AreSubtrees, AreTreesAt, GoOn, tree_row}
use Rattle.dp_policy.specs.Trees.{tree_count, tree_of}
use Rattle.dp_policy.proofs.JoinedRows.{kept_rows, rows_alike}
use Rattle.dp_policy.proofs.JoinedTrees.{observations_counted, trees_alike}
use Rattle.dp_policy.proofs.Lists.{drop_all}
use Rattle.dp_policy.proofs.PlainStages.{plain_of_agent, small_product}

-- ---- after how many observations a stage goes on

pub more_nexts : (n h t : ℕ) → suc t < h → cond (nat_lt (suc t) h) n 0 ≡ n
more_nexts n h t lt = grind (arith, nat_tests)

pub no_nexts : (n h t : ℕ) → h ≤ suc t → cond (nat_lt (suc t) h) n 0 ≡ 0
no_nexts n h t le = grind (arith, nat_tests)

pub few_nexts : (n h t nexts : ℕ) → nexts ≡ cond (nat_lt (suc t) h) n 0 → nexts ≤ n
few_nexts n h t nexts is = elim (cases_lt (suc t) h) [
  | inl lt ↦ let e = more_nexts n h t lt in omega arith
  | inr le ↦ let e = no_nexts n h t le in omega arith
]

-- ---- a stage

module _ (n h : ℕ) (q : PolicyTree) (t : ℕ) (trees : List (Bor PTree)) (at : AreTreesAt n q t trees) where
  pub stage_few : n ≤ 256 → n ^ t ≤ 2 ^ 22 → length trees * n ≤ 2 ^ 30
  stage_few few le = let e = at.counted in small_product (length trees) n (omega arith) few

  pub stage_nexts_few : (k : ℕ) → k ≤ n → n ≤ 256 → n ^ t ≤ 2 ^ 22 → length trees * k ≤ 2 ^ 30
  stage_nexts_few k less few le = let e = at.counted in small_product (length trees) k (omega arith)
      (omega arith)

  module _ (nexts : ℕ) (is : nexts ≡ cond (nat_lt (suc t) h) n 0) where
    pub stage_goes_on : (b : ℕ) → t < h → IsPolicyTree b n h q → GoOn nexts trees
    stage_goes_on b lt fits = record {
      each = λ x lx d. elim (cases_lt (suc t) h) [
        | inl more ↦
            let e = more_nexts n h t more in
            let count = at.counted in
            let inside : x < n ^ t = omega arith in
            let tree = tree_at_fits b n q t (h - t) h x (omega arith) inside fits in
            let counted = observations_counted b n (h - t) (tree_at n q t x) (omega arith) tree in
            let same : nexts ≤ tree_count (subtrees (tree_at n q t x)) = omega arith in
            subst (λ (p : PolicyTree). nexts ≤ tree_count (subtrees p)) (sym (at.each x inside d)) same
        | inr le ↦ let e = no_nexts n h t le in omega arith
      ];
    }

    pub next_trees : suc t < h → (subs : List (Bor PTree)) → AreSubtrees nexts trees subs
        → AreTreesAt n q (suc t) subs
    next_trees more subs after =
        let all : nexts ≡ n = is ∙ more_nexts n h t more in
        let sub : AreSubtrees n trees subs = subst (λ (k : ℕ). AreSubtrees k trees subs) all after in
        let size : n ^ suc t ≡ length trees * n = pow-suc n t ∙ ap (λ (k : ℕ). k * n) (sym at.counted) in
        record {
          counted = sub.counted ∙ sym size;
          each = λ x lt d.
              let inside : x < n ^ t * n = omega (arith, lt, pow-suc n t) in
              sub.each x (omega (arith, lt, size)) d
              ∙ ap (λ (p : PolicyTree). subtree p (x % n)) (at.each (x / n) (part_below (n ^ t) n x inside) d);
        }

    made_rows : (rows : List PolicyRow) → AreRowsOfTrees n nexts trees rows
        → rows ≡ map (plain_row n h q t) (range_with_len 0 (n ^ t))
    made_rows rows made =
        fill_by_all (plain_row n h q t) rows (n ^ t) no_row (made.counted ∙ at.counted)
        (λ k lt.
        let count = at.counted in
        let inside : k < length trees = omega arith in
        let d = there trees k inside in
        made.each k inside d
        ∙ ap (λ (p : PolicyTree). tree_row n nexts p k) (at.each k lt d)
        ∙ ap (λ (z : ℕ). tree_row n z (tree_at n q t k) k) is)
      where
        there : (ts : List (Bor PTree)) (i : ℕ) → i < length ts → Bor PTree
        there [] i lt = absurd (omega arith)
        there (t ∷ ts) zero lt = t
        there (t ∷ ts) (suc i) lt = there ts i (omega arith)

    -- one stage more
    pub plain_rows_step : (done : AgentRows) (rows : List PolicyRow) → AreRowsOfTrees n nexts trees rows
        → done ≡ map (λ t. map (plain_row n h q t) (range_with_len 0 (n ^ t))) (range_with_len 0 t)
        → done ++ rows ∷ [] ≡ map (λ t. map (plain_row n h q t) (range_with_len 0 (n ^ t)))
        (range_with_len 0 (t + 1))
    plain_rows_step done rows made so_far =
        (λ i. so_far i ++ made_rows rows made i ∷ [])
        ∙ sym (map-range_with_len_more (λ t. map (plain_row n h q t) (range_with_len 0 (n ^ t))) 0 t t
        (omega arith))

-- ---- all agents

pub plain_agents_step : (ns : List ℕ) (qs : List PolicyTree) (h i : ℕ) (done whole : SharedPolicy)
    (stages : AgentRows) → i < length ns → i < length qs
    → done ++ plain_rows_of (drop i ns) h (drop i qs) ≡ whole
    → stages ≡ plain_rows (get_or ns i 0) h (tree_of qs i)
    → (done ++ stages ∷ []) ++ plain_rows_of (drop (suc i) ns) h (drop (suc i) qs) ≡ whole
plain_agents_step ns qs h i done whole stages ln lq so_far here =
    let d : PolicyTree = node 0 no_trees in
    append_assoc done (stages ∷ []) _
    ∙ ap (λ (s : AgentRows). done ++ s ∷ plain_rows_of (drop (suc i) ns) h (drop (suc i) qs)) here
    ∙ (λ j. done ++ plain_rows_of (sym (drop-cons ns i 0 ln) j) h (sym (drop-cons qs i d lq) j))
    ∙ so_far

pub plain_end : (ns : List ℕ) (qs : List PolicyTree) (h i : ℕ) (done whole : SharedPolicy) → length ns ≤ i
    → done ++ plain_rows_of (drop i ns) h (drop i qs) ≡ whole → done ≡ whole
plain_end ns qs h i done whole le so_far =
    sym (append_none done) ∙ ap (λ (xs : List ℕ). done ++ plain_rows_of xs h (drop i qs))
    (sym (drop_all ns i le))
    ∙ so_far
  where
    append_none : (p : SharedPolicy) → p ++ [] ≡ p
    append_none [] = refl
    append_none (stages ∷ p) = ap (λ (l : SharedPolicy). stages ∷ l) (append_none p)

pub plain_form_made : (m : Model) (h : ℕ) (qs : List PolicyTree)
    → plain_rows_of m.observations h qs ≡ plain_form m h qs
unfolding plain_form
plain_form_made m h qs = refl

module _ (m : Model) (is : IsModel m) (h : ℕ) (within : IsWithinLimits m h) (qs : List PolicyTree)
    (policy : IsPolicyOf m h qs) where
  -- what is kept of the plain form
  pub plain_form_kept : AreKept h (plain_form m h qs)
  plain_form_kept =
      let few = within.horizon in
      kept_rows m is h (omega arith) (plain_form m h qs)
      (plain_form_is m h qs is within.some_step within.stage_cells policy).0

  -- no stage of an agent has many rows
  pub stage_limit : (i : ℕ) → i < length qs → (t : ℕ) → t < h → get_or m.observations i 0 ^ t ≤ 2 ^ 22
  stage_limit i li t lt =
      let form = plain_form_is m h qs is within.some_step within.stage_cells policy in
      let agents = rows_alike form.0.agents in
      let alike = trees_alike policy in
      let counts = (plain_of_agent form.1 i (omega arith)).counts t lt in
      let most = plain_form_kept.counts i t in
      omega arith

-- an agent has an observation
pub some_observation : (m : Model) → IsModel m → (i : ℕ) → i < length m.observations
    → 0 < get_or m.observations i 0
unfolding joint_observations
some_observation m is i lt = size_above m.observations i (some_joint_observation m is) lt
