-- Plain forms: each joint policy has one, and a plain shared policy is that of what its rows mean.
use Rattle.std.proofs.Common.{◌≡◌, inl, inr, ℕ, zero, suc, ◌+◌, ◌-◌, ◌*◌, ◌/◌, ◌%◌, ◌^◌, ◌<◌, ◌≤◌, true, false, List}
use Rattle.std.proofs.Common.{[], ◌∷◌, length, get_or, map, refl, sym, ap, ◌∙◌, subst, arith}
use Rattle.std.specs.Prelude.{nat_lt}
use Rattle.std.specs.List.{range_with_len}
use Rattle.std.proofs.lemmas.Bool.{cases_lt}
use Rattle.std.proofs.lemmas.Bool.Decides.{nat_tests}
use Rattle.std.proofs.lemmas.List.FromFn.{fill_by_all, get_or-map-range_with_len, length-map-range_with_len}
use Rattle.std.proofs.lemmas.Nat.{mod_below, mul-pow}
use Rattle.std.proofs.Math.Nat.{mul-le-mul_left, one-le-pow, pow-le-pow_right, pow-suc, pow-zero}
use Rattle.dp_laws.proofs.OwnHistories.{next_history_below}
use Rattle.dp_laws.proofs.SharedTrees.{row_nexts, last_row_nexts, rows_tree, rows_tree_is, subtree_of_row}
use Rattle.dp_laws.proofs.SharedTrees.{row_tree_fits}
use Rattle.dp_laws.proofs.TreeActions.{action_below, equal_by_actions}
use Rattle.dp_spec.specs.JointNumbers.{product}
use Rattle.dp_spec.specs.Keeping.{tree_at}
use Rattle.dp_spec.specs.Model.{IsModel, Model, joint_observations}
use Rattle.dp_spec.specs.PlainForm.{ArePlain, ArePlainRows, IsPlain, observations_after, plain_form, plain_row}
use Rattle.dp_spec.specs.PlainForm.{plain_rows, plain_rows_of}
use Rattle.dp_spec.specs.PlainForm.ArePlain.{and_agent as and_plain, no_agents as none_plain}
use Rattle.dp_spec.specs.PolicyTree.{IsJointPolicy, IsPolicyOf, IsPolicyTree, PolicyTree, root_action, subtree}
use Rattle.dp_spec.specs.PolicyTree.IsJointPolicy.{and_agent as and_policy, no_agents as no_policies}
use Rattle.dp_spec.specs.SharedPolicy.{AgentRows, AreAgentRows, AreRowsOfAgents, AreStages, IsSharedOf, PolicyRow}
use Rattle.dp_spec.specs.SharedPolicy.{SharedPolicy, first_count, no_row, row_at, row_count, row_counts, unfolded}
use Rattle.dp_spec.specs.SharedPolicy.{unfolded_tree}
use Rattle.dp_spec.specs.SharedPolicy.AreRowsOfAgents.{and_agent, no_agents}
use Rattle.dp_spec.proofs.JointNumberLaws.{part_below, positive_left, positive_right}
use Rattle.dp_spec.proofs.ModelLaws.{some_joint_observation}

-- ---- the observations after a stage

-- before the last stage they are all ..
pub all_observations : (n h t : ℕ) → suc t < h → observations_after n h t ≡ range_with_len 0 n
all_observations n h t lt = let yes : nat_lt (suc t) h ≡ true = grind (arith, nat_tests) in rw yes refl

-- .. and at it there are none
pub no_observations : (n h t : ℕ) → suc t ≡ h → observations_after n h t ≡ []
no_observations n h t e = let none : nat_lt (suc t) h ≡ false = grind (arith, nat_tests) in rw none refl

-- rows are equal where their parts are
pub same_row : (row other : PolicyRow) → row.action ≡ other.action → row.next ≡ other.next → row ≡ other
same_row row other e f = λ i. record { action = e i; next = f i }

-- ---- a plain policy is the plain form of what its rows mean

-- of a power of 0 observations
at_start : (n x : ℕ) → x < n ^ 0 → x ≡ 0
at_start n x h = omega (arith, pow-zero n)

module _ (b n h : ℕ) (stages : AgentRows) (are : AreAgentRows b n h stages) (plain : ArePlainRows n h stages)
  where
    -- row x of stage t is that of own history x
    plain_tree_at : (t x : ℕ) → t < h → x < n ^ t → tree_at n (unfolded_tree stages 0) t x ≡ rows_tree stages t x
    plain_tree_at zero x lt below = ap (unfolded_tree stages) (sym (at_start n x below))
    plain_tree_at (suc t) x lt below =
        let inside = are.of_horizon in
        let below' : x < n ^ t * n = rw pow-suc at below in
        let row : x / n < n ^ t = part_below (n ^ t) n x below' in
        let seen : x % n < n = mod_below x n (positive_right (n ^ t) n x below') in
        let place : x / n * n + x % n ≡ x = omega arith in
        let count = plain.counts t (omega arith) in
        let nexts = row_nexts b n stages are.rows t (x / n) (omega arith) (omega arith) in
        ap (λ (q : PolicyTree). subtree q (x % n)) (plain_tree_at t (x / n) (omega arith) row)
        ∙ subtree_of_row stages t (x / n) (x % n) (omega arith)
        ∙ ap (rows_tree stages (suc t)) (plain.nexts t (x / n) (x % n) lt row seen ∙ place)

    -- its next rows are those of the plain form
    plain_nexts_are : (t c : ℕ) → t < h → c < n ^ t → (row_at stages t c).next
        ≡ map (λ o. c * n + o) (observations_after n h t)
    plain_nexts_are t c lt below =
        let inside = are.of_horizon in
        let count = plain.counts t lt in
        elim (cases_lt (suc t) h) [
          | inl step ↦
              fill_by_all (λ o. c * n + o) (row_at stages t c).next n 0
              (row_nexts b n stages are.rows t c (omega arith) (omega arith))
              (λ o seen. plain.nexts t c o step below seen)
              ∙ ap (map (λ o. c * n + o)) (sym (all_observations n h t step))
          | inr le ↦
              last_row_nexts b n stages are.rows t c (omega arith) (omega arith)
              ∙ ap (map (λ o. c * n + o)) (sym (no_observations n h t (omega arith)))
        ]

    -- so are the rows
    plain_agent_is_form : stages ≡ plain_rows n h (unfolded_tree stages 0)
    plain_agent_is_form =
        fill_by_all (λ t. map (plain_row n h (unfolded_tree stages 0) t) (range_with_len 0 (n ^ t)))
        stages h [] are.of_horizon (λ t lt.
        fill_by_all (plain_row n h (unfolded_tree stages 0) t) (get_or stages t []) (n ^ t) no_row
        (plain.counts t lt) (λ c below.
        same_row _ _ (sym (ap root_action (rows_tree_is stages t c))
        ∙ ap root_action (sym (plain_tree_at t c lt below))) (plain_nexts_are t c lt below)))

-- for all agents
plain_agents_are_forms : {h : ℕ} {bs ns : List ℕ} {p : SharedPolicy} → AreRowsOfAgents h bs ns p
    → ArePlain h ns p
    → p ≡ plain_rows_of ns h (unfolded p)
plain_agents_are_forms no_agents none_plain = refl
plain_agents_are_forms {h} (and_agent {b = b} {n = n} {stages = stages} {p = p} are ares)
    (and_plain plain rest) =
    let first = plain_agent_is_form b n h stages are plain in
    let others = plain_agents_are_forms ares rest in
    ap (λ (s : AgentRows). s ∷ p) first ∙ ap (λ (others : SharedPolicy). plain_rows n h
    (unfolded_tree stages 0) ∷ others) others

-- a plain shared policy is the plain form of what its rows mean
pub plain_is_form : (m : Model) (h : ℕ) (p : SharedPolicy) → IsSharedOf m h p → IsPlain m h p
    → p ≡ plain_form m h (unfolded p)
unfolding plain_form
plain_is_form m h p shared plain = plain_agents_are_forms shared.agents plain

-- ---- rows by their places

-- stages whose rows are rows
pub stages_from : (b n : ℕ) (stages : AgentRows) → ((t : ℕ) → t < length stages → 0 < row_count stages t)
    → ((t r : ℕ) → t < length stages → r < row_count stages t → (row_at stages t r).action < b)
    → ((t r : ℕ) → suc t < length stages → r < row_count stages t → length (row_at stages t r).next ≡ n)
    → ((t r o : ℕ) → suc t < length stages → r < row_count stages t → o < n
    → get_or (row_at stages t r).next o 0 < row_count stages (suc t))
    → ((t r : ℕ) → suc t ≡ length stages → r < row_count stages t → length (row_at stages t r).next ≡ 0)
    → AreStages b n stages
stages_from b n [] some acts alike below last = tt
stages_from b n (rows ∷ []) some acts alike below last = (
  some 0 (omega arith),
  λ r lt. record {
    action = acts 0 r (omega arith) lt;
    one_each = last 0 r (omega arith) lt;
    below = λ o seen. absurd (omega arith);
  },
  tt,
)
stages_from b n (rows ∷ (later ∷ stages)) some acts alike below last = (
  some 0 (omega arith),
  λ r lt. record {
    action = acts 0 r (omega arith) lt;
    one_each = alike 0 r (omega arith) lt;
    below = λ o seen. below 0 r o (omega arith) lt seen;
  },
  stages_from b n (later ∷ stages) (λ t lt. some (suc t) (omega arith))
      (λ t r lt under. acts (suc t) r (omega arith) under)
      (λ t r lt under. alike (suc t) r (omega arith) under)
      (λ t r o lt under seen. below (suc t) r o (omega arith) under seen)
      (λ t r e under. last (suc t) r (omega arith) under),
)

-- the first stage, by its place
pub first_by_place : (stages : AgentRows) (k : ℕ) → row_count stages 0 ≡ k → first_count stages ≡ k
first_by_place [] k e = e
first_by_place (rows ∷ stages) k e = e

-- ---- the plain form of a tree

module _ (b n h : ℕ) (q : PolicyTree) where
  -- it has a row for each own history ..
  plain_counts : (t : ℕ) → t < h → row_count (plain_rows n h q) t ≡ n ^ t
  plain_counts t lt =
      ap (λ (rows : List PolicyRow). length rows) (get_or-map-range_with_len
      (λ t. map (plain_row n h q t) (range_with_len 0 (n ^ t))) 0 h t t [] lt (omega arith))
      ∙ length-map-range_with_len (plain_row n h q t) 0 (n ^ t)

  -- .. which is this one
  plain_row_at : (t c : ℕ) → t < h → c < n ^ t → row_at (plain_rows n h q) t c ≡ plain_row n h q t c
  plain_row_at t c lt below =
      ap (λ (rows : List PolicyRow). get_or rows c no_row) (get_or-map-range_with_len
      (λ t. map (plain_row n h q t) (range_with_len 0 (n ^ t))) 0 h t t [] lt (omega arith))
      ∙ get_or-map-range_with_len (plain_row n h q t) 0 (n ^ t) c c no_row below (omega arith)

  -- its next rows
  plain_next_list : (t c : ℕ) → suc t < h → c < n ^ t → (row_at (plain_rows n h q) t c).next
      ≡ map (λ o. c * n + o) (range_with_len 0 n)
  plain_next_list t c step below =
      ap (λ (row : PolicyRow). row.next) (plain_row_at t c (omega arith) below)
      ∙ ap (map (λ o. c * n + o)) (all_observations n h t step)

  plain_next_at : (t c o : ℕ) → suc t < h → c < n ^ t → o < n
      → get_or (row_at (plain_rows n h q) t c).next o 0 ≡ c * n + o
  plain_next_at t c o step below seen =
      ap (λ (xs : List ℕ). get_or xs o 0) (plain_next_list t c step below)
      ∙ get_or-map-range_with_len (λ o. c * n + o) 0 n o o 0 seen (omega arith)

  -- at the last stage there are none
  plain_last : (t c : ℕ) → suc t ≡ h → c < n ^ t → length (row_at (plain_rows n h q) t c).next ≡ 0
  plain_last t c e below =
      ap (λ (row : PolicyRow). length row.next) (plain_row_at t c (omega arith) below)
      ∙ ap (λ (os : List ℕ). length (map (λ o. c * n + o) os)) (no_observations n h t e)

  -- it has one for each stage
  plain_length : length (plain_rows n h q) ≡ h
  plain_length = length-map-range_with_len (λ t. map (plain_row n h q t) (range_with_len 0 (n ^ t))) 0 h

  -- so its rows are plain
  plain_rows_plain : ArePlainRows n h (plain_rows n h q)
  plain_rows_plain = record { counts = plain_counts; nexts = plain_next_at }

  -- and rows of an agent
  plain_rows_are : 0 < h → 0 < n → IsPolicyTree b n h q → AreAgentRows b n h (plain_rows n h q)
  plain_rows_are some seen tree =
      let all = plain_length in
      record {
        of_horizon = all;
        one_first = first_by_place _ 1 (plain_counts 0 some ∙ pow-zero n);
        rows = stages_from b n (plain_rows n h q)
            (λ t lt. let count = plain_counts t (omega arith) in omega (arith, count, one-le-pow t n seen))
            (λ t r lt below. let count = plain_counts t (omega arith) in
            subst (λ (row : PolicyRow). row.action < b) (sym (plain_row_at t r (omega arith) (omega arith)))
            (action_below b n h q tree t r (omega arith) (omega arith)))
            (λ t r lt below. let count = plain_counts t (omega arith) in
            ap (λ (xs : List ℕ). length xs) (plain_next_list t r (omega arith) (omega arith))
            ∙ length-map-range_with_len (λ o. r * n + o) 0 n)
            (λ t r o lt below here.
            let count = plain_counts t (omega arith) in
            let later = plain_counts (suc t) (omega arith) in
            let next = plain_next_at t r o (omega arith) (omega arith) here in
            let within = next_history_below r n t o (omega arith) here in omega arith)
            (λ t r e below. let count = plain_counts t (omega arith) in
            plain_last t r (omega arith) (omega arith));
      }

  -- they mean the tree
  plain_rows_mean : 0 < h → 0 < n → IsPolicyTree b n h q → unfolded_tree (plain_rows n h q) 0 ≡ q
  plain_rows_mean some seen tree =
      let are = plain_rows_are some seen tree in
      let count = plain_counts 0 some in
      let all = plain_length in
      equal_by_actions b n h (unfolded_tree (plain_rows n h q) 0) q some
      (row_tree_fits b n (plain_rows n h q) are.rows h 0 0 (omega arith) (omega (arith, count, pow-zero n)))
      tree
      (λ t x lt below. ap root_action (plain_tree_at b n h (plain_rows n h q) are plain_rows_plain t x lt below
      ∙ rows_tree_is (plain_rows n h q) t x)
      ∙ ap (λ (row : PolicyRow). row.action) (plain_row_at t x lt below))

-- ---- the plain form of a joint policy

-- the rows of all agents
plain_form_rows : {h : ℕ} {bs ns : List ℕ} {qs : List PolicyTree} → 0 < h → 0 < product ns
    → IsJointPolicy h bs ns qs
    → AreRowsOfAgents h bs ns (plain_rows_of ns h qs)
plain_form_rows some seen no_policies = no_agents
plain_form_rows {h} some seen (and_policy {b = b} {n = n} {ns = ns} {q = q} tree trees) =
    and_agent (plain_rows_are b n h q some (positive_left n (product ns) 0 seen) tree)
    (plain_form_rows some (positive_right n (product ns) 0 seen) trees)

-- are plain
plain_form_plain : {h : ℕ} {bs ns : List ℕ} {qs : List PolicyTree} → IsJointPolicy h bs ns qs
    → ArePlain h ns (plain_rows_of ns h qs)
plain_form_plain no_policies = none_plain
plain_form_plain {h} (and_policy {b = b} {n = n} {q = q} tree trees) = and_plain (plain_rows_plain b n h q)
    (plain_form_plain trees)

-- mean the policy
plain_form_means : {h : ℕ} {bs ns : List ℕ} {qs : List PolicyTree} → 0 < h → 0 < product ns
    → IsJointPolicy h bs ns qs
    → unfolded (plain_rows_of ns h qs) ≡ qs
plain_form_means some seen no_policies = refl
plain_form_means {h} some seen (and_policy {b = b} {n = n} {ns = ns} {q = q} tree trees) =
    rw (
      plain_rows_mean b n h q some (positive_left n (product ns) 0 seen) tree,
      plain_form_means some (positive_right n (product ns) 0 seen) trees,
    )

-- and are as many as own histories, so that their joint rows are as many as joint histories
pub plain_joint_rows : {h : ℕ} {ns : List ℕ} {p : SharedPolicy} → ArePlain h ns p → (t : ℕ) → t < h
    → product (row_counts p t) ≡ product ns ^ t
plain_joint_rows none_plain t lt = one_power t
  where
    one_power : (t : ℕ) → 1 ≡ 1 ^ t
    one_power zero = sym (pow-zero 1)
    one_power (suc t) = one_power t ∙ rw (pow-suc 1 t) (omega arith)
plain_joint_rows (and_plain {n = n} {ns = ns} plain rest) t lt =
    rw (mul-pow n (product ns) t, plain.counts t lt, plain_joint_rows rest t lt) refl

-- the plain form of a joint policy within the limit of stage cells is a shared policy, plain, and means the policy
pub plain_form_is : (m : Model) (h : ℕ) (qs : List PolicyTree) → IsModel m → 0 < h
    → m.states * joint_observations m ^ (h - 1) ≤ 2 ^ 22 → IsPolicyOf m h qs
    → IsSharedOf m h (plain_form m h qs) × IsPlain m h (plain_form m h qs) × (unfolded (plain_form m h qs) ≡ qs)
unfolding plain_form joint_observations
plain_form_is m h qs model some limit policy =
    let O = product m.observations in
    let seen : 0 < O = some_joint_observation m model in
    let plain = plain_form_plain policy in (
      record {
        agents = plain_form_rows some seen policy;
        cells = λ t lt.
            let count = plain_joint_rows plain t lt in
            let fewer : O ^ t ≤ O ^ (h - 1) = pow-le-pow_right seen (omega arith) in
            let cells : m.states * O ^ t ≤ m.states * O ^ (h - 1) = mul-le-mul_left m.states fewer in
            subst (λ (k : ℕ). m.states * k ≤ 2 ^ 22) (sym count) (omega arith);
      },
      plain,
      plain_form_means some seen policy,
    )
