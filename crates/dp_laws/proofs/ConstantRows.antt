-- The rows of a constant joint policy are its shared form.
use Rattle.std.proofs.Common.{◌≡◌, ℕ, zero, suc, ◌+◌, ◌-◌, ◌<◌, List, [], ◌∷◌, length, get_or, map, refl, sym, ap}
use Rattle.std.proofs.Common.{◌∙◌, subst, arith}
use Rattle.std.specs.Prelude.{max}
use Rattle.std.specs.List.{range_with_len}
use Rattle.std.proofs.lemmas.List.FromFn.{get_or-map-range_with_len, length-map-range_with_len}
use Rattle.dp_laws.proofs.PlainForms.{all_observations, first_by_place, no_observations, stages_from}
use Rattle.dp_laws.proofs.ReducedRows.{append_none, reduced_is_form}
use Rattle.dp_laws.proofs.SharedTrees.{rows_tree, rows_tree_is}
use Rattle.dp_spec.specs.ConstantPolicy.{constant_policy, constant_tree, constant_trees, repeated_tree}
use Rattle.dp_spec.specs.ConstantRows.{constant_agent_rows, constant_row, constant_rows, constant_rows_of}
use Rattle.dp_spec.specs.JointNumbers.{parts_of, product}
use Rattle.dp_spec.specs.Model.{IsModel, Model, joint_actions, joint_observations}
use Rattle.dp_spec.specs.PlainForm.{observations_after}
use Rattle.dp_spec.specs.PolicyTree.{PolicyTree, node}
use Rattle.dp_spec.specs.SharedForm.{AreInOrder, AreReduced, AreReducedRows, IsSharedForm, all_nexts, read_after}
use Rattle.dp_spec.specs.SharedPolicy.{AreAgentRows, AreRowsOfAgents, IsSharedOf, PolicyRow, no_row, row_at}
use Rattle.dp_spec.specs.SharedPolicy.{row_count, row_counts, tree_of_row, trees_of, unfolded, unfolded_tree}
use Rattle.dp_spec.specs.SharedPolicy.AreRowsOfAgents.{and_agent, no_agents}
use Rattle.dp_spec.proofs.JointNumberLaws.{AreBelow, parts_below, positive_left, positive_right}
use Rattle.dp_spec.proofs.ModelLaws.{some_joint_observation}

-- ---- zeros

-- they are in order, and one number is read
zeros_in_order : (c a k : ℕ) → AreInOrder c (map (λ o. 0) (range_with_len a k))
zeros_in_order c a zero = tt
zeros_in_order c a (suc k) = (omega arith, zeros_in_order (max c 1) (a + 1) k)

zeros_read_one : (a k : ℕ) → read_after 1 (map (λ o. 0) (range_with_len a k)) ≡ 1
zeros_read_one a zero = refl
zeros_read_one a (suc k) = zeros_read_one (a + 1) k

zeros_read : (a k : ℕ) → 0 < k → read_after 0 (map (λ o. 0) (range_with_len a k)) ≡ 1
zeros_read a zero some = absurd (omega arith)
zeros_read a (suc k) some = zeros_read_one (a + 1) k

-- trees of zeros are one tree again and again
trees_of_zeros : (g : ℕ → PolicyTree) (a k : ℕ) → trees_of g (map (λ o. 0) (range_with_len a k))
    ≡ repeated_tree k (g 0)
trees_of_zeros g a zero = refl
trees_of_zeros g a (suc k) = rw (trees_of_zeros g (a + 1) k) refl

-- ---- one agent

module _ (b n h a : ℕ) (some : 0 < h) (seen : 0 < n) (small : a < b) where
  constant_stage : (t : ℕ) → t < h → get_or (constant_agent_rows n h a) t [] ≡ constant_row n h a t ∷ []
  constant_stage t lt = get_or-map-range_with_len (λ t. constant_row n h a t ∷ []) 0 h t t [] lt (omega arith)

  constant_count : (t : ℕ) → t < h → row_count (constant_agent_rows n h a) t ≡ 1
  constant_count t lt = ap (λ (rows : List PolicyRow). length rows) (constant_stage t lt)

  constant_row_at : (t r : ℕ) → t < h → r < 1 → row_at (constant_agent_rows n h a) t r ≡ constant_row n h a t
  constant_row_at t r lt below =
      let first : r ≡ 0 = omega arith in
      ap (λ (x : ℕ). row_at (constant_agent_rows n h a) t x) first
      ∙ ap (λ (rows : List PolicyRow). get_or rows 0 no_row) (constant_stage t lt)

  constant_nexts : (t r : ℕ) → suc t < h → r < 1 → (row_at (constant_agent_rows n h a) t r).next
      ≡ map (λ o. 0) (range_with_len 0 n)
  constant_nexts t r step below = ap (λ (row : PolicyRow). row.next) (constant_row_at t r (omega arith) below)
      ∙ ap (map (λ o. 0)) (all_observations n h t step)

  constant_last : (t r : ℕ) → suc t ≡ h → r < 1 → (row_at (constant_agent_rows n h a) t r).next ≡ []
  constant_last t r e below = ap (λ (row : PolicyRow). row.next) (constant_row_at t r (omega arith) below)
      ∙ ap (map (λ o. 0)) (no_observations n h t e)

  constant_length : length (constant_agent_rows n h a) ≡ h
  constant_length = length-map-range_with_len (λ t. constant_row n h a t ∷ []) 0 h

  -- they are rows of an agent
  constant_rows_are : AreAgentRows b n h (constant_agent_rows n h a)
  constant_rows_are =
      let all = constant_length in
      record {
        of_horizon = all;
        one_first = first_by_place _ 1 (constant_count 0 some);
        rows = stages_from b n (constant_agent_rows n h a)
            (λ t lt. let count = constant_count t (omega arith) in omega arith)
            (λ t r lt below. let count = constant_count t (omega arith) in
            subst (λ (row : PolicyRow). row.action < b) (sym (constant_row_at t r (omega arith) (omega arith)))
            small)
            (λ t r lt below. let count = constant_count t (omega arith) in
            ap (λ (xs : List ℕ). length xs) (constant_nexts t r (omega arith) (omega arith))
            ∙ length-map-range_with_len (λ o. 0) 0 n)
            (λ t r o lt below inside.
            let count = constant_count t (omega arith) in
            let later = constant_count (suc t) (omega arith) in
            let zero_next = ap (λ (xs : List ℕ). get_or xs o 0) (constant_nexts t r (omega arith) (omega arith))
            ∙ get_or-map-range_with_len (λ o. 0) 0 n o o 0 inside (omega arith) in omega arith)
            (λ t r e below. let count = constant_count t (omega arith) in
            ap (λ (xs : List ℕ). length xs) (constant_last t r (omega arith) (omega arith)));
      }

  -- that differ and are reached in order
  constant_all_nexts : (t : ℕ) → suc t < h → all_nexts (get_or (constant_agent_rows n h a) t [])
      ≡ map (λ o. 0) (range_with_len 0 n)
  constant_all_nexts t step =
      ap all_nexts (constant_stage t (omega arith)) ∙ append_none (map (λ o. 0) (observations_after n h t))
      ∙ ap (map (λ o. 0)) (all_observations n h t step)

  constant_reduced : AreReducedRows h (constant_agent_rows n h a)
  constant_reduced = record {
    different = λ t r s lt hr hs same. let count = constant_count t lt in omega arith;
    in_order = λ t step. subst (AreInOrder 0) (sym (constant_all_nexts t step)) (zeros_in_order 0 0 n);
    reached = λ t step. ap (read_after 0) (constant_all_nexts t step) ∙ zeros_read 0 n seen
        ∙ sym (constant_count (suc t) step);
  }

  -- and mean the constant tree
  constant_rows_mean : (r t : ℕ) → t + suc r ≡ h → rows_tree (constant_agent_rows n h a) t 0
      ≡ constant_tree n (suc r) a
  constant_rows_mean zero t e =
      rows_tree_is (constant_agent_rows n h a) t 0
      ∙ ap (tree_of_row (rows_tree (constant_agent_rows n h a) (suc t)))
      (constant_row_at t 0 (omega arith) (omega arith))
      ∙ ap (λ (os : List ℕ). node a (trees_of (rows_tree (constant_agent_rows n h a) (suc t))
      (map (λ o. 0) os)))
      (no_observations n h t (omega arith))
  constant_rows_mean (suc r) t e =
      rows_tree_is (constant_agent_rows n h a) t 0
      ∙ ap (tree_of_row (rows_tree (constant_agent_rows n h a) (suc t)))
      (constant_row_at t 0 (omega arith) (omega arith))
      ∙ ap (λ (os : List ℕ). node a (trees_of (rows_tree (constant_agent_rows n h a) (suc t))
      (map (λ o. 0) os)))
      (all_observations n h t (omega arith))
      ∙ ap (λ ks. node a ks) (trees_of_zeros (rows_tree (constant_agent_rows n h a) (suc t)) 0 n)
      ∙ ap (λ (q : PolicyTree). node a (repeated_tree n q)) (constant_rows_mean r (suc t) (omega arith))

  constant_rows_unfold : unfolded_tree (constant_agent_rows n h a) 0 ≡ constant_tree n h a
  constant_rows_unfold =
      let e : suc (h - 1) ≡ h = omega arith in
      constant_rows_mean (h - 1) 0 (omega arith) ∙ ap (λ (r : ℕ). constant_tree n r a) e

-- ---- all agents

all_constant_rows : (h : ℕ) (bs ns as' : List ℕ) → 0 < h → length ns ≡ length bs → 0 < product ns
    → AreBelow bs as'
    → AreRowsOfAgents h bs ns (constant_rows_of ns h as')
all_constant_rows h [] [] [] some e seen below = no_agents
all_constant_rows h [] [] (a ∷ as') some e seen below = absurd below
all_constant_rows h [] (n ∷ ns) as' some e seen below = absurd (omega arith)
all_constant_rows h (b ∷ bs) [] as' some e seen below = absurd (omega arith)
all_constant_rows h (b ∷ bs) (n ∷ ns) [] some e seen below = absurd below
all_constant_rows h (b ∷ bs) (n ∷ ns) (a ∷ as') some e seen below =
    and_agent (constant_rows_are b n h a some (positive_left n (product ns) 0 seen) below.0)
    (all_constant_rows h bs ns as' some (omega arith) (positive_right n (product ns) 0 seen) below.1)

all_constant_reduced : (h : ℕ) (bs ns as' : List ℕ) → 0 < h → 0 < product ns → AreBelow bs as'
    → AreReduced h (constant_rows_of ns h as')
all_constant_reduced h bs [] as' some seen below = tt
all_constant_reduced h bs (n ∷ ns) [] some seen below = tt
all_constant_reduced h [] (n ∷ ns) (a ∷ as') some seen below = absurd below
all_constant_reduced h (b ∷ bs) (n ∷ ns) (a ∷ as') some seen below = (
  constant_reduced b n h a some (positive_left n (product ns) 0 seen) below.0,
  all_constant_reduced h bs ns as' some (positive_right n (product ns) 0 seen) below.1,
)

all_constant_unfold : (h : ℕ) (bs ns as' : List ℕ) → 0 < h → 0 < product ns → AreBelow bs as'
    → unfolded (constant_rows_of ns h as') ≡ constant_trees ns h as'
all_constant_unfold h bs [] as' some seen below = refl
all_constant_unfold h bs (n ∷ ns) [] some seen below = refl
all_constant_unfold h [] (n ∷ ns) (a ∷ as') some seen below = absurd below
all_constant_unfold h (b ∷ bs) (n ∷ ns) (a ∷ as') some seen below =
    rw (
      constant_rows_unfold b n h a some (positive_left n (product ns) 0 seen) below.0,
      all_constant_unfold h bs ns as' some (positive_right n (product ns) 0 seen) below.1,
    )

all_constant_counts : (h : ℕ) (bs ns as' : List ℕ) → 0 < h → 0 < product ns → AreBelow bs as' → (t : ℕ) → t < h
    → product (row_counts (constant_rows_of ns h as') t) ≡ 1
all_constant_counts h bs [] as' some seen below t lt = refl
all_constant_counts h bs (n ∷ ns) [] some seen below t lt = refl
all_constant_counts h [] (n ∷ ns) (a ∷ as') some seen below t lt = absurd below
all_constant_counts h (b ∷ bs) (n ∷ ns) (a ∷ as') some seen below t lt =
    rw (
      constant_count b n h a some (positive_left n (product ns) 0 seen) below.0 t lt,
      all_constant_counts h bs ns as' some (positive_right n (product ns) 0 seen) below.1 t lt,
    ) refl

-- the rows of a constant joint policy are a shared policy, mean it, and are a shared form
pub constant_rows_is : (m : Model) (h a : ℕ) → IsModel m → 0 < h → a < joint_actions m →
    IsSharedOf m h (constant_rows m h a) × (unfolded (constant_rows m h a) ≡ constant_policy m h a)
    × IsSharedForm m h (constant_rows m h a)
unfolding constant_rows constant_policy joint_actions joint_observations
constant_rows_is m h a is some inside =
    let seen : 0 < product m.observations = some_joint_observation m is in
    let below = parts_below m.actions a inside in
    let states = is.sizes.states_limit in
    let shared : IsSharedOf m h (constant_rows_of m.observations h (parts_of m.actions a)) = record {
      agents = all_constant_rows h m.actions m.observations (parts_of m.actions a)
          some is.sizes.alike seen below;
      cells = λ t lt. let one = all_constant_counts h m.actions m.observations (parts_of m.actions a)
          some seen below t lt in rw one (omega arith);
    } in (
      shared,
      all_constant_unfold h m.actions m.observations (parts_of m.actions a) some seen below,
      reduced_is_form m h _ shared (all_constant_reduced h m.actions m.observations (parts_of m.actions a)
          some seen below),
    )
