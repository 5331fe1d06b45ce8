-- The model that is made of sizes within the limits is a model.
use Rattle.std.proofs.Common.{◌≡◌, ℕ, zero, suc, ◌+◌, ◌-◌, ◌*◌, ◌/◌, ◌%◌, ◌^◌, ◌<◌, ◌≤◌, ℤ, pos, List, [], length}
use Rattle.std.proofs.Common.{get_or}
use Rattle.std.proofs.Common.{cond, eqb, refl, sym, ap, ◌∙◌, subst, inl, inr, arith}
use Rattle.std.specs.Prelude.{replicate, unsigned_abs}
use Rattle.std.proofs.Math.Nat.{mul-pos, mul_assoc}
use Rattle.std.proofs.lemmas.Bool.{cases_lt}
use Rattle.std.proofs.lemmas.Int.{ints}
use Rattle.std.proofs.lemmas.List.{get_or_past, get_or-replicate, length-replicate}
use Rattle.std.proofs.lemmas.List.FromFn.{get_or-map-range_with_len, length-map-range_with_len}
use Rattle.std.proofs.lemmas.Nat.{div-mul-add, mod-mul-add, mod_below}
use Rattle.rand_core.specs.Stream.{Stream}
use Rattle.dp_base.specs.Sums.{nat_sum}
use Rattle.dp_base.proofs.NaturalSumLaws.{nat_sum_add, nat_sum_const, nat_sum_ext, nat_sum_one}
use Rattle.dp_spec.specs.JointNumbers.{product}
use Rattle.dp_spec.specs.Model.{AreRows, AreSizes, AreTables, IsModel, joint_actions, joint_observations}
use Rattle.dp_spec.specs.Model.{obs_at, start_at, trans_at}
use Rattle.dp_spec.proofs.JointNumberLaws.{row_below}
use Rattle.dp_spec.specs.declared.scales.Scales.{Scales}
use Rattle.dp_model.specs.declared.sizes.Cells.{Cells}
use Rattle.dp_model.specs.declared.sizes.Sizes.{Sizes}
use Rattle.dp_model.specs.Names.{NameLists, counts_of, names_of}
use Rattle.dp_model.specs.Tables.{AreNamesOf, NamedModel, model_of_tables}
use Rattle.dp_writer.specs.declared.sizes.JointSizes.{JointSizes}
use Rattle.dp_writer.specs.declared.sizes.MakeSize.{MakeSize}
use Rattle.dp_writer.specs.Draws.{chances_drawn, left_after, reward_drawn, rewards_drawn, row_drawn, share_drawn}
use Rattle.dp_writer.specs.Draws.{word_at}
use Rattle.dp_writer.specs.MadeModel.{IsMakeSize, actions_made, cells_made, made_model, observations_made}
use Rattle.dp_writer.specs.MadeModel.{scales_made}
use Rattle.dp_writer.specs.MadeSizes.{AreJointSizes}

-- ---- rows of chances

-- the two parts of a row are 100 together
parts_sum : (n p r q : ℕ) → p < n → r < n → q ≤ 100
    → nat_sum n (λ i. cond (eqb i p) q 0 + cond (eqb i r) (100 - q) 0) ≡ 100
parts_sum n p r q p_in r_in most =
    let first = nat_sum_one n p (λ i. q) p_in in
    let second = nat_sum_one n r (λ i. 100 - q) r_in in
    nat_sum_add n (λ i. cond (eqb i p) q 0) (λ i. cond (eqb i r) (100 - q) 0) ∙ omega (arith, first, second)

row_sum : (stream : Stream) (n r : ℕ) → 0 < n → nat_sum n (row_drawn stream n r) ≡ 100
unfolding row_drawn
row_sum stream n r some =
    let z = word_at stream (3 * r + 2) in
    let share = mod_below (word_at stream (3 * r + 2)) 99 (omega arith) in
    parts_sum n (word_at stream (3 * r) % n) (word_at stream (3 * r + 1) % n) (share_drawn z) (mod_below _ n some)
    (mod_below _ n some) (omega (arith, share))

chance_at : (stream : Stream) (rows n r i : ℕ) → r < rows → i < n
    → get_or (chances_drawn stream rows n) (r * n + i) 0 ≡ row_drawn stream n r i
unfolding chances_drawn
chance_at stream rows n r i row_in place_in =
    get_or-map-range_with_len (λ j. row_drawn stream n (j / n) (j % n)) 0 (rows * n) (r * n + i) (r * n + i) 0
    (row_below r rows n i row_in place_in) (omega arith)
    ∙ (λ k. row_drawn stream n (div-mul-add r n i place_in k) (mod-mul-add r n i place_in k))

table_sum : (stream : Stream) (rows n r : ℕ) → 0 < n → r < rows
    → nat_sum n (λ i. get_or (chances_drawn stream rows n) (r * n + i) 0) ≡ 100
table_sum stream rows n r some row_in =
    nat_sum_ext n (λ i. get_or (chances_drawn stream rows n) (r * n + i) 0) (row_drawn stream n r)
    (λ i lt. chance_at stream rows n r i row_in lt)
    ∙ row_sum stream n r some

length-chances_drawn : (stream : Stream) (rows n : ℕ) → length (chances_drawn stream rows n) ≡ rows * n
unfolding chances_drawn
length-chances_drawn stream rows n = length-map-range_with_len (λ j. row_drawn stream n (j / n) (j % n)) 0 (rows * n)

-- ---- rewards

reward_small : (x : ℕ) → unsigned_abs (reward_drawn x) ≤ 100
reward_small x = let below = mod_below x 201 (omega arith) in omega (arith, ints, below)

length-rewards_drawn : (stream : Stream) (rows n : ℕ) → length (rewards_drawn stream rows n) ≡ rows * n
unfolding rewards_drawn
length-rewards_drawn stream rows n =
    length-map-range_with_len (λ j. reward_drawn (word_at stream (j / n))) 0 (rows * n)

rewards_small : (stream : Stream) (rows n i : ℕ) → unsigned_abs (get_or (rewards_drawn stream rows n) i (pos 0)) ≤ 100
unfolding rewards_drawn
rewards_small stream rows n i = elim (cases_lt i (rows * n)) [
  | inl inside ↦
      let at = get_or-map-range_with_len (λ j. reward_drawn (word_at stream (j / n))) 0 (rows * n) i i (pos 0) inside
      (omega arith) in
      subst (λ (z : ℤ). unsigned_abs z ≤ 100) (sym at) (reward_small (word_at stream (i / n)))
  | inr past ↦
      let none = get_or_past (rewards_drawn stream rows n) i (pos 0)
      (omega (arith, length-rewards_drawn stream rows n)) in
      subst (λ (z : ℤ). unsigned_abs z ≤ 100) (sym none) (omega (arith, ints))
]

-- ---- the model

pub some_product : (k n : ℕ) → 1 ≤ n → 0 < product (replicate k n)
some_product zero n some = omega arith
some_product (suc k) n some = mul-pos (omega arith) (some_product k n some)

-- a list that was given as a count has no names
no_names : (k i : ℕ) → names_of (replicate k []) i ≡ []
no_names zero i = refl
no_names (suc k) zero = refl
no_names (suc k) (suc i) = no_names k i

module _ (size : MakeSize) (joint : JointSizes) (stream : Stream) (is : IsMakeSize size)
    (of : AreJointSizes size joint) where
  agents : length (actions_made size) ≡ size.agents
  agents = length-replicate size.agents size.actions

  viewers : length (observations_made size) ≡ size.agents
  viewers = length-replicate size.agents size.observations

  some_seen : 0 < product (observations_made size)
  some_seen = some_product size.agents size.observations is.some_observation

  rewards_counted : product (actions_made size) * size.states * (size.states * product (observations_made size))
      ≡ product (actions_made size) * size.states * size.states * product (observations_made size)
  rewards_counted =
      sym (mul_assoc (product (actions_made size) * size.states) size.states (product (observations_made size)))

  sizes : AreSizes (made_model size stream).model
  unfolding made_model cells_made joint_actions joint_observations
  sizes = record {
    alike = viewers ∙ sym agents;
    some_agent = omega (arith, agents, is.some_agent);
    some_action = some_product size.agents size.actions is.some_action;
    agents_limit = omega (arith, agents, of.agents_limit);
    states_limit = of.states_limit;
    joint_actions_limit = omega (arith, of.actions, of.actions_limit);
    joint_observations_limit = omega (arith, of.observations, of.observations_limit);
    trans_cells_limit = subst (λ (k : ℕ). k * size.states ≤ 2 ^ 22) of.rows of.trans_cells;
    obs_cells_limit = subst (λ (k : ℕ). k * product (observations_made size) ≤ 2 ^ 22) of.rows
        (subst (λ (o : ℕ). joint.rows * o ≤ 2 ^ 22) of.observations of.obs_cells);
    reward_cells_limit = subst (λ (k : ℕ). k ≤ 2 ^ 28) rewards_counted
        (subst (λ (k : ℕ). k * (size.states * product (observations_made size)) ≤ 2 ^ 28) of.rows
        (subst (λ (o : ℕ). joint.rows * (size.states * o) ≤ 2 ^ 28) of.observations of.reward_cells));
  }

  tables : AreTables (made_model size stream).model
  unfolding made_model cells_made joint_actions joint_observations
  tables = record {
    start = length-replicate size.states 1;
    trans = length-chances_drawn stream (product (actions_made size) * size.states) size.states;
    obs = length-chances_drawn _ (product (actions_made size) * size.states) (product (observations_made size));
    reward = length-rewards_drawn _ (product (actions_made size) * size.states)
        (size.states * product (observations_made size)) ∙ rewards_counted;
    reward_limit = λ i. let small = rewards_small (left_after (3 * (product (actions_made size) * size.states))
        (left_after (3 * (product (actions_made size) * size.states)) stream))
        (product (actions_made size) * size.states) (size.states * product (observations_made size)) i in
        omega (arith, small);
  }

  rows : AreRows (made_model size stream).model
  unfolding made_model cells_made joint_actions joint_observations start_at trans_at obs_at
  rows = record {
    start =
        nat_sum_ext size.states (λ s. get_or (replicate size.states 1) s 0) (λ s. 1)
        (λ s lt. get_or-replicate size.states s 1 0 lt)
        ∙ nat_sum_const size.states 1 ∙ omega arith;
    trans = λ a s action state.
        table_sum stream (product (actions_made size) * size.states) size.states (a * size.states + s) is.some_state
        (row_below a (product (actions_made size)) size.states s action state);
    obs = λ a t action state.
        table_sum (left_after (3 * (product (actions_made size) * size.states)) stream)
        (product (actions_made size) * size.states) (product (observations_made size)) (a * size.states + t) some_seen
        (row_below a (product (actions_made size)) size.states t action state);
  }

  pub made_is_model : IsModel (made_model size stream).model
  unfolding made_model
  made_is_model = record {
    sizes = sizes;
    scales = record {
      start = is.some_state;
      trans = omega arith;
      obs = omega arith;
      reward = omega arith;
      discount = omega arith;
      start_limit = omega (arith, of.states_limit);
      trans_limit = omega arith;
      obs_limit = omega arith;
      reward_digits = (0, omega arith, refl);
      discount_digits = (0, omega arith, refl);
      gain = omega arith;
    };
    tables = tables;
    rows = rows;
  }

  pub made_has_names : AreNamesOf (made_model size stream).model (made_model size stream).names
  unfolding made_model
  made_has_names = record {
    action_lists = length-replicate size.agents [] ∙ sym agents;
    observation_lists = length-replicate size.agents [] ∙ sym agents;
    agents = λ some. absurd (omega arith);
    states = λ some. absurd (omega arith);
    actions = λ i lt some. absurd (nameless i some);
    observations = λ i lt some. absurd (nameless i some);
  }
    where
      nameless : (i : ℕ) → 0 < length (names_of (replicate size.agents []) i) → ⊥
      nameless i some =
          let none = ap (λ (l : List (List ℕ)). length l) (no_names size.agents i) in omega (arith, none, some)

-- the made model, from parts that are equal to its own
pub parts_are : (size : MakeSize) (joint : JointSizes) (stream : Stream) (actions observations : List ℕ)
    (scales : Scales) (cells : Cells) (names : NameLists) → AreJointSizes size joint → actions ≡ actions_made size
    → observations ≡ observations_made size → scales ≡ scales_made size.states
    → cells ≡ cells_made stream size.states joint.rows joint.observations → names ≡ counts_of size.agents
    → (let sizes : Sizes = record { states = size.states; actions = actions; observations = observations } in
    let named : NamedModel = record { model = model_of_tables sizes scales cells; names = names } in
    named ≡ made_model size stream)
unfolding made_model
parts_are size joint stream actions observations scales cells names of a o s tables n =
    let all = tables ∙ (λ i. cells_made stream size.states (of.rows i) (of.observations i)) in
    λ i. record {
      model = model_of_tables (record { states = size.states; actions = a i; observations = o i }) (s i) (all i);
      names = n i;
    }
