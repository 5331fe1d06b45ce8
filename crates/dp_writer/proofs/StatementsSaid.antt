-- The statements that are written of a model say its rows of chances and its rewards.
use Rattle.std.proofs.Common.{◌≡◌, ℕ, ◌*◌, ◌<◌, Bool, true, false, cond, ℤ, pos, List, [], ◌∷◌, ◌++◌}
use Rattle.std.proofs.Common.{length, get_or, map, refl, sym, ap, ◌∙◌, arith}
use Rattle.std.specs.Prelude.{codes}
use Rattle.std.specs.List.{flat_map, range_with_len}
use Rattle.std.specs.Ordering.{int_eq}
use Rattle.std.proofs.lemmas.List.{append-nil}
use Rattle.std.proofs.lemmas.List.Folds.{flat_map-map}
use Rattle.std.proofs.lemmas.List.FromFn.{length-range_with_len}
use Rattle.std.proofs.Math.Nat.{le-mul_of_pos_right}
use Rattle.dp_spec.specs.JointNumbers.{product}
use Rattle.dp_spec.specs.Model.{joint_actions, joint_observations, reward_at}
use Rattle.dp_spec.proofs.ModelLaws.{some_joint_observation, some_state}
use Rattle.dp_model.specs.Tables.{NamedModel}
use Rattle.dp_meaning.specs.declared.header.Header.{Header}
use Rattle.dp_meaning.specs.declared.statement.Part.{Part}
use Rattle.dp_meaning.specs.declared.statement.Part.TheVariants.{Any}
use Rattle.dp_meaning.specs.declared.statement.Statement.{Statement}
use Rattle.dp_meaning.specs.declared.statement.Table.TheVariants.{Trans, Obs, Reward}
use Rattle.dp_meaning.specs.declared.statement.Value.TheVariants.{Numbers}
use Rattle.dp_meaning.specs.Items.{Item, Piece}
use Rattle.dp_meaning.specs.NameLists.{size_of}
use Rattle.dp_meaning.specs.Header.{kind_of}
use Rattle.dp_meaning.specs.Fields.{Axis}
use Rattle.dp_meaning.specs.Numbers.{is_reward}
use Rattle.dp_meaning.specs.Statements.{axis_size, statement_of_kind, statements_of, value_of}
use Rattle.dp_meaning.proofs.Each.{Each}
use Rattle.dp_meaning.proofs.FaultSteps.{done}
use Rattle.dp_writer.specs.declared.rows.ChanceTable.{ChanceTable}
use Rattle.dp_writer.specs.declared.rows.ChanceTable.TheVariants.{Next, Seen}
use Rattle.dp_writer.specs.ModelRows.{cell_at, chance_row, reward_row, reward_rows, scale_of_table}
use Rattle.dp_writer.specs.WrittenModel.{is_only_reward, matrix_lines, reward_word, row_words}
use Rattle.dp_writer.specs.WrittenNumbers.{decimal_over}
use Rattle.dp_writer.specs.WrittenText.{Said, chance_said, reward_decimals, reward_said, row_value, said_fields}
use Rattle.dp_writer.specs.WrittenText.{said_of}
use Rattle.dp_writer.specs.WrittenText.{said_statements, said_table}
use Rattle.dp_writer.proofs.FieldSymbols.{SymbolFields, field_ends, field_read, no_field, none_read}
use Rattle.dp_writer.proofs.FieldSymbols.{run_in_field, star_field_read, symbol_fields}
use Rattle.dp_writer.proofs.HeaderRead.{IsStatementItem}
use Rattle.dp_writer.proofs.Ranges.{Alongside, alongside_joined, each_lists, each_range}
use Rattle.dp_writer.proofs.ReadLists.{length_alike, map-map, map_flat}
use Rattle.dp_writer.proofs.ReadPieces.{IsNumberOf, step_done}
use Rattle.dp_writer.proofs.RowCells.{length_each}
use Rattle.dp_writer.proofs.SaidHeaders.{HasSizes}
use Rattle.dp_writer.proofs.StatementItems.{over_states}
use Rattle.dp_writer.proofs.StatementRead.{IsRest, SaysItem, item_says}
use Rattle.dp_writer.proofs.StatementValues.{rewards_value_read, row_value_read}
use Rattle.dp_writer.proofs.Symbols.{colon_symbol, run_symbol, star_symbol, symbol_of}
use Rattle.dp_writer.proofs.SymbolItems.{SymbolItem, item_symbols}
use Rattle.dp_writer.proofs.WrittenFacts.{IsWritableModel, reward_number_of, row_written}
use Rattle.dp_writer.proofs.WrittenItems.{any_symbols, by_state, chance_items, reward_items, statement_items}
use Rattle.dp_writer.proofs.WrittenItems.{statement_item}

-- the fields of any next state and any joint observation
any_fields : (reward : List ℕ) → symbol_fields (any_symbols reward)
    ≡ record { fields = (star_symbol ∷ []) ∷ (star_symbol ∷ []) ∷ []; rest = run_symbol reward ∷ [] }
any_fields reward =
    field_ends (star_symbol ∷ []) (star_symbol ∷ colon_symbol ∷ run_symbol reward ∷ []) (refl, tt)
    ∙ ap (λ (f : SymbolFields). record { fields = (star_symbol ∷ []) ∷ f.fields; rest = f.rest })
    (field_ends (star_symbol ∷ []) (run_symbol reward ∷ []) (refl, tt)
    ∙ ap (λ (f : SymbolFields). record { fields = (star_symbol ∷ []) ∷ f.fields; rest = f.rest })
    (no_field (run_symbol reward ∷ []) (run_in_field reward, tt)))

module _ (m : NamedModel) (can : IsWritableModel m) (header : Header) (sizes : HasSizes m.model header) where
  -- any joint observation
  any_observation : map {A = _} {B = Part} (λ _. Any) header.observations ≡ map (λ _. Any) m.model.observations
  any_observation = sym (map-map {B = ℕ} (λ _. Any) size_of header.observations)
      ∙ ap (map (λ _. Any)) sizes.observations

  -- the numbers of states and of joint observations
  states_size : axis_size (header.states ∷ []) ≡ m.model.states
  states_size = omega (arith, sizes.states)

  observations_size : axis_size header.observations ≡ joint_observations m.model
  unfolding joint_observations
  observations_size = ap product sizes.observations

  module _ (a s : ℕ) (action : a < joint_actions m.model) (state : s < m.model.states) where
    -- the rewards one after the other
    abbrev rewards : List ℤ
    rewards = flat_map (reward_row m.model a s) (range_with_len 0 m.model.states)

    abbrev scale : ℕ
    scale = m.model.scales.reward

    reward_count : length rewards ≡ m.model.states * joint_observations m.model
    reward_count =
        length_alike (reward_row m.model a s) (range_with_len 0 m.model.states) (joint_observations m.model) 0
        (λ n less. length_each (reward_at m.model a s (get_or (range_with_len 0 m.model.states) n 0))
        (joint_observations m.model))
        ∙ ap (λ n. n * joint_observations m.model) (length-range_with_len 0 m.model.states)

    some_reward : 0 < length rewards
    some_reward = omega (
      arith,
      reward_count,
      some_state m.model can.named.model,
      le-mul_of_pos_right m.model.states (some_joint_observation m.model can.named.model),
    )

    reward_numbers : Each (λ r. IsNumberOf is_reward (reward_word scale r) (decimal_over 9 r scale)) rewards
    reward_numbers = each_lists (λ r. IsNumberOf is_reward (reward_word scale r) (decimal_over 9 r scale))
        (reward_row m.model a s) 0 m.model.states
        (λ t below. each_range (λ r. IsNumberOf is_reward (reward_word scale r) (decimal_over 9 r scale))
        (reward_at m.model a s t) 0 (joint_observations m.model) (λ o less. reward_number_of m can a s t o))

    -- the symbols of their lines
    matrix_symbols : flat_map (λ l. l) (map (map run_symbol) (matrix_lines m.model a s))
        ≡ map run_symbol (map (reward_word scale) rewards)
    matrix_symbols =
        let states = range_with_len 0 m.model.states in
        let row = reward_row m.model a s in
        ap (flat_map (λ l. l)) (map-map (map run_symbol) (λ t. map (reward_word scale) (row t)) states)
        ∙ flat_map-map (λ l. l) (λ t. map run_symbol (map (reward_word scale) (row t))) states
        ∙ sym (map_flat run_symbol (λ t. map (reward_word scale) (row t)) states)
        ∙ ap (map run_symbol) (sym (map_flat (reward_word scale) row states))

    -- their decimals
    matrix_decimals : reward_decimals scale rewards ≡ flat_map (reward_decimals scale) (reward_rows m.model a s)
    matrix_decimals =
        map_flat (λ r. decimal_over 9 r scale) (reward_row m.model a s) (range_with_len 0 m.model.states)
        ∙ sym (flat_map-map (reward_decimals scale) (reward_row m.model a s) (range_with_len 0 m.model.states))

    matrix_size : product (map axis_size ((header.states ∷ []) ∷ header.observations ∷ [])) ≡ length rewards
    matrix_size =
        let one : axis_size header.observations * 1 ≡ joint_observations m.model = omega (arith, observations_size) in
        (λ i. states_size i * one i) ∙ sym reward_count

    -- what stands behind the fields of all rewards
    all_rewards : IsRest header Reward ((header.states ∷ []) ∷ header.observations ∷ []) [] (matrix_lines m.model a s)
        []
        (Numbers (flat_map (reward_decimals scale) (reward_rows m.model a s)))
    all_rewards = record {
      axes_are = refl;
      least = omega arith;
      fields = [];
      left = [];
      fields_are = refl;
      read = none_read ((header.states ∷ []) ∷ header.observations ∷ []);
      value_read = λ next pieces e.
          rewards_value_read ((header.states ∷ []) ∷ header.observations ∷ []) next scale rewards pieces some_reward
          matrix_size reward_numbers (e ∙ matrix_symbols)
          ∙ ap (λ ds. done (Numbers ds)) matrix_decimals;
    }

    -- what stands behind the fields of one reward
    one_reward : (r : ℤ) → IsNumberOf is_reward (reward_word scale r) (decimal_over 9 r scale)
        → IsRest header Reward ((header.states ∷ []) ∷ header.observations ∷ []) (any_symbols (reward_word scale r))
        []
        ((Any ∷ []) ∷ map (λ _. Any) m.model.observations ∷ []) (Numbers (decimal_over 9 r scale ∷ []))
    one_reward r number = record {
      axes_are = refl;
      least = omega arith;
      fields = (star_symbol ∷ []) ∷ (star_symbol ∷ []) ∷ [];
      left = run_symbol (reward_word scale r) ∷ [];
      fields_are = any_fields (reward_word scale r);
      read = field_read (header.states ∷ []) (header.observations ∷ []) (star_symbol ∷ []) ((star_symbol ∷ []) ∷ [])
          (Any ∷ []) (map (λ _. Any) m.model.observations ∷ [])
          (λ field e. star_field_read (header.states ∷ []) field e)
          (field_read header.observations [] (star_symbol ∷ []) [] (map (λ _. Any) m.model.observations) []
          (λ field e. star_field_read header.observations field e ∙ ap done any_observation) (none_read []));
      value_read = λ next pieces e.
          rewards_value_read [] next scale (r ∷ []) pieces (omega arith) refl (number, tt) e;
    }

    -- what stands behind the fields of a row of chances
    a_row : (table : ChanceTable) (axis : Axis) → axis_size axis ≡ length (chance_row m.model table a s)
        → (next : ℕ) (pieces : List Piece)
        → map symbol_of pieces
        ≡ flat_map (λ l. l)
        (map (map run_symbol) (row_words (scale_of_table m.model table) (chance_row m.model table a s) ∷ []))
        → value_of (said_table table) (axis ∷ []) next pieces
        ≡ done (row_value (scale_of_table m.model table) (chance_row m.model table a s))
    a_row table axis size next pieces e =
        row_value_read table axis next (scale_of_table m.model table) (chance_row m.model table a s) pieces
        (row_written m can table a s action state) size
        (e ∙ append-nil (map run_symbol (row_words (scale_of_table m.model table) (chance_row m.model table a s))))

    -- the row of a joint action and a state
    chance_says : (table : ChanceTable)
        → Alongside (SaysItem header) (chance_items m.model table a s) (chance_said m.model table a s)
    chance_says Next = (
      item_says header m.model sizes a s action state can.named.model.sizes.joint_actions_limit
          can.named.model.sizes.states_limit (codes "T") Trans ((header.states ∷ []) ∷ []) []
          (row_words (scale_of_table m.model Next) (chance_row m.model Next a s) ∷ []) []
          (row_value (scale_of_table m.model Next) (chance_row m.model Next a s)) refl (record {
            axes_are = refl;
            least = omega arith;
            fields = [];
            left = [];
            fields_are = refl;
            read = none_read ((header.states ∷ []) ∷ []);
            value_read = a_row Next (header.states ∷ [])
                (states_size ∙ sym (length_each (cell_at m.model Next a s) m.model.states));
          }),
      tt,
    )
    chance_says Seen = (
      item_says header m.model sizes a s action state can.named.model.sizes.joint_actions_limit
          can.named.model.sizes.states_limit (codes "O") Obs (header.observations ∷ []) []
          (row_words (scale_of_table m.model Seen) (chance_row m.model Seen a s) ∷ []) []
          (row_value (scale_of_table m.model Seen) (chance_row m.model Seen a s)) refl (record {
            axes_are = refl;
            least = omega arith;
            fields = [];
            left = [];
            fields_are = refl;
            read = none_read (header.observations ∷ []);
            value_read = a_row Seen header.observations
                (observations_size ∙ sym (length_each (cell_at m.model Seen a s) (joint_observations m.model)));
          }),
      tt,
    )

    -- the rewards of a joint action and a state
    reward_says : Alongside (SaysItem header) (reward_items m.model a s) (reward_said m.model a s)
    unfolding reward_said
    reward_says =
        by (is_only_reward (reward_at m.model a s 0 0) (reward_rows m.model a s))
        (int_eq (reward_at m.model a s 0 0) (pos 0)) (reward_at m.model a s 0 0) (reward_number_of m can a s 0 0)
      where
        by : (only none : Bool) (r : ℤ) → IsNumberOf is_reward (reward_word scale r) (decimal_over 9 r scale)
            → Alongside (SaysItem header)
            (cond only (cond none [] (statement_item m.model (codes "R") a s (any_symbols (reward_word scale r)) [] ∷ []))
            (statement_item m.model (codes "R") a s [] (matrix_lines m.model a s) ∷ []))
            (cond only (cond none [] (record {
              table = Reward;
              fields = said_fields m.model a s ++ (Any ∷ []) ∷ map (λ _. Any) m.model.observations ∷ [];
              value = Numbers (decimal_over 9 r scale ∷ []);
            } ∷ [])) (record {
              table = Reward;
              fields = said_fields m.model a s;
              value = Numbers (flat_map (reward_decimals scale) (reward_rows m.model a s));
            } ∷ []))
        by true true r number = tt
        by true false r number = (
          item_says header m.model sizes a s action state can.named.model.sizes.joint_actions_limit
              can.named.model.sizes.states_limit (codes "R") Reward ((header.states ∷ []) ∷ header.observations ∷ [])
              (any_symbols (reward_word scale r)) [] ((Any ∷ []) ∷ map (λ _. Any) m.model.observations ∷ [])
              (Numbers (decimal_over 9 r scale ∷ [])) refl (one_reward r number),
          tt,
        )
        by false none r number = (
          item_says header m.model sizes a s action state can.named.model.sizes.joint_actions_limit
              can.named.model.sizes.states_limit (codes "R") Reward ((header.states ∷ []) ∷ header.observations ∷ []) []
              (matrix_lines m.model a s) [] (Numbers (flat_map (reward_decimals scale) (reward_rows m.model a s)))
              refl
              all_rewards,
          tt,
        )

  -- all statements
  pub statements_say : Alongside (SaysItem header) (statement_items m.model) (said_statements m.model)
  unfolding said_statements
  statements_say =
      let of = m.model in
      let R = Alongside (SaysItem header) in
      let join = alongside_joined (SaysItem header) in
      join.joined (by_state of (chance_items of Next))
      (by_state of (chance_items of Seen) ++ by_state of (reward_items of))
      (by_state of (chance_said of Next)) (by_state of (chance_said of Seen) ++ by_state of (reward_said of))
      (over_states R join of (chance_items of Next) (chance_said of Next)
      (λ a s action state. chance_says a s action state Next))
      (join.joined (by_state of (chance_items of Seen)) (by_state of (reward_items of))
      (by_state of (chance_said of Seen))
      (by_state of (reward_said of))
      (over_states R join of (chance_items of Seen) (chance_said of Seen)
      (λ a s action state. chance_says a s action state Seen))
      (over_states R join of (reward_items of) (reward_said of) (λ a s action state. reward_says a s action state)))

-- ---- reading them

pub statement_kinds : (header : Header) (its : List SymbolItem) (saids : List Said)
    → Alongside (SaysItem header) its saids → Each IsStatementItem its
statement_kinds header [] [] say = tt
statement_kinds header [] (said ∷ saids) say = absurd say
statement_kinds header (it ∷ its) [] say = absurd say
statement_kinds header (it ∷ its) (said ∷ saids) say = (say.0.kind, statement_kinds header its saids say.1)

pub statements_read : (header : Header) (items : List Item) (its : List SymbolItem) (saids : List Said)
    → Alongside (SaysItem header) its saids → map item_symbols items ≡ its
    → (ss : List Statement) × (statements_of header items ≡ done ss) × (map said_of ss ≡ saids)
unfolding statements_of
statements_read header [] [] [] say e = ([], refl, refl)
statements_read header (item ∷ items) [] saids say e = absurd cc
statements_read header [] (it ∷ its) saids say e = absurd cc
statements_read header items [] (said ∷ saids) say e = absurd say
statements_read header items (it ∷ its) [] say e = absurd say
statements_read header (item ∷ items) (it ∷ its) (said ∷ saids) say e =
    let same : item_symbols item ≡ it = cc in
    let others : map item_symbols items ≡ its = cc in
    let first = say.0.read item same in
    let rest = statements_read header items its saids say.1 others in (
      first.0 ∷ rest.0,
      step_done (statement_of_kind header item (kind_of item)) _ first.0 first.1
          ∙ step_done (statements_of header items) _ rest.0 rest.1,
      (λ i. first.2 i ∷ rest.2 i),
    )
