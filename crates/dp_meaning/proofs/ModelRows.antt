-- Worked rows, computed: files that mean a model.
use Rattle.std.proofs.Common.{◌≡◌, ℕ, List, [], ◌∷◌, ◌++◌, ℤ, pos, negsuc, refl}
use Rattle.std.specs.Prelude.{◌*◌, ◌^◌, codes, replicate}
use Rattle.std.specs.List.{flat_map}
use Rattle.dp_base.specs.DecimalShape.{is_decimal, is_index}
use Rattle.dp_base.specs.Decimals.{significand, numerator_tens, denominator_tens, decimal_of}
use Rattle.dp_base.specs.Divisors.{gcd_of, lcm_of}
use Rattle.dp_base.specs.Names.{is_word, is_name}
use Rattle.dp_lexer.specs.Tokens.{tokens_from, tokens_of}
use Rattle.dp_spec.specs.Model.{Model}
use Rattle.dp_model.specs.Names.{NameLists, counts_of}
use Rattle.dp_meaning.specs.Items.{lines_of, items_of}
use Rattle.dp_meaning.specs.Numbers.{number, numbers}
use Rattle.dp_meaning.specs.NameLists.{names_after, name_list, name_lists, find_in}
use Rattle.dp_meaning.specs.Entries.{start_of}
use Rattle.dp_meaning.specs.Header.{kind_of, with_entry, header_with, header_of}
use Rattle.dp_meaning.specs.Fields.{fields_of, part_of, parts_in, all_parts}
use Rattle.dp_meaning.specs.Statements.{value_of, statement, statements_of}
use Rattle.dp_meaning.specs.Cells.{chance_of_cell, reward_of_cell}
use Rattle.dp_meaning.specs.Scales.{scales_of}
use Rattle.dp_meaning.specs.Rows.{start_row, table_row, trans_rows, obs_rows, repaired_cells, repair, repair_all}
use Rattle.dp_meaning.specs.Limits.{passed_limit}
use Rattle.dp_meaning.specs.Meaning.{Meaning, Means, text_of, rewards_of, repaired_model, meaning}
use Rattle.dp_spec.proofs.SmallModels.{blind, decay, solo, tiger}

-- ---- the names of one agent's model

-- none, where all lists are given as counts
abbrev no_names : NameLists
no_names = counts_of 1

-- the meaning that is this model with these names, or without names, with so many repaired rows
abbrev named : Model → NameLists → ℕ → Meaning
named m names repaired = Means (record { model = record { model = m; names = names }; repaired = repaired })

abbrev means : Model → ℕ → Meaning
means m repaired = named m no_names repaired

-- the rewards of the second agent's second action, where the second agent sees its first observation
seven : List ℤ
seven = pos 7 ∷ pos 0 ∷ pos 0 ∷ pos 7 ∷ pos 0 ∷ pos 0 ∷ []

-- ---- whole files

-- the file of the tiger, whose lists have names
tiger_names : NameLists
tiger_names = record {
  agents = [];
  states = codes "tiger-left" ∷ codes "tiger-right" ∷ [];
  actions = tiger_actions ∷ tiger_actions ∷ [];
  observations = tiger_observations ∷ tiger_observations ∷ [];
}
  where
    tiger_actions : List (List ℕ)
    tiger_actions = codes "listen" ∷ codes "open-left" ∷ codes "open-right" ∷ []

    tiger_observations : List (List ℕ)
    tiger_observations = codes "hear-left" ∷ codes "hear-right" ∷ []

-- the tiger: `identity` replaces `uniform`, cells replace rows, Colons need no blanks
tiger_file : meaning (
    codes "agents: 2\ndiscount: 1\nvalues: reward\nstates: tiger-left tiger-right\nstart:\nuniform\nactions:\n"
    ++ codes "listen open-left open-right\nlisten open-left open-right\nobservations:\nhear-left hear-right\n"
    ++ codes "hear-left hear-right\n# Transitions\nT: * :\nuniform\nT: listen listen :\nidentity\n# Observations\nO: * :\n"
    ++ codes "uniform\nO: listen listen : tiger-left : hear-left hear-left : 0.7225\n"
    ++ codes "O: listen listen : tiger-left : hear-left hear-right : 0.1275\n"
    ++ codes "O: listen listen : tiger-left : hear-right hear-left : 0.1275\n"
    ++ codes "O: listen listen : tiger-left : hear-right hear-right : 0.0225\n"
    ++ codes "O: listen listen : tiger-right : hear-right hear-right : 0.7225\n"
    ++ codes "O: listen listen : tiger-right : hear-right hear-left : 0.1275\n"
    ++ codes "O: listen listen : tiger-right : hear-left hear-right : 0.1275\n"
    ++ codes "O: listen listen : tiger-right : hear-left hear-left : 0.0225\n# Rewards\n"
    ++ codes "R: listen listen : * : * : * : -2\nR: open-left open-left : tiger-left : * : * : -50\n"
    ++ codes "R: open-right open-right : tiger-right : * : * : -50\nR: open-left open-left : tiger-right : * : * : 20\n"
    ++ codes "R: open-right open-right: tiger-left : * : * : 20\nR: open-left open-right: * : * : * : -100\n"
    ++ codes "R: open-right open-left: * : * : * : -100\nR: open-left listen: tiger-left : * : * : -101\n"
    ++ codes "R: listen open-right: tiger-right : * : * : -101\nR: listen open-left: tiger-left : * : * : -101\n"
    ++ codes "R: open-right listen: tiger-right : * : * : -101\nR: listen open-right: tiger-left : * : * : 9\n"
    ++ codes "R: listen open-left: tiger-right : * : * : 9\nR: open-right listen: tiger-left : * : * : 9\n"
    ++ codes "R: open-left listen: tiger-right : * : * : 9\n")
    ≡ named tiger tiger_names 0
unfolding is_decimal is_index significand numerator_tens denominator_tens decimal_of gcd_of lcm_of is_word is_name
    tokens_from tokens_of lines_of items_of number numbers names_after name_list name_lists find_in start_of kind_of
    with_entry header_with header_of fields_of part_of parts_in all_parts value_of statement statements_of
    chance_of_cell reward_of_cell scales_of start_row table_row trans_rows obs_rows repaired_cells repair repair_all
    passed_limit text_of rewards_of repaired_model meaning tiger tiger_names
tiger_file = refl

-- sixteen fraction digits, a start given by name, a row of one cell, cells that no statement covers
decay_file : meaning (
    codes "agents: 1\ndiscount: 1\nvalues: reward\nstates: up down\nstart: up\nactions:\n1\nobservations:\n1\n"
    ++ codes "T: * : up : 0.1000000000000001 0.8999999999999999\nT: * : down : down : 1\nO: * : uniform\n"
    ++ codes "R: * : up : * : * : 1\n")
    ≡ named decay (record no_names { states = codes "up" ∷ codes "down" ∷ [] }) 0
unfolding is_decimal is_index significand numerator_tens denominator_tens decimal_of gcd_of lcm_of is_word is_name
    tokens_from tokens_of lines_of items_of number numbers names_after name_list name_lists find_in start_of kind_of
    with_entry header_with header_of fields_of part_of parts_in all_parts value_of statement statements_of
    chance_of_cell reward_of_cell scales_of start_row table_row trans_rows obs_rows repaired_cells repair repair_all
    passed_limit text_of rewards_of repaired_model meaning decay
decay_file = refl

-- a row of observations
blind_file : meaning (
    codes "agents: 1\ndiscount: 1\nvalues: reward\nstates: 1\nstart: uniform\nactions:\n1\nobservations:\n2\nT: * : uniform\n"
    ++ codes "O: * : * : 1 0\nR: * : * : * : * : 1\n")
    ≡ means blind 0
unfolding is_decimal is_index significand numerator_tens denominator_tens decimal_of gcd_of lcm_of is_word is_name
    tokens_from tokens_of lines_of items_of number numbers names_after name_list name_lists find_in start_of kind_of
    with_entry header_with header_of fields_of part_of parts_in all_parts value_of statement statements_of
    chance_of_cell reward_of_cell scales_of start_row table_row trans_rows obs_rows repaired_cells repair repair_all
    passed_limit text_of rewards_of repaired_model meaning blind
blind_file = refl

-- a model of one agent, and its file: the values, the states, the start and the statements before the rewards vary
abbrev file : List ℕ → List ℕ → List ℕ → List ℕ → List ℕ
file values states start statements =
    codes "agents: 1\ndiscount: 1\nvalues: " ++ values ++ codes "\nstates: " ++ states ++ codes "\nstart: " ++ start
    ++ codes "\nactions:\n2\nobservations:\n1\n" ++ statements ++ codes "R: 0 : * : * : * : 1\nR: 1 : * : * : * : 3\n"

-- uniform rows and rewards by index
solo_file : meaning (file (codes "reward") (codes "1") (codes "uniform") (codes "T: * : uniform\nO: * : uniform\n"))
    ≡ means solo 0
unfolding is_decimal is_index significand numerator_tens denominator_tens decimal_of gcd_of lcm_of is_word is_name
    tokens_from tokens_of lines_of items_of number numbers names_after name_list name_lists find_in start_of kind_of
    with_entry header_with header_of fields_of part_of parts_in all_parts value_of statement statements_of
    chance_of_cell reward_of_cell scales_of start_row table_row trans_rows obs_rows repaired_cells repair repair_all
    passed_limit text_of rewards_of repaired_model meaning solo
solo_file = refl

-- costs are negated
cost_file : meaning (file (codes "cost") (codes "1") (codes "uniform") (codes "T: * : uniform\nO: * : uniform\n"))
    ≡ means (record solo { reward = negsuc 0 ∷ negsuc 2 ∷ [] }) 0
unfolding is_decimal is_index significand numerator_tens denominator_tens decimal_of gcd_of lcm_of is_word is_name
    tokens_from tokens_of lines_of items_of number numbers names_after name_list name_lists find_in start_of kind_of
    with_entry header_with header_of fields_of part_of parts_in all_parts value_of statement statements_of
    chance_of_cell reward_of_cell scales_of start_row table_row trans_rows obs_rows repaired_cells repair repair_all
    passed_limit text_of rewards_of repaired_model meaning solo
cost_file = refl

-- where there is one state, `0` names it
zero_start : meaning (file (codes "reward") (codes "1") (codes "0") (codes "T: * : uniform\nO: * : uniform\n"))
    ≡ means solo 0
unfolding is_decimal is_index significand numerator_tens denominator_tens decimal_of gcd_of lcm_of is_word is_name
    tokens_from tokens_of lines_of items_of number numbers names_after name_list name_lists find_in start_of kind_of
    with_entry header_with header_of fields_of part_of parts_in all_parts value_of statement statements_of
    chance_of_cell reward_of_cell scales_of start_row table_row trans_rows obs_rows repaired_cells repair repair_all
    passed_limit text_of rewards_of repaired_model meaning solo
zero_start = refl

-- the same with more states, where each start and each row of transitions is given; one observation is certain
abbrev solo_with : ℕ → ℕ → ℕ → List ℕ → List ℕ → Model
solo_with states start_scale trans_scale start trans = record solo {
  states = states;
  scales = record { start = start_scale; trans = trans_scale; obs = 1; reward = 1; discount = 1; gain = 1 };
  start = start;
  trans = trans;
  obs = replicate (2 * states) 1;
  reward = replicate (states * states) (pos 1) ++ replicate (states * states) (pos 3);
}

-- what is missing goes to the first of the largest chances
repaired_start : meaning (file (codes "reward") (codes "3") (codes "0.333 0.333 0.333")
    (codes "T: * : uniform\nO: * : uniform\n"))
    ≡ means (solo_with 3 1000 3 (334 ∷ 333 ∷ 333 ∷ []) (replicate 18 1)) 1
unfolding is_decimal is_index significand numerator_tens denominator_tens decimal_of gcd_of lcm_of is_word is_name
    tokens_from tokens_of lines_of items_of number numbers names_after name_list name_lists find_in start_of kind_of
    with_entry header_with header_of fields_of part_of parts_in all_parts value_of statement statements_of
    chance_of_cell reward_of_cell scales_of start_row table_row trans_rows obs_rows repaired_cells repair repair_all
    passed_limit text_of rewards_of repaired_model meaning solo
repaired_start = refl

-- an index is a state, also with a zero in front
index_start : meaning (file (codes "reward") (codes "2") (codes "01") (codes "T: * : uniform\nO: * : uniform\n"))
    ≡ means (solo_with 2 1 2 (0 ∷ 1 ∷ []) (replicate 8 1)) 0
unfolding is_decimal is_index significand numerator_tens denominator_tens decimal_of gcd_of lcm_of is_word is_name
    tokens_from tokens_of lines_of items_of number numbers names_after name_list name_lists find_in start_of kind_of
    with_entry header_with header_of fields_of part_of parts_in all_parts value_of statement statements_of
    chance_of_cell reward_of_cell scales_of start_row table_row trans_rows obs_rows repaired_cells repair repair_all
    passed_limit text_of rewards_of repaired_model meaning solo
index_start = refl

-- the last statement that covers a cell gives its value; replaced ones count for the scale
later_cells : meaning (file (codes "reward") (codes "2") (codes "uniform")
    (codes "T: * : uniform\nT: 0 : 0 : 0 : 0.2\nT: 0 : 0 : 1 : 0.3\nT: 0 : 0 : 0 : 0.7\nO: * : uniform\n"))
    ≡ means (solo_with 2 2 10 (1 ∷ 1 ∷ []) (7 ∷ 3 ∷ replicate 6 5)) 0
unfolding is_decimal is_index significand numerator_tens denominator_tens decimal_of gcd_of lcm_of is_word is_name
    tokens_from tokens_of lines_of items_of number numbers names_after name_list name_lists find_in start_of kind_of
    with_entry header_with header_of fields_of part_of parts_in all_parts value_of statement statements_of
    chance_of_cell reward_of_cell scales_of start_row table_row trans_rows obs_rows repaired_cells repair repair_all
    passed_limit text_of rewards_of repaired_model meaning solo
later_cells = refl

-- also where it covers every cell
later_matrix : meaning (file (codes "reward") (codes "2") (codes "uniform")
    (codes "T: 0 : 0 : 0 : 0.2\nT: 0 : 0 : 1 : 0.3\nT: 0 : 0 : 0 : 0.7\nT: * : uniform\nO: * : uniform\n"))
    ≡ means (solo_with 2 2 10 (1 ∷ 1 ∷ []) (replicate 8 5)) 0
unfolding is_decimal is_index significand numerator_tens denominator_tens decimal_of gcd_of lcm_of is_word is_name
    tokens_from tokens_of lines_of items_of number numbers names_after name_list name_lists find_in start_of kind_of
    with_entry header_with header_of fields_of part_of parts_in all_parts value_of statement statements_of
    chance_of_cell reward_of_cell scales_of start_row table_row trans_rows obs_rows repaired_cells repair repair_all
    passed_limit text_of rewards_of repaired_model meaning solo
later_matrix = refl

-- a row of one cell is repaired
repaired_observations : meaning (file (codes "reward") (codes "2") (codes "0.9999999999999999 0.0000000000000001")
    (codes "T: * : uniform\nO: * : uniform\nT: 0 : 0 : 0.9999999999999999 0.0000000000000001\nO: 0 : 0 : 0.9999999999999999\n"))
    ≡ means (record solo {
      states = 2;
      scales = record { start = 10 ^ 16; trans = 10 ^ 16; obs = 10 ^ 16; reward = 1; discount = 1; gain = 1 };
      start = 9999999999999999 ∷ 1 ∷ [];
      trans = 9999999999999999 ∷ 1 ∷ replicate 6 5000000000000000;
      obs = replicate 4 10000000000000000;
      reward = replicate 4 (pos 1) ++ replicate 4 (pos 3);
    }) 1
unfolding is_decimal is_index significand numerator_tens denominator_tens decimal_of gcd_of lcm_of is_word is_name
    tokens_from tokens_of lines_of items_of number numbers names_after name_list name_lists find_in start_of kind_of
    with_entry header_with header_of fields_of part_of parts_in all_parts value_of statement statements_of
    chance_of_cell reward_of_cell scales_of start_row table_row trans_rows obs_rows repaired_cells repair repair_all
    passed_limit text_of rewards_of repaired_model meaning solo
repaired_observations = refl

-- named agents, lists by name and by count, the first list on the entry's line, fields with a `*` for one agent,
-- matrices over several lines, zeros behind a fraction, costs, a comment, rewards that no statement gives
two_agents : meaning (
    codes "agents: x y\ndiscount: 0.50\nvalues: cost\nstates: a b\nstart: b\nactions: u v\n1\nobservations: 1\np q\n"
    ++ codes "T: v 0 : a :\n0.25 0.75\nT: u * : identity\nT: 1 * : b : a : 1 # v\nO: * : * :\n0.5\n0.500\n"
    ++ codes "O: * * : b : * q : 1\nO: * * : b : * p : 0\nR: * : a :\n1 -2.5\n3 4\nR: v * : b : a : 0.25 0\n")
    ≡ named
    (record {
      states = 2;
      actions = 2 ∷ 1 ∷ [];
      observations = 1 ∷ 2 ∷ [];
      scales = record { start = 1; trans = 100; obs = 10; reward = 100; discount = 10; gain = 5 };
      start = 0 ∷ 1 ∷ [];
      trans = 100 ∷ 0 ∷ 0 ∷ 100 ∷ 25 ∷ 75 ∷ 100 ∷ 0 ∷ [];
      obs = 5 ∷ 5 ∷ 0 ∷ 10 ∷ 5 ∷ 5 ∷ 0 ∷ 10 ∷ [];
      reward = negsuc 99 ∷ pos 250 ∷ negsuc 299 ∷ negsuc 399 ∷ pos 0 ∷ pos 0 ∷ pos 0 ∷ pos 0
          ∷ negsuc 99 ∷ pos 250 ∷ negsuc 299 ∷ negsuc 399 ∷ negsuc 24 ∷ pos 0 ∷ pos 0 ∷ pos 0 ∷ [];
    })
    (record {
      agents = codes "x" ∷ codes "y" ∷ [];
      states = codes "a" ∷ codes "b" ∷ [];
      actions = (codes "u" ∷ codes "v" ∷ []) ∷ [] ∷ [];
      observations = [] ∷ (codes "p" ∷ codes "q" ∷ []) ∷ [];
    })
    0
unfolding is_decimal is_index significand numerator_tens denominator_tens decimal_of gcd_of lcm_of is_word is_name
    tokens_from tokens_of lines_of items_of number numbers names_after name_list name_lists find_in start_of kind_of
    with_entry header_with header_of fields_of part_of parts_in all_parts value_of statement statements_of
    chance_of_cell reward_of_cell scales_of start_row table_row trans_rows obs_rows repaired_cells repair repair_all
    passed_limit text_of rewards_of repaired_model meaning
two_agents = refl

-- rewards of the greatest magnitude; an exponent gives no fraction digits
greatest_rewards : meaning (
    codes "agents: 1\ndiscount: 1\nvalues: reward\nstates: 1\nstart: uniform\nactions:\n2\nobservations:\n1\nT: * : uniform\n"
    ++ codes "O: * : uniform\nR: * : 0 : 1e8\n")
    ≡ means (record solo { reward = pos 100000000 ∷ pos 100000000 ∷ [] }) 0
unfolding is_decimal is_index significand numerator_tens denominator_tens decimal_of gcd_of lcm_of is_word is_name
    tokens_from tokens_of lines_of items_of number numbers names_after name_list name_lists find_in start_of kind_of
    with_entry header_with header_of fields_of part_of parts_in all_parts value_of statement statements_of
    chance_of_cell reward_of_cell scales_of start_row table_row trans_rows obs_rows repaired_cells repair repair_all
    passed_limit text_of rewards_of repaired_model meaning solo
greatest_rewards = refl

-- where there is one state, any other Number is a row
one_chance : meaning (file (codes "reward") (codes "1") (codes "1.0") (codes "T: * : uniform\nO: * : uniform\n"))
    ≡ means solo 0
unfolding is_decimal is_index significand numerator_tens denominator_tens decimal_of gcd_of lcm_of is_word is_name
    tokens_from tokens_of lines_of items_of number numbers names_after name_list name_lists find_in start_of kind_of
    with_entry header_with header_of fields_of part_of parts_in all_parts value_of statement statements_of
    chance_of_cell reward_of_cell scales_of start_row table_row trans_rows obs_rows repaired_cells repair repair_all
    passed_limit text_of rewards_of repaired_model meaning solo
one_chance = refl

-- what is too much is taken from the first of the largest chances
shortened_start : meaning (file (codes "reward") (codes "2") (codes "0.501 0.5")
    (codes "T: * : uniform\nO: * : uniform\n"))
    ≡ means (solo_with 2 1000 2 (500 ∷ 500 ∷ []) (replicate 8 1)) 1
unfolding is_decimal is_index significand numerator_tens denominator_tens decimal_of gcd_of lcm_of is_word is_name
    tokens_from tokens_of lines_of items_of number numbers names_after name_list name_lists find_in start_of kind_of
    with_entry header_with header_of fields_of part_of parts_in all_parts value_of statement statements_of
    chance_of_cell reward_of_cell scales_of start_row table_row trans_rows obs_rows repaired_cells repair repair_all
    passed_limit text_of rewards_of repaired_model meaning solo
shortened_start = refl

-- in a joint number the first agent counts most
joint_numbers : meaning (
    codes "agents: 2\ndiscount: 1\nvalues: reward\nstates: 1\nstart: 0\nactions:\n2\n3\nobservations:\n2\n3\nT: * : identity\n"
    ++ codes "O: * : 0 : 0 2 : 1\nR: 1 0 : * : * : * : 5\nR: * 1 : 0 : 0 : * 0 : 7\n")
    ≡ named
    (record {
      states = 1;
      actions = 2 ∷ 3 ∷ [];
      observations = 2 ∷ 3 ∷ [];
      scales = record { start = 1; trans = 1; obs = 1; reward = 1; discount = 1; gain = 1 };
      start = 1 ∷ [];
      trans = replicate 6 1;
      obs = flat_map {X = ℕ} (λ a. 0 ∷ 0 ∷ 1 ∷ 0 ∷ 0 ∷ 0 ∷ []) (replicate 6 0);
      reward = replicate 6 (pos 0) ++ seven ++ replicate 6 (pos 0) ++ replicate 6 (pos 5) ++ seven
          ++ replicate 6 (pos 0);
    })
    (counts_of 2) 0
unfolding is_decimal is_index significand numerator_tens denominator_tens decimal_of gcd_of lcm_of is_word is_name
    tokens_from tokens_of lines_of items_of number numbers names_after name_list name_lists find_in start_of kind_of
    with_entry header_with header_of fields_of part_of parts_in all_parts value_of statement statements_of
    chance_of_cell reward_of_cell scales_of start_row table_row trans_rows obs_rows repaired_cells repair repair_all
    passed_limit text_of rewards_of repaired_model meaning seven
joint_numbers = refl
