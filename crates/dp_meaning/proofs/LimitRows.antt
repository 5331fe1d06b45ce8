-- Worked rows, computed: limits that a text passes, and counts.
use Rattle.std.proofs.Common.{◌≡◌, ℕ, List, [], ◌∷◌, pos, refl}
use Rattle.std.specs.Prelude.{codes, map, replicate, Some, None, false}
use Rattle.dp_base.specs.DecimalShape.{is_decimal, is_index}
use Rattle.dp_base.specs.Decimals.{significand, numerator_tens, denominator_tens, decimal_of}
use Rattle.dp_base.specs.Divisors.{gcd_of, lcm_of}
use Rattle.dp_base.specs.Names.{is_word, is_name}
use Rattle.dp_lexer.specs.Tokens.{tokens_from, tokens_of}
use Rattle.dp_model.specs.declared.limit.Limit.{Limit}
use Rattle.dp_model.specs.declared.limit.Limit.TheVariants as limits
use Rattle.dp_meaning.specs.declared.header.Start.TheVariants.{AnyState}
use Rattle.dp_meaning.specs.declared.statement.Table.TheVariants.{Reward}
use Rattle.dp_meaning.specs.declared.given_list.GivenList.TheVariants.{Counted}
use Rattle.dp_meaning.specs.declared.statement.Value.TheVariants.{Numbers}
use Rattle.dp_meaning.specs.declared.text.Text.{Text}
use Rattle.dp_meaning.specs.Items.{lines_of, items_of}
use Rattle.dp_meaning.specs.Numbers.{number, numbers}
use Rattle.dp_meaning.specs.NameLists.{names_after, name_list, name_lists, find_in}
use Rattle.dp_meaning.specs.Entries.{start_of}
use Rattle.dp_meaning.specs.Header.{kind_of, with_entry, header_with, header_of}
use Rattle.dp_meaning.specs.Fields.{fields_of, part_of, parts_in, all_parts}
use Rattle.dp_meaning.specs.Statements.{value_of, statement, statements_of}
use Rattle.dp_meaning.specs.Cells.{chance_of_cell, reward_of_cell}
use Rattle.dp_meaning.specs.Scales.{scales_of}
use Rattle.dp_meaning.specs.Rows.{start_row, table_row, trans_rows, obs_rows, repaired_cells, repair, repair_all}
use Rattle.dp_meaning.specs.Limits.{passed_limit}
use Rattle.dp_meaning.specs.declared.why.Why.TheVariants as why
use Rattle.dp_meaning.specs.Meaning.{Meaning, FaultAt, Passes, text_of, rewards_of, repaired_model, meaning}

-- a text and the limit that it passes
pub record Large : Type 0 where
  pub text : List ℕ
  pub is : Meaning

-- the limit and the count
abbrev large : List ℕ → Limit → ℕ → Large
large text what count = record { text = text; is = Passes (record { what = what; count = count }) }

meanings : List Large → List Meaning
meanings rows = map (λ row. meaning row.text) rows

limits_passed : List Large → List Meaning
limits_passed rows = map (λ row. row.is) rows

limit_rows : List Large
limit_rows =
    -- seven agents
    large (codes "agents: 7\ndiscount: 1\nvalues: reward\nstates: 1\nstart: 0\nactions:\n1\n1\n1\n1\n1\n1\n1\nobservations:\n1\n1\n1\n1\n1\n1\n1\n") limits.Agents 7
    -- 257 states
    ∷ large (codes "agents: 1\ndiscount: 1\nvalues: reward\nstates: 257\nstart: 0\nactions: 1\nobservations: 1\n")
    limits.States 257
    -- the first product of actions that passes
    ∷ large (codes
    "agents: 3\ndiscount: 1\nvalues: reward\nstates: 1\nstart: 0\nactions:\n20\n20\n20\nobservations:\n1\n1\n1\n")
    limits.JointActions 400
    -- joint observations
    ∷ large (codes
    "agents: 2\ndiscount: 1\nvalues: reward\nstates: 1\nstart: 0\nactions:\n1\n1\nobservations:\n1\n257\n")
    limits.JointObservations 257
    -- chances of next states
    ∷ large (codes "agents: 1\ndiscount: 1\nvalues: reward\nstates: 256\nstart: 0\nactions: 65\nobservations: 1\n")
    limits.TransCells 4259840
    -- chances of joint observations
    ∷ large (codes "agents: 1\ndiscount: 1\nvalues: reward\nstates: 65\nstart: 0\nactions: 256\nobservations: 256\n")
    limits.ObsCells 4259840
    -- rewards
    ∷ large (codes "agents: 1\ndiscount: 1\nvalues: reward\nstates: 128\nstart: 0\nactions: 255\nobservations: 128\n")
    limits.RewardCells 534773760
    -- the scale of the transitions
    ∷ large (codes
    "agents: 1\ndiscount: 1\nvalues: reward\nstates: 7\nstart: 0\nactions: 1\nobservations: 1\nT: * : uniform\nT: 0 : 0 : 0 : 0.000000000000000001\n") limits.Scale 7000000000000000000
    -- the scale of the observations
    ∷ large (codes
    "agents: 1\ndiscount: 1\nvalues: reward\nstates: 1\nstart: uniform\nactions: 1\nobservations: 7\nT: * : 0.000000000000000001\nO: * : uniform\nO: * : * : * : 0.000000000000000001\n") limits.Scale 7000000000000000000
    -- the first of several limits
    ∷ large (codes
    "agents: 7\ndiscount: 1\nvalues: reward\nstates: 300\nstart: 0\nactions:\n1\n1\n1\n1\n1\n1\n1\nobservations:\n1\n1\n1\n1\n1\n1\n1\n") limits.Agents 7
    -- a limit before a missing row
    ∷ large (codes
    "agents: 1\ndiscount: 1\nvalues: reward\nstates: 257\nstart: uniform\nactions: 1\nobservations: 1\n")
    limits.States 257
    ∷ []

limits_are_passed : meanings limit_rows ≡ limits_passed limit_rows
unfolding is_decimal is_index significand numerator_tens denominator_tens decimal_of gcd_of lcm_of is_word is_name
    tokens_from tokens_of lines_of items_of number numbers names_after name_list name_lists find_in start_of kind_of
    with_entry header_with header_of fields_of part_of parts_in all_parts value_of statement statements_of
    chance_of_cell reward_of_cell scales_of start_row table_row trans_rows obs_rows repaired_cells repair repair_all
    passed_limit text_of rewards_of repaired_model meaning meanings limits_passed limit_rows
limits_are_passed = refl

-- ---- reward statements, of one agent, one state, one action and one observation

abbrev text_with : ℕ → Text
text_with count = record {
  header = record {
    agents = Counted 1;
    discount = record { units = pos 1; digits = 0 };
    cost = false;
    states = Counted 1;
    start = AnyState;
    actions = Counted 1 ∷ [];
    observations = Counted 1 ∷ [];
  };
  statements = replicate count (record { at = 0; table = Reward; fields = []; value = Numbers [] });
}

most_reward_lines : passed_limit (text_with 65536) ≡ None
unfolding passed_limit scales_of lcm_of gcd_of
most_reward_lines = refl

too_many_reward_lines : passed_limit (text_with 65537) ≡ Some (record { what = limits.RewardLines; count = 65537 })
unfolding passed_limit scales_of lcm_of gcd_of
too_many_reward_lines = refl

-- a fault in the text comes before a limit
text_before_limits : meaning
    (codes "agents: 7\ndiscount: 1\nvalues: reward\nstates: 1\nstart: 0\nactions:\n1\n1\n1\n1\n1\n1\n1\nobservations:\n1\n1\n1\n1\n1\n1\n1\nT: * : 2\n")
    ≡ FaultAt (record { line = 22; column = 8 }) why.Number
unfolding is_decimal is_index significand numerator_tens denominator_tens decimal_of gcd_of lcm_of is_word is_name
    tokens_from tokens_of lines_of items_of number numbers names_after name_list name_lists find_in start_of kind_of
    with_entry header_with header_of fields_of part_of parts_in all_parts value_of statement statements_of
    chance_of_cell reward_of_cell scales_of start_row table_row trans_rows obs_rows repaired_cells repair repair_all
    passed_limit text_of rewards_of repaired_model meaning
text_before_limits = refl
