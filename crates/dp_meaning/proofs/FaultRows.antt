-- Worked rows, computed: faults of a text and their places.
use Rattle.std.proofs.Common.{◌≡◌, ℕ, List, [], ◌∷◌, ◌++◌, refl}
use Rattle.std.specs.Prelude.{codes, map}
use Rattle.dp_base.specs.DecimalShape.{is_decimal, is_index}
use Rattle.dp_base.specs.Decimals.{significand, numerator_tens, denominator_tens, decimal_of}
use Rattle.dp_base.specs.Divisors.{gcd_of, lcm_of}
use Rattle.dp_base.specs.Names.{is_word, is_name}
use Rattle.dp_lexer.specs.Tokens.{tokens_from, tokens_of}
use Rattle.dp_meaning.specs.Items.{lines_of, items_of}
use Rattle.dp_meaning.specs.Numbers.{number, numbers}
use Rattle.dp_meaning.specs.NameLists.{names_after, name_list, name_lists, find_in}
use Rattle.dp_meaning.specs.Entries.{start_of}
use Rattle.dp_meaning.specs.Header.{kind_of, with_entry, header_with, header_of}
use Rattle.dp_meaning.specs.Fields.{fields_of, part_of, parts_in, all_parts}
use Rattle.dp_meaning.specs.Statements.{value_of, statement, statements_of}
use Rattle.dp_meaning.specs.Cells.{chance_of_cell, reward_of_cell}
use Rattle.dp_meaning.specs.Scales.{scales_of}
use Rattle.dp_meaning.specs.Rows.{start_row, table_row, trans_rows, obs_rows, repaired_cells, repair, repair_all}
use Rattle.dp_meaning.specs.Limits.{passed_limit}
use Rattle.dp_meaning.specs.declared.why.Why.{Why}
use Rattle.dp_meaning.specs.declared.why.Why.TheVariants.{BadByte, Expected, UnknownName, DoubleName, Number, RowSum}
use Rattle.dp_meaning.specs.declared.why.Why.TheVariants.{MissingRow, Header}
use Rattle.dp_meaning.specs.Meaning.{Meaning, FaultAt, text_of, rewards_of, repaired_model, meaning}

-- a text and its fault
pub record Faulty : Type 0 where
  pub text : List ℕ
  pub is : Meaning

-- the fault by its line, its column and what is wrong
abbrev faulty : List ℕ → ℕ → ℕ → Why → Faulty
faulty text line column why = record { text = text; is = FaultAt (record { line = line; column = column }) why }

meanings : List Faulty → List Meaning
meanings rows = map (λ row. meaning row.text) rows

faults : List Faulty → List Meaning
faults rows = map (λ row. row.is) rows

-- one agent, one state, two actions and one observation
abbrev one_state : List ℕ
one_state = codes "agents: 1\ndiscount: 1\nvalues: reward\nstates: 1\nstart: uniform\nactions:\n2\nobservations:\n1\n"

-- ---- what stands before the entries and between them
items_rows : List Faulty
items_rows =
    -- a bad byte, before the faults that stand before it
    faulty (codes "a\nagents, 1\n") 2 7 BadByte
    -- tokens before the first item
    ∷ faulty (codes "a\nagents: 1\n") 1 1 Expected
    -- an item that is neither an entry nor a statement
    ∷ faulty (codes "agent: 1\n") 1 1 Expected
    -- a carriage return ends no line
    ∷ faulty (codes "agents: 1\rdiscount: 1\n") 1 11 Expected
    ∷ []

items_fail : meanings items_rows ≡ faults items_rows
unfolding is_decimal is_index significand numerator_tens denominator_tens decimal_of gcd_of lcm_of is_word is_name
    tokens_from tokens_of lines_of items_of number numbers names_after name_list name_lists find_in start_of kind_of
    with_entry header_with header_of fields_of part_of parts_in all_parts value_of statement statements_of
    chance_of_cell reward_of_cell scales_of start_row table_row trans_rows obs_rows repaired_cells repair repair_all
    passed_limit text_of rewards_of repaired_model meaning meanings faults items_rows
items_fail = refl

-- ---- the header
header_rows : List Faulty
header_rows =
    -- nothing
    faulty (codes "") 1 1 Header
    -- an entry that comes twice
    ∷ faulty (codes "agents: 1\nagents: 1\n") 2 1 Header
    ∷ faulty (codes "discount: 1\ndiscount: 1\n") 2 1 Header
    ∷ faulty (codes "values: cost\nvalues: cost\n") 2 1 Header
    ∷ faulty (codes "states: 1\nstates: 1\n") 2 1 Header
    ∷ faulty (codes "states: 1\nstart: 0\nstart: 0\n") 3 1 Header
    ∷ faulty (codes "agents: 1\nactions: 1\nactions: 1\n") 3 1 Header
    ∷ faulty (codes "agents: 1\nobservations: 1\nobservations: 1\n") 3 1 Header
    -- `start` before `states`
    ∷ faulty (codes "agents: 1\nstart: 0\n") 2 1 Header
    -- `actions` before `agents`
    ∷ faulty (codes "actions: 1\n") 1 1 Header
    -- a statement before the last entry
    ∷ faulty (codes "agents: 1\nT: * : uniform\n") 2 1 Header
    -- no statement, and an entry is missing
    ∷ faulty (codes "agents: 1\n") 2 1 Header
    -- an entry behind the statements
    ∷ faulty (one_state ++ codes "T: * : uniform\nO: * : uniform\ndiscount: 1\n") 12 1 Header
    -- at one place the header is tried last
    ∷ faulty (codes "agents: 1\ndiscount:\nagents: 1\n") 3 1 Expected
    ∷ []

header_fail : meanings header_rows ≡ faults header_rows
unfolding is_decimal is_index significand numerator_tens denominator_tens decimal_of gcd_of lcm_of is_word is_name
    tokens_from tokens_of lines_of items_of number numbers names_after name_list name_lists find_in start_of kind_of
    with_entry header_with header_of fields_of part_of parts_in all_parts value_of statement statements_of
    chance_of_cell reward_of_cell scales_of start_row table_row trans_rows obs_rows repaired_cells repair repair_all
    passed_limit text_of rewards_of repaired_model meaning meanings faults header_rows
header_fail = refl

-- ---- the values of the entries
entries_rows : List Faulty
entries_rows =
    -- an entry without a value, at the end of the text
    faulty (codes "agents: 1\ndiscount: 1\nvalues: reward\nstates:") 4 8 Expected
    -- a name twice in a list
    ∷ faulty (codes "agents: 1\ndiscount: 1\nvalues: reward\nstates: a a") 4 11 DoubleName
    -- `uniform` is no name
    ∷ faulty (codes "states: a uniform\n") 1 11 Expected
    -- a count of 0
    ∷ faulty (codes "agents: 0\n") 1 9 Number
    -- a count past 65,536
    ∷ faulty (codes "agents: 65537\n") 1 9 Number
    -- the greatest count
    ∷ faulty (codes "agents: 65536\nagent: 1\n") 2 1 Expected
    -- a count with a sign is no index
    ∷ faulty (codes "agents: +1\n") 1 9 Expected
    -- more behind a count
    ∷ faulty (codes "agents: 1 2\n") 1 11 Expected
    -- a discount above 1
    ∷ faulty (codes "discount: 1.5\n") 1 11 Number
    -- a discount below 0
    ∷ faulty (codes "discount: -0.5\n") 1 11 Number
    -- a line of actions is missing, at the next item
    ∷ faulty (codes "agents: 2\nactions:\n1\ndiscount: 1\n") 4 1 Expected
    -- a line of actions too many
    ∷ faulty (codes "agents: 1\nactions:\n1\n1\n") 4 1 Expected
    -- values that are neither rewards nor costs
    ∷ faulty (codes "values: rewards\n") 1 9 Expected
    -- a start that is no state
    ∷ faulty (codes "states: 2\nstart: 2\n") 2 8 UnknownName
    -- a start by name, where the states are a count
    ∷ faulty (codes "states: 2\nstart: a\n") 2 8 UnknownName
    -- a start row that is too short
    ∷ faulty (codes "states: 2\nstart: 0.5\nagents: 1\n") 3 1 Expected
    -- a start row that is too long
    ∷ faulty (codes "states: 1\nstart: 1 0\n") 2 10 Expected
    -- a start is never `identity`
    ∷ faulty (codes "states: 2\nstart: identity\n") 2 8 Expected
    ∷ []

entries_fail : meanings entries_rows ≡ faults entries_rows
unfolding is_decimal is_index significand numerator_tens denominator_tens decimal_of gcd_of lcm_of is_word is_name
    tokens_from tokens_of lines_of items_of number numbers names_after name_list name_lists find_in start_of kind_of
    with_entry header_with header_of fields_of part_of parts_in all_parts value_of statement statements_of
    chance_of_cell reward_of_cell scales_of start_row table_row trans_rows obs_rows repaired_cells repair repair_all
    passed_limit text_of rewards_of repaired_model meaning meanings faults entries_rows
entries_fail = refl

-- ---- the statements, behind the header of `one_state`
statements_rows : List Faulty
statements_rows =
    -- a Colon that closes a field too early
    faulty (one_state ++ codes "T: : uniform\n") 10 4 Expected
    -- a part too many
    ∷ faulty (one_state ++ codes "T: * * : uniform\n") 10 6 Expected
    -- `uniform` in a field
    ∷ faulty (one_state ++ codes "T: uniform : uniform\n") 10 4 Expected
    -- an index that is in no list
    ∷ faulty (one_state ++ codes "T: 7 : uniform\n") 10 4 UnknownName
    -- a name, where the list is a count
    ∷ faulty (one_state ++ codes "T: go : uniform\n") 10 4 UnknownName
    -- the first Colon that is too many, and nothing before it that stands behind the last allowed
    ∷ faulty (one_state ++ codes "T: * : 0 : 0 : 7 7 : x : 1\n") 10 20 Expected
    -- a fault in a field, before a Colon that is too many
    ∷ faulty (one_state ++ codes "T: * : 1 : 0 : 1 : 1\n") 10 8 UnknownName
    -- the line end, where there are too few Colons
    ∷ faulty (one_state ++ codes "T: *\nO: * : uniform\n") 10 5 Expected
    -- a fault in a field, before the line end
    ∷ faulty (one_state ++ codes "R: 7 : 1\n") 10 4 UnknownName
    -- the end of the text, where the line has no line end
    ∷ faulty (one_state ++ codes "R: * : 1") 10 9 Expected
    -- the line end comes before the value
    ∷ faulty (one_state ++ codes "R: 0 : x # why\n1\n") 10 15 Expected
    -- a value is missing, at the next item
    ∷ faulty (one_state ++ codes "T: * :\nO: * : uniform\n") 11 1 Expected
    -- a value is missing, at the end of the text
    ∷ faulty (one_state ++ codes "T: * : uniform\nR: 0 : * : * : * :") 11 19 Expected
    -- a Number too many
    ∷ faulty (one_state ++ codes "R: 0 : * : * : 1 1\n") 10 18 Expected
    -- `identity` is of transitions alone
    ∷ faulty (one_state ++ codes "O: * : identity\n") 10 8 Expected
    -- `identity` is a matrix
    ∷ faulty (one_state ++ codes "T: * : 0 : identity\n") 10 12 Expected
    -- a line within a matrix whose second token is a Colon is an item
    ∷ faulty (one_state ++ codes "T: * :\n1 : uniform\n") 11 1 Expected
    -- a chance above 1
    ∷ faulty (one_state ++ codes "T: * : 1.5\n") 10 8 Number
    -- a chance of 19 fraction digits
    ∷ faulty (one_state ++ codes "T: * : 0.1234567890123456789\n") 10 8 Number
    -- a reward past the greatest magnitude
    ∷ faulty (one_state ++ codes "T: * : uniform\nO: * : uniform\nR: * : 0 : -100000000.5\n") 12 12 Number
    -- a reward of 10 fraction digits
    ∷ faulty (one_state ++ codes "T: * : uniform\nO: * : uniform\nR: * : 0 : 0.0123456789\n") 12 12 Number
    ∷ []

statements_fail : meanings statements_rows ≡ faults statements_rows
unfolding is_decimal is_index significand numerator_tens denominator_tens decimal_of gcd_of lcm_of is_word is_name
    tokens_from tokens_of lines_of items_of number numbers names_after name_list name_lists find_in start_of kind_of
    with_entry header_with header_of fields_of part_of parts_in all_parts value_of statement statements_of
    chance_of_cell reward_of_cell scales_of start_row table_row trans_rows obs_rows repaired_cells repair repair_all
    passed_limit text_of rewards_of repaired_model meaning meanings faults statements_rows
statements_fail = refl

-- ---- the rows, behind the header of `one_state`
rows_rows : List Faulty
rows_rows =
    -- no statement covers a row of transitions
    faulty (one_state ++ codes "O: * : uniform\n") 11 1 MissingRow
    -- a missing row of transitions comes before a wrong sum of observations
    ∷ faulty (one_state ++ codes "T: 0 : uniform\nO: * : 0.5\n") 12 1 MissingRow
    -- a wrong sum stands at the last statement that covers a cell of the row
    ∷ faulty (one_state
    ++ codes "T: * : uniform\nO: 0 : uniform\nO: 1 : 0 : 0.5\nO: 1 : 0 : 0 : 0.25\nR: * : 0 : 1\n") 13 1 RowSum
    ∷ []

rows_fail : meanings rows_rows ≡ faults rows_rows
unfolding is_decimal is_index significand numerator_tens denominator_tens decimal_of gcd_of lcm_of is_word is_name
    tokens_from tokens_of lines_of items_of number numbers names_after name_list name_lists find_in start_of kind_of
    with_entry header_with header_of fields_of part_of parts_in all_parts value_of statement statements_of
    chance_of_cell reward_of_cell scales_of start_row table_row trans_rows obs_rows repaired_cells repair repair_all
    passed_limit text_of rewards_of repaired_model meaning meanings faults rows_rows
rows_fail = refl

-- ---- the row of the start

started : List ℕ → List ℕ
started start =
    codes "agents: 1\ndiscount: 1\nvalues: reward\n" ++ start
    ++ codes "\nactions:\n2\nobservations:\n1\nT: * : uniform\nO: * : uniform\n"

start_rows : List Faulty
start_rows =
    -- a start row whose sum is too far from 1
    faulty (started (codes "states: 3\nstart: 0.332 0.332 0.332")) 5 8 RowSum
    -- one whose sum misses 1 by a little more than a thousandth
    ∷ faulty (started (codes "states: 2\nstart: 0.4989999 0.5")) 5 8 RowSum
    -- `00` is a row, where there is one state
    ∷ faulty (started (codes "states: 1\nstart: 00")) 5 8 RowSum
    ∷ []

start_fail : meanings start_rows ≡ faults start_rows
unfolding is_decimal is_index significand numerator_tens denominator_tens decimal_of gcd_of lcm_of is_word is_name
    tokens_from tokens_of lines_of items_of number numbers names_after name_list name_lists find_in start_of kind_of
    with_entry header_with header_of fields_of part_of parts_in all_parts value_of statement statements_of
    chance_of_cell reward_of_cell scales_of start_row table_row trans_rows obs_rows repaired_cells repair repair_all
    passed_limit text_of rewards_of repaired_model meaning meanings faults started start_rows
start_fail = refl
