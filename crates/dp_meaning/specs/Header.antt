-- The header: each of the seven entries exactly once, before the first statement.
use Rattle.std.specs.Prelude.{ℕ, if◌then◌else◌, List, [], ◌∷◌, codes, Option, Some, None, Result, Ok}
use Rattle.std.specs.Str.{bytes_eq}
use Rattle.dp_meaning.specs.declared.why.Fault.{Fault}
use Rattle.dp_meaning.specs.declared.header.Entry.{Entry}
use Rattle.dp_meaning.specs.declared.header.Entry.TheVariants.{Agents, Discount, Values, States, StartEntry, Actions}
use Rattle.dp_meaning.specs.declared.header.Entry.TheVariants.{Observations}
use Rattle.dp_meaning.specs.declared.statement.Table.TheVariants.{Trans, Obs, Reward}
use Rattle.dp_meaning.specs.declared.statement.ItemKind.{ItemKind}
use Rattle.dp_meaning.specs.declared.statement.ItemKind.TheVariants.{HeaderEntry, StatementOf, NoItem}
use Rattle.dp_meaning.specs.declared.header.Entries.{Entries}
use Rattle.dp_meaning.specs.declared.header.Header.{Header}
use Rattle.dp_meaning.specs.declared.why.Why.TheVariants as why
use Rattle.dp_meaning.specs.Faults.{◌>>=◌, fault}
use Rattle.dp_meaning.specs.Items.{Piece, Item, item_at, value_pieces}
use Rattle.dp_meaning.specs.NameLists.{size_of, name_list, name_lists}
use Rattle.dp_meaning.specs.Entries.{discount_of, is_cost, agent_lines, start_of}

-- ---- what an item is, by its first token

-- what an item is, by the text of its first token
abbrev pub item_words : List (List ℕ × ItemKind)
item_words =
    (codes "agents", HeaderEntry Agents) ∷ (codes "discount", HeaderEntry Discount) ∷ (
      codes "values",
      HeaderEntry Values,
    )
    ∷ (codes "states", HeaderEntry States) ∷ (codes "start", HeaderEntry StartEntry) ∷ (
      codes "actions",
      HeaderEntry Actions,
    )
    ∷ (codes "observations", HeaderEntry Observations)
    ∷ (codes "T", StatementOf Trans) ∷ (codes "O", StatementOf Obs) ∷ (codes "R", StatementOf Reward) ∷ []

-- what an item is by the first such word that is its text, and no item without one
abbrev pub kind_in : List (List ℕ × ItemKind) → List ℕ → ItemKind
kind_in [] text = NoItem
kind_in (word ∷ words) text = if bytes_eq word.0 text then word.1 else kind_in words text

-- what an item is, by the pieces of its first line
abbrev pub kind_of_pieces : List Piece → ItemKind
kind_of_pieces [] = NoItem
kind_of_pieces (piece ∷ _) = kind_in item_words piece.text

-- what an item is
unfoldable pub kind_of : Item → ItemKind
kind_of item = kind_of_pieces item.first.pieces

-- ---- the entries

-- no entry has come yet
abbrev pub no_entries : Entries
no_entries = record {
  agents = None;
  discount = None;
  cost = None;
  states = None;
  start = None;
  actions =
      None;
  observations = None;
}

-- this entry has not come yet
abbrev pub unless_come : {A : Type 0} → ℕ → Option A → Result (Unit {0}) Fault
unless_come at None = Ok tt
unless_come at (Some x) = fault why.Header at

-- this entry has come
abbrev pub entry : {A : Type 0} → ℕ → Option A → Result A Fault
entry at (Some x) = Ok x
entry at None = fault why.Header at

-- one more entry, `start` after `states`, and `actions` and `observations` after `agents`
unfoldable pub with_entry : Entry → Item → Entries → Result Entries Fault
with_entry Agents item entries = do
  _ ← unless_come (item_at item) entries.agents
  agents ← name_list item.next (value_pieces item)
  Ok (record entries { agents = Some agents })
with_entry Discount item entries = do
  _ ← unless_come (item_at item) entries.discount
  discount ← discount_of item.next (value_pieces item)
  Ok (record entries { discount = Some discount })
with_entry Values item entries = do
  _ ← unless_come (item_at item) entries.cost
  cost ← is_cost item.next (value_pieces item)
  Ok (record entries { cost = Some cost })
with_entry States item entries = do
  _ ← unless_come (item_at item) entries.states
  states ← name_list item.next (value_pieces item)
  Ok (record entries { states = Some states })
with_entry StartEntry item entries = do
  _ ← unless_come (item_at item) entries.start
  states ← entry (item_at item) entries.states
  start ← start_of states item.next (value_pieces item)
  Ok (record entries { start = Some start })
with_entry Actions item entries = do
  _ ← unless_come (item_at item) entries.actions
  agents ← entry (item_at item) entries.agents
  actions ← name_lists item.next (size_of agents) (agent_lines item)
  Ok (record entries { actions = Some actions })
with_entry Observations item entries = do
  _ ← unless_come (item_at item) entries.observations
  agents ← entry (item_at item) entries.agents
  observations ← name_lists item.next (size_of agents) (agent_lines item)
  Ok (record entries { observations = Some observations })

-- all seven have come, or one is missing at this place
unfoldable pub header_with : ℕ → Entries → Result Header Fault
header_with at entries = do
  agents ← entry at entries.agents
  discount ← entry at entries.discount
  cost ← entry at entries.cost
  states ← entry at entries.states
  start ← entry at entries.start
  actions ← entry at entries.actions
  observations ← entry at entries.observations
  Ok (record {
    agents = agents;
    discount = discount;
    cost = cost;
    states = states;
    start = start;
    actions = actions;
    observations = observations;
  })

-- the header, and the items from the first statement on, of a text that ends at `end`
unfoldable pub header_of : ℕ → Entries → List Item → Result (Header × List Item) Fault
header_of end entries [] = header_with end entries >>= λ header. Ok (header, [])
header_of end entries (item ∷ items) = elim (kind_of item) [
  | HeaderEntry e ↦ with_entry e item entries >>= λ more. header_of end more items
  | StatementOf table ↦ header_with (item_at item) entries >>= λ header. Ok (header, item ∷ items)
  | NoItem ↦ fault why.Expected (item_at item)
]
