-- The header of the text that is written of a model is read as it is said.
use Rattle.std.proofs.Common.{◌≡◌, ℕ, false, pos, List, [], ◌∷◌, ◌++◌, length, map, refl, sym}
use Rattle.std.proofs.Common.{Some, None, ap, ◌∙◌, arith}
use Rattle.std.specs.Prelude.{codes, slice_index}
use Rattle.dp_base.specs.declared.decimal.Decimal.{Decimal}
use Rattle.dp_model.specs.Names.{names_of}
use Rattle.dp_model.specs.Tables.{NamedModel}
use Rattle.dp_meaning.specs.declared.given_list.GivenList.{GivenList}
use Rattle.dp_meaning.specs.declared.header.Entry.{Entry}
use Rattle.dp_meaning.specs.declared.header.Entry.TheVariants.{Agents, Discount, Values, States, StartEntry, Actions}
use Rattle.dp_meaning.specs.declared.header.Entry.TheVariants.{Observations}
use Rattle.dp_meaning.specs.declared.header.Entries.{Entries}
use Rattle.dp_meaning.specs.declared.header.Header.{Header}
use Rattle.dp_meaning.specs.declared.statement.ItemKind.TheVariants.{HeaderEntry, StatementOf}
use Rattle.dp_meaning.specs.declared.statement.Table.{Table}
use Rattle.dp_meaning.specs.Items.{Piece, Item, item_at, value_pieces}
use Rattle.dp_meaning.specs.NameLists.{name_list, name_lists, size_of}
use Rattle.dp_meaning.specs.Entries.{discount_of, is_cost, start_of}
use Rattle.dp_meaning.specs.Entries.{agent_lines as entry_lines}
use Rattle.dp_meaning.specs.Header.{entry, header_of, header_with, item_words, kind_in, kind_of, kind_of_pieces}
use Rattle.dp_meaning.specs.Header.{no_entries}
use Rattle.dp_meaning.specs.Header.{with_entry}
use Rattle.dp_meaning.proofs.Each.{Each}
use Rattle.dp_meaning.proofs.FaultSteps.{done}
use Rattle.dp_writer.specs.ModelRows.{start_row}
use Rattle.dp_writer.specs.WrittenModel.{agent_lines, chance_word, list_words, row_words}
use Rattle.dp_writer.specs.WrittenNumbers.{decimal_over}
use Rattle.dp_writer.specs.WrittenText.{given_list, given_lists, said_header, said_start}
use Rattle.dp_writer.proofs.EntryValues.{below_value, discount_read, lists_read, next_value, own_value, rewards_read}
use Rattle.dp_writer.proofs.EntryValues.{start_read}
use Rattle.dp_writer.proofs.ReadPieces.{list_read, size_given, step_done}
use Rattle.dp_writer.proofs.RowCells.{length_each}
use Rattle.dp_writer.proofs.Symbols.{Symbol, symbol_of}
use Rattle.dp_writer.proofs.SymbolItems.{SymbolItem, item_symbols}
use Rattle.dp_writer.proofs.WrittenFacts.{IsWritableModel, actions_list, agents_list, discount_number}
use Rattle.dp_writer.proofs.WrittenFacts.{observations_list}
use Rattle.dp_writer.proofs.WrittenFacts.{start_written, states_list}
use Rattle.dp_writer.proofs.WrittenItems.{header_items, word_item}
use Rattle.dp_spec.specs.Model.{start_at}

-- ---- items by their symbols

-- a list of which a first thing and others are made
pub record Taken {X Y : Type 0} (f : X → Y) (xs : List X) (y : Y) (ys : List Y) : Type 0 where
  pub first : X
  pub others : List X
  pub is : xs ≡ first ∷ others
  pub first_is : f first ≡ y
  pub others_are : map f others ≡ ys

pub taken : {X Y : Type 0} (f : X → Y) (xs : List X) (y : Y) (ys : List Y) → map f xs ≡ y ∷ ys → Taken f xs y ys
taken f [] y ys e = absurd cc
taken f (x ∷ xs) y ys e = record { first = x; others = xs; is = refl; first_is = cc; others_are = cc }

-- what an item is, by its first symbol
pub kind_is : (item : Item) (symbol : Symbol) (more : List Symbol) → (item_symbols item).first ≡ symbol ∷ more
    → kind_of item ≡ kind_in item_words symbol.text
unfolding kind_of
kind_is item symbol more e = by item.first.pieces e
  where
    by : (pieces : List Piece) → map symbol_of pieces ≡ symbol ∷ more
        → kind_of_pieces pieces ≡ kind_in item_words symbol.text
    by [] f = absurd cc
    by (piece ∷ pieces) f =
        let same : symbol_of piece ≡ symbol = cc in ap (λ (s : Symbol). kind_in item_words s.text) same

-- an item that begins with a statement's word
pub record IsStatementItem (item : SymbolItem) : Type 0 where
  pub symbol : Symbol
  pub more : List Symbol
  pub table : Table
  pub first : item.first ≡ symbol ∷ more
  pub kind : kind_in item_words symbol.text ≡ StatementOf table

-- ---- one entry after the other

entry_read : (end : ℕ) (e : Entry) (item : Item) (items : List Item) (entries more : Entries)
    → kind_of item ≡ HeaderEntry e → with_entry e item entries ≡ done more
    → header_of end entries (item ∷ items) ≡ header_of end more items
unfolding header_of
entry_read end e item items entries more kind is =
    rw (kind, header_of) (step_done (with_entry e item entries) (λ next. header_of end next items) more is)

-- the entry of an item
entry_kind : (item : Item) (e : Entry) (symbols : SymbolItem) (symbol : Symbol) (more : List Symbol)
    → item_symbols item ≡ symbols → symbols.first ≡ symbol ∷ more → kind_in item_words symbol.text ≡ HeaderEntry e
    → kind_of item ≡ HeaderEntry e
entry_kind item e symbols symbol more same first kind =
    kind_is item symbol more (ap (λ (i : SymbolItem). i.first) same ∙ first) ∙ kind

-- behind the entries the statements begin
header_done : (end : ℕ) (entries : Entries) (header : Header) (rest : List Item) (its : List SymbolItem)
    → ((at : ℕ) → header_with at entries ≡ done header) → map item_symbols rest ≡ its → Each IsStatementItem its
    → header_of end entries rest ≡ done (header, rest)
unfolding header_of
header_done end entries header [] its all e each =
    step_done (header_with end entries) (λ h. done (h, [])) header (all end)
header_done end entries header (item ∷ rest) [] all e each = absurd cc
header_done end entries header (item ∷ rest) (it ∷ its) all e each =
    let same : item_symbols item ≡ it = cc in
    let kind = kind_is item each.0.symbol each.0.more (ap (λ (i : SymbolItem). i.first) same ∙ each.0.first)
    ∙ each.0.kind in
    rw (kind, header_of)
    (step_done (header_with (item_at item) entries) (λ h. done (h, item ∷ rest)) header (all (item_at item)))

module _ (m : NamedModel) (can : IsWritableModel m) where
  -- the values of the entries
  abbrev agents : GivenList
  agents = given_list m.names.agents (length m.model.actions)

  abbrev states : GivenList
  states = given_list m.names.states m.model.states

  abbrev discount : Decimal
  discount = decimal_over 18 (pos m.model.scales.gain) m.model.scales.discount

  agents_entry : (item : Item) (entries : Entries) → entries.agents ≡ None
      → item_symbols item ≡ word_item (codes "agents") (list_words m.names.agents (length m.model.actions)) []
      → with_entry Agents item entries ≡ done (record entries { agents = Some agents })
  unfolding with_entry
  agents_entry item entries none e = rw none
      (step_done (name_list item.next (value_pieces item)) (λ l. done (record entries { agents = Some l })) agents
      (list_read m.names.agents (length m.model.actions) item.next (value_pieces item) (agents_list m can)
      (own_value item (codes "agents") (list_words m.names.agents (length m.model.actions)) e)))

  discount_entry : (item : Item) (entries : Entries) → entries.discount ≡ None
      → item_symbols item
      ≡ word_item (codes "discount") (chance_word m.model.scales.discount m.model.scales.gain ∷ []) []
      → with_entry Discount item entries ≡ done (record entries { discount = Some discount })
  unfolding with_entry
  discount_entry item entries none e = rw none
      (step_done (discount_of item.next (value_pieces item)) (λ d. done (record entries { discount = Some d }))
      discount
      (discount_read item.next (value_pieces item) (chance_word m.model.scales.discount m.model.scales.gain) discount
      (own_value item (codes "discount") (chance_word m.model.scales.discount m.model.scales.gain ∷ []) e)
      (discount_number m can)))

  values_entry : (item : Item) (entries : Entries) → entries.cost ≡ None
      → item_symbols item ≡ word_item (codes "values") (codes "reward" ∷ []) []
      → with_entry Values item entries ≡ done (record entries { cost = Some false })
  unfolding with_entry
  values_entry item entries none e = rw none
      (step_done (is_cost item.next (value_pieces item)) (λ c. done (record entries { cost = Some c })) false
      (rewards_read item.next (value_pieces item) (own_value item (codes "values") (codes "reward" ∷ []) e)))

  states_entry : (item : Item) (entries : Entries) → entries.states ≡ None
      → item_symbols item ≡ word_item (codes "states") (list_words m.names.states m.model.states) []
      → with_entry States item entries ≡ done (record entries { states = Some states })
  unfolding with_entry
  states_entry item entries none e = rw none
      (step_done (name_list item.next (value_pieces item)) (λ l. done (record entries { states = Some l })) states
      (list_read m.names.states m.model.states item.next (value_pieces item) (states_list m can)
      (own_value item (codes "states") (list_words m.names.states m.model.states) e)))

  start_entry : (item : Item) (entries : Entries) → entries.start ≡ None → entries.states ≡ Some states
      → item_symbols item
      ≡ word_item (codes "start") [] (row_words m.model.scales.start (start_row m.model) ∷ [])
      → (at : ℕ)
      × (with_entry StartEntry item entries ≡ done (record entries { start = Some (said_start at m.model) }))
  unfolding with_entry
  start_entry item entries none some e =
      let words = row_words m.model.scales.start (start_row m.model) in
      let read = start_read states item.next m.model.scales.start (start_row m.model) (value_pieces item)
      (start_written m can)
      (size_given m.names.states m.model.states (states_list m can)
      ∙ sym (length_each (start_at m.model) m.model.states))
      (next_value item (codes "start") words e) in (
        read.0,
        rw none
            (step_done (entry (item_at item) entries.states) _ states (ap (entry (item_at item)) some)
            ∙ step_done (start_of states item.next (value_pieces item))
            (λ s. done (record entries { start = Some s }))
            (said_start read.0 m.model) read.1),
      )

  actions_entry : (item : Item) (entries : Entries) → entries.actions ≡ None → entries.agents ≡ Some agents
      → item_symbols item ≡ word_item (codes "actions") [] (agent_lines m.names.actions m.model.actions)
      → with_entry Actions item entries
      ≡ done (record entries { actions = Some (given_lists m.names.actions m.model.actions) })
  unfolding with_entry
  actions_entry item entries none some e = rw none
      (step_done (entry (item_at item) entries.agents) _ agents (ap (entry (item_at item)) some)
      ∙ step_done (name_lists item.next (size_of agents) (entry_lines item))
      (λ l. done (record entries { actions = Some l })) (given_lists m.names.actions m.model.actions)
      (ap (λ n. name_lists item.next n (entry_lines item)) (size_given m.names.agents (length m.model.actions)
      (agents_list m can))
      ∙ lists_read (names_of m.names.actions) (slice_index m.model.actions) item.next 0 (length m.model.actions)
      (entry_lines item) (λ i below. actions_list m can i (omega (arith, below)))
      (below_value item (codes "actions") (agent_lines m.names.actions m.model.actions) e)))

  observations_entry : (item : Item) (entries : Entries) → entries.observations ≡ None → entries.agents ≡ Some agents
      → item_symbols item
      ≡ word_item (codes "observations") [] (agent_lines m.names.observations m.model.observations)
      → with_entry Observations item entries
      ≡ done (record entries { observations = Some (given_lists m.names.observations m.model.observations) })
  unfolding with_entry
  observations_entry item entries none some e = rw none
      (step_done (entry (item_at item) entries.agents) _ agents (ap (entry (item_at item)) some)
      ∙ step_done (name_lists item.next (size_of agents) (entry_lines item))
      (λ l. done (record entries { observations = Some l })) (given_lists m.names.observations m.model.observations)
      (ap (λ n. name_lists item.next n (entry_lines item)) (size_given m.names.agents (length m.model.actions)
      (agents_list m can) ∙ sym can.named.model.sizes.alike)
      ∙ lists_read (names_of m.names.observations) (slice_index m.model.observations) item.next 0
      (length m.model.observations) (entry_lines item) (λ i below. observations_list m can i (omega (arith, below)))
      (below_value item (codes "observations") (agent_lines m.names.observations m.model.observations) e)))

  -- the entries when all have come
  abbrev all_entries : ℕ → Entries
  all_entries at = record {
    agents = Some agents;
    discount = Some discount;
    cost = Some false;
    states = Some states;
    start = Some (said_start at m.model);
    actions = Some (given_lists m.names.actions m.model.actions);
    observations = Some (given_lists m.names.observations m.model.observations);
  }

  all_come : (place at : ℕ) → header_with place (all_entries at) ≡ done (said_header at m)
  unfolding header_with said_header
  all_come place at = refl

  -- the header, and the items of the statements
  pub header_said : (end : ℕ) (items : List Item) (its : List SymbolItem) → Each IsStatementItem its
      → map item_symbols items ≡ header_items m ++ its
      → (at : ℕ) × (rest : List Item) × (header_of end no_entries items ≡ done (said_header at m, rest))
      × (map item_symbols rest ≡ its)
  header_said end items its each e =
      let t1 = taken item_symbols items _ _ e in
      let t2 = taken item_symbols t1.others _ _ t1.others_are in
      let t3 = taken item_symbols t2.others _ _ t2.others_are in
      let t4 = taken item_symbols t3.others _ _ t3.others_are in
      let t5 = taken item_symbols t4.others _ _ t4.others_are in
      let t6 = taken item_symbols t5.others _ _ t5.others_are in
      let t7 = taken item_symbols t6.others _ _ t6.others_are in
      let e1 : Entries = record no_entries { agents = Some agents } in
      let e2 : Entries = record e1 { discount = Some discount } in
      let e3 : Entries = record e2 { cost = Some false } in
      let e4 : Entries = record e3 { states = Some states } in
      let start = start_entry t5.first e4 refl refl t5.first_is in
      let e5 : Entries = record e4 { start = Some (said_start start.0 m.model) } in
      let e6 : Entries = record e5 { actions = Some (given_lists m.names.actions m.model.actions) } in
      let e7 : Entries = all_entries start.0 in (
        start.0,
        t7.others,
        ap (header_of end no_entries) t1.is
            ∙ entry_read end Agents t1.first t1.others no_entries e1
            (entry_kind t1.first Agents _ _ _ t1.first_is refl refl)
            (agents_entry t1.first no_entries refl t1.first_is)
            ∙ ap (header_of end e1) t2.is
            ∙ entry_read end Discount t2.first t2.others e1 e2
            (entry_kind t2.first Discount _ _ _ t2.first_is refl refl) (discount_entry t2.first e1 refl t2.first_is)
            ∙ ap (header_of end e2) t3.is
            ∙ entry_read end Values t3.first t3.others e2 e3
            (entry_kind t3.first Values _ _ _ t3.first_is refl refl) (values_entry t3.first e2 refl t3.first_is)
            ∙ ap (header_of end e3) t4.is
            ∙ entry_read end States t4.first t4.others e3 e4
            (entry_kind t4.first States _ _ _ t4.first_is refl refl) (states_entry t4.first e3 refl t4.first_is)
            ∙ ap (header_of end e4) t5.is
            ∙ entry_read end StartEntry t5.first t5.others e4 e5
            (entry_kind t5.first StartEntry _ _ _ t5.first_is refl refl) start.1
            ∙ ap (header_of end e5) t6.is
            ∙ entry_read end Actions t6.first t6.others e5 e6
            (entry_kind t6.first Actions _ _ _ t6.first_is refl refl)
            (actions_entry t6.first e5 refl refl t6.first_is)
            ∙ ap (header_of end e6) t7.is
            ∙ entry_read end Observations t7.first t7.others e6 e7
            (entry_kind t7.first Observations _ _ _ t7.first_is refl refl)
            (observations_entry t7.first e6 refl refl t7.first_is)
            ∙ header_done end e7 (said_header start.0 m) t7.others its (λ place. all_come place start.0) t7.others_are
            each,
        t7.others_are,
      )
