-- The statements that are written of a model are read as they are said.
use Rattle.std.proofs.Common.{◌≡◌, ℕ, ◌<◌, ◌≤◌, ◌^◌, false, cond, List, [], ◌∷◌}
use Rattle.std.proofs.Common.{◌++◌, length, map, drop, refl, sym, ap, ◌∙◌, arith, subst, append_assoc}
use Rattle.std.specs.Prelude.{nat_lt}
use Rattle.std.specs.Fmt.{decimal}
use Rattle.std.specs.List.{flat_map}
use Rattle.std.proofs.lemmas.Bool.{le-ltb}
use Rattle.std.proofs.lemmas.List.{map-append}
use Rattle.dp_spec.specs.JointNumbers.{parts_of}
use Rattle.dp_spec.specs.Model.{Model, joint_actions}
use Rattle.dp_spec.proofs.JointNumberLaws.{AreBelow, parts_below}
use Rattle.dp_meaning.specs.declared.header.Header.{Header}
use Rattle.dp_meaning.specs.declared.statement.ItemKind.TheVariants.{StatementOf}
use Rattle.dp_meaning.specs.declared.statement.Part.{Part}
use Rattle.dp_meaning.specs.declared.statement.Part.TheVariants.{Only}
use Rattle.dp_meaning.specs.declared.statement.Statement.{Statement}
use Rattle.dp_meaning.specs.declared.statement.Table.{Table}
use Rattle.dp_meaning.specs.declared.statement.Value.{Value}
use Rattle.dp_meaning.specs.declared.why.Why.TheVariants as why
use Rattle.dp_meaning.specs.Faults.{fault}
use Rattle.dp_meaning.specs.Items.{Item, Piece, after_colon, item_at, pieces_of}
use Rattle.dp_meaning.specs.NameLists.{size_of}
use Rattle.dp_meaning.specs.Header.{item_words, kind_in, kind_of}
use Rattle.dp_meaning.specs.Fields.{Axis, all_parts, fields_of}
use Rattle.dp_meaning.specs.Statements.{axes_of, least_fields, statement, statement_of_kind}
use Rattle.dp_meaning.specs.Statements.{unless_too_few, value_of}
use Rattle.dp_meaning.proofs.Each.{Each, each_from}
use Rattle.dp_meaning.proofs.FaultSteps.{done}
use Rattle.dp_writer.specs.WrittenLines.{Words}
use Rattle.dp_writer.specs.WrittenText.{Said}
use Rattle.dp_writer.specs.WrittenText.{said_fields, said_of}
use Rattle.dp_writer.proofs.FieldSymbols.{FieldsRead, SymbolFields, field_ends, field_read, fields_symbols}
use Rattle.dp_writer.proofs.FieldSymbols.{indices_read}
use Rattle.dp_writer.proofs.FieldSymbols.{of_fields, run_in_field, runs_in_field}
use Rattle.dp_writer.proofs.FieldSymbols.{symbol_fields}
use Rattle.dp_writer.proofs.HeaderRead.{IsStatementItem, kind_is}
use Rattle.dp_writer.proofs.ReadPieces.{step_done}
use Rattle.dp_writer.proofs.SaidHeaders.{HasSizes}
use Rattle.dp_writer.proofs.StatementItems.{parts_within}
use Rattle.dp_writer.proofs.Symbols.{Symbol, colon_symbol, run_symbol, symbol_of}
use Rattle.dp_writer.proofs.SymbolItems.{SymbolItem, after_colon_symbols, item_symbols, more_symbols}
use Rattle.dp_writer.proofs.WrittenItems.{field_symbols}
use Rattle.dp_writer.proofs.WrittenItems.{statement_item}

-- ---- a statement

-- each item of these symbols is read as a statement that says this
pub record SaysItem (header : Header) (symbols : SymbolItem) (said : Said) : Type 0 where
  pub kind : IsStatementItem symbols
  pub read : (item : Item) → item_symbols item ≡ symbols
      → (s : Statement) × (statement_of_kind header item (kind_of item) ≡ done s) × (said_of s ≡ said)

-- what is known of what stands behind the fields of a joint action and a state
pub record IsRest (header : Header) (table : Table) (axes : List Axis) (rest : List Symbol) (lines : List Words)
    (parts : List (List Part)) (value : Value) : Type 0 where
  pub axes_are : axes_of header table ≡ header.actions ∷ (header.states ∷ []) ∷ axes
  pub least : least_fields table ≤ 2
  pub fields : List (List Symbol)
  pub left : List Symbol
  pub fields_are : symbol_fields rest ≡ record { fields = fields; rest = left }
  pub read : FieldsRead axes fields parts
  pub value_read : (next : ℕ) (pieces : List Piece)
      → map symbol_of pieces ≡ left ++ flat_map (λ l. l) (map (map run_symbol) lines)
      → value_of table (drop (length parts) axes) next pieces ≡ done value

-- the fields of a joint action and a state, and those behind them
fields_front : (parts : List ℕ) (s : ℕ) (rest : List Symbol)
    → symbol_fields (field_symbols parts s ++ rest)
    ≡ record {
      fields = map run_symbol (map decimal parts) ∷ (run_symbol (decimal s) ∷ []) ∷ (symbol_fields rest).fields;
      rest = (symbol_fields rest).rest;
    }
fields_front parts s rest =
    ap symbol_fields (append_assoc (map run_symbol (map decimal parts))
    (colon_symbol ∷ run_symbol (decimal s) ∷ colon_symbol ∷ []) rest)
    ∙ field_ends (map run_symbol (map decimal parts)) (run_symbol (decimal s) ∷ colon_symbol ∷ rest)
    (runs_in_field (map decimal parts))
    ∙ ap (λ (f : SymbolFields). record { fields = map run_symbol (map decimal parts) ∷ f.fields; rest = f.rest })
    (field_ends (run_symbol (decimal s) ∷ []) rest (run_in_field (decimal s), tt))

module _ (header : Header) (m : Model) (sizes : HasSizes m header) (a s : ℕ) (action : a < joint_actions m)
    (state : s < m.states) (few_actions : joint_actions m ≤ 256) (few_states : m.states ≤ 256) where
  small_parts : Each (λ p. p < 10 ^ 64) (parts_of m.actions a)
  small_parts = each_from (λ p. p ≤ a) (λ p. p < 10 ^ 64) (λ p h. omega (arith, h, action, few_actions))
      (parts_of m.actions a) (parts_within m.actions a)

  parts_fit : AreBelow (map size_of header.actions) (parts_of m.actions a)
  unfolding joint_actions
  parts_fit = subst (λ ns. AreBelow ns (parts_of m.actions a)) (sym sizes.actions) (parts_below m.actions a action)

  -- the fields are read
  said_read : (axes : List Axis) (symbols : List (List Symbol)) (parts : List (List Part))
      → FieldsRead axes symbols parts
      → FieldsRead (header.actions ∷ (header.states ∷ []) ∷ axes)
      (map run_symbol (map decimal (parts_of m.actions a)) ∷ (run_symbol (decimal s) ∷ []) ∷ symbols)
      (said_fields m a s ++ parts)
  said_read axes symbols parts others =
      field_read header.actions ((header.states ∷ []) ∷ axes) (map run_symbol (map decimal (parts_of m.actions a)))
      ((run_symbol (decimal s) ∷ []) ∷ symbols) (map (λ n. Only n) (parts_of m.actions a)) ((Only s ∷ []) ∷ parts)
      (λ field e. indices_read header.actions field (parts_of m.actions a) parts_fit small_parts e)
      (field_read (header.states ∷ []) axes (run_symbol (decimal s) ∷ []) symbols (Only s ∷ []) parts
      (λ field e. indices_read (header.states ∷ []) field (s ∷ []) (omega (arith, state, sizes.states), tt)
      (omega (arith, state, few_states), tt) e)
      others)

  -- an item with these fields
  pub item_says : (word : List ℕ) (table : Table) (axes : List Axis) (rest : List Symbol) (lines : List Words)
      (parts : List (List Part)) (value : Value) → kind_in item_words word ≡ StatementOf table
      → IsRest header table axes rest lines parts value
      → SaysItem header (statement_item m word a s rest lines)
      (record { table = table; fields = said_fields m a s ++ parts; value = value })
  unfolding statement
  item_says word table axes rest lines parts value kind is = record {
    kind = record {
      symbol = run_symbol word;
      more = colon_symbol ∷ (field_symbols (parts_of m.actions a) s ++ rest);
      table = table;
      first = refl;
      kind = kind;
    };
    read = λ item e.
        let line = fields_of (after_colon item) in
        let pieces = line.rest ++ flat_map pieces_of item.more in
        let fields = said_fields m a s ++ parts in
        let of_symbols : of_fields line ≡ record {
          fields = map run_symbol (map decimal (parts_of m.actions a)) ∷ (run_symbol (decimal s) ∷ []) ∷ is.fields;
          rest = is.left;
        }
        = fields_symbols (after_colon item)
        ∙ ap symbol_fields (after_colon_symbols item ∙ ap (λ (i : SymbolItem). drop 2 i.first) e)
        ∙ fields_front (parts_of m.actions a) s rest
        ∙ ap (λ (f : SymbolFields). record {
          fields = map run_symbol (map decimal (parts_of m.actions a)) ∷ (run_symbol (decimal s) ∷ []) ∷ f.fields;
          rest = f.rest;
        }) is.fields_are in
        let all : all_parts (axes_of header table) line.fields ≡ done fields
        = ap (λ l. all_parts l line.fields) is.axes_are
        ∙ (said_read axes is.fields parts is.read).read line.fields (ap (λ (f : SymbolFields). f.fields) of_symbols)
        in
        let enough : nat_lt (length fields) (least_fields table) ≡ false
        = le-ltb (length fields) (least_fields table) (omega (arith, is.least)) in
        let symbols : map symbol_of pieces ≡ is.left ++ flat_map (λ l. l) (map (map run_symbol) lines)
        = map-append symbol_of line.rest (flat_map pieces_of item.more)
        ∙ (λ i. (of_symbols i).rest ++ more_symbols item.more i)
        ∙ ap (λ (k : SymbolItem). is.left ++ flat_map (λ l. l) k.more) e in
        let given : value_of table (drop (length fields) (axes_of header table)) item.next pieces ≡ done value
        = ap (λ l. value_of table (drop (length fields) l) item.next pieces) is.axes_are
        ∙ is.value_read item.next pieces symbols in
        let said : Statement = record { at = item_at item; table = table; fields = fields; value = value } in
        let what : kind_of item ≡ StatementOf table
        = kind_is item (run_symbol word) (colon_symbol ∷ (field_symbols (parts_of m.actions a) s ++ rest))
        (ap (λ (i : SymbolItem). i.first) e) ∙ kind in (
          said,
          ap (statement_of_kind header item) what
              ∙ step_done (all_parts (axes_of header table) line.fields) _ fields all
              ∙ step_done (unless_too_few (least_fields table) fields item.first.ends) _ tt
              (ap (λ b. cond b (fault why.Expected item.first.ends) (done tt)) enough)
              ∙ step_done (value_of table (drop (length fields) (axes_of header table)) item.next pieces) _ value
              given,
          refl,
        );
  }
