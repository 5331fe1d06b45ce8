-- The cells of a table as its statements are written one after the other.
use Rattle.std.proofs.Common.{◌≡◌, ℕ, ◌+◌, ◌%◌, ◌<◌, ◌≤◌, Bool, true, false, cond, List, [], ◌∷◌, ◌++◌}
use Rattle.std.proofs.Common.{length, get_or, map, take, drop, refl, sym, ap, subst, ◌∙◌, arith}
use Rattle.std.specs.Prelude.{replicate}
use Rattle.std.specs.List.{range_with_len}
use Rattle.std.proofs.lemmas.List.{append-nil, get_or-replicate, take_more, length-replicate}
use Rattle.std.proofs.lemmas.List.Elements.{filter-append}
use Rattle.std.proofs.lemmas.List.FromFn.{fill_by_all}
use Rattle.dp_spec.specs.JointNumbers.{product, parts_of}
use Rattle.dp_meaning.specs.declared.given_list.GivenList.{GivenList}
use Rattle.dp_meaning.specs.declared.statement.Table.{Table}
use Rattle.dp_meaning.specs.declared.statement.Table.TheVariants.{Trans, Obs, Reward}
use Rattle.dp_meaning.specs.declared.statement.Statement.{Statement}
use Rattle.dp_meaning.specs.declared.text.Text.{Text}
use Rattle.dp_meaning.specs.NameLists.{size_of}
use Rattle.dp_meaning.specs.Fields.{Axis}
use Rattle.dp_meaning.specs.Statements.{axes_of, axis_size}
use Rattle.dp_meaning.specs.Cells.{Cell, covers, is_same_table, statements_for}
use Rattle.dp_meaning.specs.Meaning.{IsSaid}
use Rattle.dp_meaning.proofs.Each.{Each, all_from_each}
use Rattle.dp_meaning.proofs.ModelLaws.{product_above}
use Rattle.dp_meaning.proofs.ReadFields.{AreFieldsOf, IsStatementOver, Fills, said_statements}
use Rattle.dp_meaning.proofs.ReadStatements.{AreNumbersOf}
use Rattle.dp_meaning.proofs.SaidTexts.{said_is, some_states, some_joint_actions, some_joint_observations}
use Rattle.dp_tables.specs.Writing.{ArePartsWithin, AreWritten, is_covered, list_sizes, list_parts}
use Rattle.dp_tables.proofs.FlatCells.{product_of_lists, covered_by_lists, parts_within, width_of_parts}

-- ---- the axes of a table

pub one_list : (list : GivenList) → axis_size (list ∷ []) ≡ size_of list
one_list list = omega arith

-- a table has some cells
pub some_cells : (text : Text) (table : Table) → IsSaid text → 0 < product (map axis_size (axes_of text.header table))
some_cells text table said = product_above axis_size (axes_of text.header table) (sizes table)
  where
    states : 1 ≤ axis_size (text.header.states ∷ [])
    states = let some = some_states text said in omega (arith, one_list text.header.states)

    sizes : (table : Table) → Each (λ axis. 1 ≤ axis_size axis) (axes_of text.header table)
    sizes Trans = (some_joint_actions text said, (states, (states, tt)))
    sizes Obs = (some_joint_actions text said, (states, (some_joint_observations text said, tt)))
    sizes Reward = (some_joint_actions text said, (states, (states, (some_joint_observations text said, tt))))

-- ---- the statements of a table

same_table : (a b : Table) → is_same_table a b ≡ true → b ≡ a
same_table Trans Trans e = refl
same_table Trans Obs e = absurd (cc)
same_table Trans Reward e = absurd (cc)
same_table Obs Trans e = absurd (cc)
same_table Obs Obs e = refl
same_table Obs Reward e = absurd (cc)
same_table Reward Trans e = absurd (cc)
same_table Reward Obs e = absurd (cc)
same_table Reward Reward e = refl

-- a statement of this table
pub record IsStatementFor (table : Table) (axes : List Axis) (s : Statement) : Type 0 where
  pub over : IsStatementOver axes s
  pub fills : Fills table (drop (length s.fields) axes) s.value
  pub numbers : AreNumbersOf table s.value

pub statement_for : (text : Text) (table : Table) (items : List Statement) (i : ℕ) (s : Statement) → IsSaid text
    → items ≡ text.statements → i < length items → s ≡ get_or items i s → is_same_table table s.table ≡ true
    → IsStatementFor table (axes_of text.header table) s
statement_for text table items i s said are h is same =
    let within : i < length text.statements = subst (λ ss. i < length ss) are h in
    let there : s ≡ get_or text.statements i s = is ∙ ap (λ ss. get_or ss i s) are in
    let t = same_table table s.table same in
    let over = subst (λ l. IsStatementOver (axes_of text.header l.table) l) (sym there)
    (all_from_each _ text.statements (said_statements text said) i s within) in
    let numbers = subst (λ l. AreNumbersOf l.table l.value) (sym there)
    (all_from_each _ text.statements (said_is text said).statements i s within) in
    let here : IsStatementOver (axes_of text.header table) s =
    subst (λ b. IsStatementOver (axes_of text.header b) s) t over in
    record {
      over = here;
      fills = subst (λ b. Fills b (drop (length s.fields) (axes_of text.header table)) s.value) t here.value;
      numbers = subst (λ b. AreNumbersOf b s.value) t numbers;
    }

-- what is known where a statement of the table is written
pub record IsWritable (axes : List Axis) (sizes : List ℕ) (s : Statement) : Type 0 where
  pub some : 0 < product sizes
  pub parts : ArePartsWithin sizes (list_parts s.fields)
  pub width : product (drop (length (list_parts s.fields)) sizes)
      ≡ product (map axis_size (drop (length s.fields) axes))

pub writable : (text : Text) (table : Table) (s : Statement) (sizes : List ℕ) → IsSaid text
    → IsStatementFor table (axes_of text.header table) s → sizes ≡ list_sizes (axes_of text.header table)
    → IsWritable (axes_of text.header table) sizes s
writable text table s sizes said is e =
    let axes = axes_of text.header table in
    subst (λ ns. IsWritable axes ns s) (sym e) (record {
      some = subst (λ n. 0 < n) (sym (product_of_lists axes)) (some_cells text table said);
      parts = parts_within axes s.fields is.over.fields;
      width = width_of_parts axes s.fields is.over.fields;
    })

-- one more statement ..
with_next : (table : Table) (items : List Statement) (i : ℕ) (s : Statement) → i < length items → s ≡ get_or items i s
    → statements_for table (take (i + 1) items)
    ≡ statements_for table (take i items) ++ cond (is_same_table table s.table) (s ∷ []) []
with_next table items i s h is =
    ap (statements_for table) (take_more items i s h ∙ ap (λ l. take i items ++ l ∷ []) (sym is))
    ∙ filter-append (λ l. is_same_table table l.table) (take i items) (s ∷ [])

-- .. which is one of the table's ..
taken : (table : Table) (items : List Statement) (i : ℕ) (s : Statement) → i < length items → s ≡ get_or items i s
    → is_same_table table s.table ≡ true
    → statements_for table (take (i + 1) items) ≡ statements_for table (take i items) ++ s ∷ []
taken table items i s h is same =
    with_next table items i s h is ∙ ap (λ b. statements_for table (take i items) ++ cond b (s ∷ []) []) same

-- .. or is none, and changes nothing
pub passed_over : (P : List Statement → Type 0) (table : Table) (items : List Statement) (i : ℕ) (s : Statement)
    → i < length items → s ≡ get_or items i s → is_same_table table s.table ≡ false
    → P (statements_for table (take i items)) → P (statements_for table (take (i + 1) items))
passed_over P table items i s h is other = subst P (sym (
    with_next table items i s h is ∙ ap (λ b. statements_for table (take i items) ++ cond b (s ∷ []) []) other
    ∙ append-nil (statements_for table (take i items))))

-- ---- the cells

-- the cells have these values
pub record AreCells (T : Type 0) (none : T) (axes : List Axis) (value : Cell → T) (cells : List T) : Type 0 where
  pub count : length cells ≡ product (list_sizes axes)
  pub cell : (k : ℕ) → k < product (list_sizes axes) → get_or cells k none ≡ value (parts_of (map axis_size axes) k)

-- before any statement
pub no_cells : (T : Type 0) (none : T) (axes : List Axis) (value : Cell → T) (cells : List T) (n : ℕ)
    → cells ≡ replicate n none
    → n ≡ product (list_sizes axes) → ((cell : Cell) → value cell ≡ none) → AreCells T none axes value cells
no_cells T none axes value cells n e long empty = record {
  count = ap length e ∙ length-replicate n none ∙ long;
  cell = λ k h. ap (λ ns. get_or ns k none) e ∙ get_or-replicate n k none none (subst (λ m. k < m) (sym long) h)
      ∙ sym (empty (parts_of (map axis_size axes) k));
}

-- a statement of the table is written: the cells that it covers have what it gives them, and the others what they had
pub cells_taken : (T : Type 0) (none : T) (axes : List Axis) (value : List Statement → Cell → T) (given : Cell → T)
    (table : Table) (items : List Statement) (i : ℕ) (s : Statement)
    (block cells new old : List T) (sizes : List ℕ)
    → AreFieldsOf axes s.fields
    → ((k : ℕ) → k < product (map axis_size axes)
    → get_or block (k % length block) none ≡ given (parts_of (map axis_size axes) k))
    → ((before : List Statement) (cell : Cell) → covers axes s.fields cell ≡ true
    → value (before ++ s ∷ []) cell ≡ given cell)
    → ((before : List Statement) (cell : Cell) → covers axes s.fields cell ≡ false
    → value (before ++ s ∷ []) cell ≡ value (before ++ []) cell)
    → i < length items → s ≡ get_or items i s → is_same_table table s.table ≡ true
    → AreCells T none axes (value (statements_for table (take i items))) cells
    → sizes ≡ list_sizes axes → old ≡ cells → length new ≡ length old
    → AreWritten sizes (list_parts s.fields) block old new
    → AreCells T none axes (value (statements_for table (take (i + 1) items))) new
cells_taken T none axes value given table items i s block cells new old sizes are gives covered others h at same
    so_far e f long written =
    subst (λ ss. AreCells T none axes (value ss) new) (sym (taken table items i s h at same))
    (record { count = long ∙ ap length f ∙ so_far.count; cell = cell })
  where
    before : List Statement
    before = statements_for table (take i items)

    cell : (k : ℕ) → k < product (list_sizes axes)
        → get_or new k none ≡ value (before ++ s ∷ []) (parts_of (map axis_size axes) k)
    cell k below =
        written k none (subst (λ n. k < n) (sym (ap length f ∙ so_far.count)) below)
        ∙ (λ j. cond (is_covered (e j) (list_parts s.fields) k) (get_or block (k % length block) none)
        (get_or (f j) k none))
        ∙ ap (λ b. cond b (get_or block (k % length block) none) (get_or cells k none))
        (covered_by_lists axes s.fields k are below)
        ∙ by (covers axes s.fields here) refl
      where
        here : Cell
        here = parts_of (map axis_size axes) k

        by : (b : Bool) → covers axes s.fields here ≡ b
            → cond b (get_or block (k % length block) none) (get_or cells k none) ≡ value (before ++ s ∷ []) here
        by true t = gives k (subst (λ n. k < n) (product_of_lists axes) below) ∙ sym (covered before here t)
        by false t = so_far.cell k below
            ∙ sym (others before here t ∙ ap (λ ss. value ss here) (append-nil before))

-- the list of all cells
pub all_cells : (T : Type 0) (none : T) (axes : List Axis) (value : Cell → T) (cells : List T) (sizes : List ℕ)
    (count : ℕ)
    → AreCells T none axes value cells → map axis_size axes ≡ sizes → product sizes ≡ count
    → cells ≡ map (λ k. value (parts_of sizes k)) (range_with_len 0 count)
all_cells T none axes value cells sizes count are e counted =
    fill_by_all (λ k. value (parts_of sizes k)) cells count none (are.count ∙ counts)
    (λ k h. are.cell k (subst (λ n. k < n) (sym counts) h) ∙ ap (λ ns. value (parts_of ns k)) e)
  where
    counts : product (list_sizes axes) ≡ count
    counts = product_of_lists axes ∙ ap product e ∙ counted
