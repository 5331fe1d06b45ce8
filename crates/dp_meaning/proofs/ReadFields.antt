-- What is known of the fields and the value of a statement that is read.
use Rattle.std.proofs.Common.{◌≡◌, ℕ, zero, suc, ◌<◌, ◌≤◌, Bool, true, false, cond, List, [], ◌∷◌, ◌++◌, length, map}
use Rattle.std.proofs.Common.{drop, refl, sym, ap, subst, ◌∙◌, arith}
use Rattle.std.specs.Prelude.{◌&&◌, ◌||◌, nat_lt, codes, Option, Some, None, Result}
use Rattle.std.specs.List.{flat_map}
use Rattle.std.specs.Str.{bytes_eq}
use Rattle.std.proofs.lemmas.Bool.Decides.{nat_tests}
use Rattle.std.proofs.lemmas.List.Quantifiers.{position-Some}
use Rattle.dp_base.specs.declared.decimal.Decimal.{Decimal}
use Rattle.dp_base.specs.DecimalShape.{is_index}
use Rattle.dp_base.specs.Names.{is_name}
use Rattle.dp_lexer.specs.Tokens.{tokens_of}
use Rattle.dp_spec.specs.JointNumbers.{product}
use Rattle.dp_model.specs.Names.{place_of}
use Rattle.dp_meaning.specs.declared.given_list.GivenList.{GivenList}
use Rattle.dp_meaning.specs.declared.given_list.GivenList.TheVariants.{Counted, Named}
use Rattle.dp_meaning.specs.declared.why.Fault.{Fault}
use Rattle.dp_meaning.specs.declared.why.Why.TheVariants.{Expected}
use Rattle.dp_meaning.specs.declared.statement.Table.{Table}
use Rattle.dp_meaning.specs.declared.header.Header.{Header}
use Rattle.dp_meaning.specs.declared.statement.Part.{Part}
use Rattle.dp_meaning.specs.declared.statement.Part.TheVariants.{Any, Only}
use Rattle.dp_meaning.specs.declared.statement.Value.{Value}
use Rattle.dp_meaning.specs.declared.statement.Value.TheVariants.{Uniform, Identity, Numbers}
use Rattle.dp_meaning.specs.declared.statement.Statement.{Statement}
use Rattle.dp_meaning.specs.declared.text.Text.{Text}
use Rattle.dp_meaning.specs.Faults.{◌>>=◌, fault}
use Rattle.dp_meaning.specs.Items.{Piece, Item, is_star, after_colon, pieces_of, items_of_pieces}
use Rattle.dp_meaning.specs.Numbers.{number, numbers, ended}
use Rattle.dp_meaning.specs.NameLists.{size_of, names_in, index, says, if_below, place_in, found_at, find_in}
use Rattle.dp_meaning.specs.Header.{header_of, no_entries}
use Rattle.dp_meaning.specs.Fields.{Axis, Field, fields_of, part_of, parts_in, is_one_star, field_parts, all_parts}
use Rattle.dp_meaning.specs.Statements.{axes_of, axis_size, least_fields, allows_uniform, allows_identity}
use Rattle.dp_meaning.specs.Statements.{is_number_of, value_of, unless_too_few, statement, statements_of}
use Rattle.dp_meaning.specs.Meaning.{pieces_of_tokens, unless_lines, text_of, IsSaid}
use Rattle.dp_meaning.proofs.FaultSteps.{done, ok_same, err_not_ok, bind_ok}
use Rattle.dp_meaning.proofs.Each.{Each}
use Rattle.dp_meaning.proofs.ReadStatements.{each_statement}
use Rattle.dp_meaning.proofs.ReadValues.{ended_same}

-- ---- fields

-- the list has the number that the part names
abbrev pub IsPartOf : GivenList → Part → Type 0
IsPartOf list Any = Unit {0}
IsPartOf list (Only n) = n < size_of list

-- one part for each list of the axis
abbrev pub ArePartsOf : Axis → List Part → Type 0
ArePartsOf [] [] = Unit {0}
ArePartsOf [] (part ∷ parts) = ⊥
ArePartsOf (list ∷ lists) [] = ⊥
ArePartsOf (list ∷ lists) (part ∷ parts) = IsPartOf list part × ArePartsOf lists parts

-- each field is one of an axis, in order, and the axes behind them have none
abbrev pub AreFieldsOf : List Axis → List (List Part) → Type 0
AreFieldsOf axes [] = Unit {0}
AreFieldsOf [] (parts ∷ fields) = ⊥
AreFieldsOf (axis ∷ axes) (parts ∷ fields) = ArePartsOf axis parts × AreFieldsOf axes fields

found_some : (at : ℕ) (o : Option ℕ) (n : ℕ) → found_at at o ≡ done n → o ≡ Some n
found_some at (Some k) n e = ap Some (ok_same k n e)
found_some at None n e = absurd (err_not_ok n _ e)

index_below : (size k n : ℕ) → if_below size k ≡ Some n → n < size
index_below size k n e = by (nat_lt k size) refl e
  where
    below : nat_lt k size ≡ true → k < size
    below t = grind (arith, nat_tests)

    by : (b : Bool) → nat_lt k size ≡ b → cond b (Some k) None ≡ Some n → n < size
    by true t f = let same : k ≡ n = cc in subst (λ m. m < size) same (below t)
    by false t f = cc

name_below : (list : GivenList) (text : List ℕ) (n : ℕ) → place_of (names_in list) text ≡ Some n → n < size_of list
name_below (Counted m) text n e = let h = (position-Some (bytes_eq text) [] n [] e).0 in absurd (omega arith)
name_below (Named names) text n e = (position-Some (bytes_eq text) names n [] e).0

place_below : (list : GivenList) (piece : Piece) (n : ℕ) → place_in list piece ≡ Some n → n < size_of list
place_below list piece n e = by (is_index piece.text) e
  where
    by : (b : Bool) → cond b (if_below (size_of list) (index piece)) (place_of (names_in list) piece.text) ≡ Some n
        → n < size_of list
    by true f = index_below (size_of list) (index piece) n f
    by false f = name_below list piece.text n f

found_below : (list : GivenList) (piece : Piece) (n : ℕ) → find_in list piece ≡ done n → n < size_of list
unfolding find_in
found_below list piece n e = by (is_index piece.text || is_name piece.text) e
  where
    by : (b : Bool) → cond b (found_at piece.at (place_in list piece)) (fault Expected piece.at) ≡ done n
        → n < size_of list
    by true f = place_below list piece n (found_some piece.at (place_in list piece) n f)
    by false f = absurd (err_not_ok n _ f)

part_is : (list : GivenList) (piece : Piece) (part : Part) → part_of list piece ≡ done part → IsPartOf list part
unfolding part_of
part_is list piece part e = by (is_star piece.kind) e
  where
    by : (b : Bool) → cond b (done Any) (find_in list piece >>= λ n. done (Only n)) ≡ done part → IsPartOf list part
    by true f = subst (IsPartOf list) (ok_same Any part f) tt
    by false f =
        let n = bind_ok (find_in list piece) _ part f in
        subst (IsPartOf list) (ok_same (Only n.0) part n.2) (found_below list piece n.0 n.1)

parts_are : (axis : Axis) (field : Field) (pieces : List Piece) (parts : List Part)
    → parts_in axis field pieces ≡ done parts
    → ArePartsOf axis parts
unfolding parts_in
parts_are [] field pieces parts e = subst (ArePartsOf []) (ended_same [] parts pieces e) tt
parts_are (list ∷ lists) field [] parts e = absurd (err_not_ok parts _ e)
parts_are (list ∷ lists) field (piece ∷ pieces) parts e =
    let first = bind_ok (part_of list piece) _ parts e in
    let others = bind_ok (parts_in lists field pieces) _ parts first.2 in
    subst (ArePartsOf (list ∷ lists)) (ok_same _ parts others.2)
    (part_is list piece first.0 first.1, parts_are lists field pieces others.0 others.1)

all_any : (axis : Axis) → ArePartsOf axis (map (λ _. Any) axis)
all_any [] = tt
all_any (list ∷ lists) = (tt, all_any lists)

field_is : (axis : Axis) (field : Field) (parts : List Part) → field_parts axis field ≡ done parts
    → ArePartsOf axis parts
field_is axis field parts e = by (is_one_star field.pieces) e
  where
    by : (b : Bool) → cond b (done (map (λ _. Any) axis)) (parts_in axis field field.pieces) ≡ done parts
        → ArePartsOf axis parts
    by true f = subst (ArePartsOf axis) (ok_same _ parts f) (all_any axis)
    by false f = parts_are axis field field.pieces parts f

fields_are : (axes : List Axis) (line : List Field) (fields : List (List Part)) → all_parts axes line ≡ done fields
    → AreFieldsOf axes fields
unfolding all_parts
fields_are axes [] fields e = subst (AreFieldsOf axes) (ok_same [] fields e) tt
fields_are [] (field ∷ line) fields e = absurd (err_not_ok fields _ e)
fields_are (axis ∷ axes) (field ∷ line) fields e =
    let first = bind_ok (field_parts axis field) _ fields e in
    let others = bind_ok (all_parts axes line) _ fields first.2 in
    subst (AreFieldsOf (axis ∷ axes)) (ok_same _ fields others.2)
    (field_is axis field first.0 first.1, fields_are axes line others.0 others.1)

-- ---- values

-- a value that fills the axes without a field
abbrev pub Fills : Table → List Axis → Value → Type 0
Fills table rest Uniform = allows_uniform table rest ≡ true
Fills table rest Identity = allows_identity table rest ≡ true
Fills table rest (Numbers ns) = length ns ≡ product (map axis_size rest)

numbers_count : (fits : Decimal → Bool) (next n : ℕ) (pieces : List Piece) (ns : List Decimal)
    → numbers fits next n pieces ≡ done ns
    → length ns ≡ n
unfolding numbers
numbers_count fits next zero pieces ns e = ap length (sym (ended_same [] ns pieces e))
numbers_count fits next (suc n) [] ns e = absurd (err_not_ok ns _ e)
numbers_count fits next (suc n) (piece ∷ pieces) ns e =
    let first = bind_ok (number fits piece) _ ns e in
    let others = bind_ok (numbers fits next n pieces) _ ns first.2 in
    ap length (sym (ok_same _ ns others.2)) ∙ ap suc (numbers_count fits next n pieces others.0 others.1)

value_fills : (table : Table) (rest : List Axis) (next : ℕ) (pieces : List Piece) (v : Value)
    → value_of table rest next pieces ≡ done v
    → Fills table rest v
unfolding value_of
value_fills table rest next [] v e = absurd (err_not_ok v _ e)
value_fills table rest next (piece ∷ pieces) v e =
    by (allows_uniform table rest) refl (allows_identity table rest) refl (says (codes "uniform") piece)
    (says (codes "identity") piece) e
  where
    more : Result Value Fault
    more = numbers (is_number_of table) next (product (map axis_size rest)) (piece ∷ pieces) >>= λ ns.
        done (Numbers ns)

    given : more ≡ done v → Fills table rest v
    given f =
        let w = bind_ok (numbers (is_number_of table) next (product (map axis_size rest)) (piece ∷ pieces)) _ v f in
        subst (Fills table rest) (ok_same (Numbers w.0) v w.2)
        (numbers_count (is_number_of table) next (product (map axis_size rest)) (piece ∷ pieces) w.0 w.1)

    by : (a : Bool) → allows_uniform table rest ≡ a → (b : Bool) → allows_identity table rest ≡ b → (c d : Bool)
        → cond (a && c) (ended Uniform pieces) (cond (b && d) (ended Identity pieces) more) ≡ done v
        → Fills table rest v
    by true s b t true d f = subst (Fills table rest) (ended_same Uniform v pieces f) s
    by true s true t false true f = subst (Fills table rest) (ended_same Identity v pieces f) t
    by true s true t false false f = given f
    by true s false t false d f = given f
    by false s true t c true f = subst (Fills table rest) (ended_same Identity v pieces f) t
    by false s true t c false f = given f
    by false s false t c d f = given f

-- ---- statements

-- a statement over these axes
pub record IsStatementOver (axes : List Axis) (s : Statement) : Type 0 where
  pub fields : AreFieldsOf axes s.fields
  pub least : least_fields s.table ≤ length s.fields
  pub value : Fills s.table (drop (length s.fields) axes) s.value

abbrev pub IsStatementOf : Header → Statement → Type 0
IsStatementOf header s = IsStatementOver (axes_of header s.table) s

not_too_few : (least : ℕ) (fields : List (List Part)) (ends : ℕ) (u : Unit {0})
    → unless_too_few least fields ends ≡ done u
    → least ≤ length fields
not_too_few least fields ends u e = by (nat_lt (length fields) least) refl e
  where
    by : (b : Bool) → nat_lt (length fields) least ≡ b → cond b (fault Expected ends) (done tt) ≡ done u
        → least ≤ length fields
    by true t f = absurd (err_not_ok u _ f)
    by false t f = grind (arith, nat_tests)

statement_is : (header : Header) (table : Table) (item : Item) (s : Statement) → statement header table item ≡ done s
    → IsStatementOf header s
unfolding statement
statement_is header table item s e =
    let fields = bind_ok (all_parts (axes_of header table) (fields_of (after_colon item)).fields) _ s e in
    let enough = bind_ok (unless_too_few (least_fields table) fields.0 item.first.ends) _ s fields.2 in
    let value = bind_ok (value_of table (drop (length fields.0) (axes_of header table)) item.next
    ((fields_of (after_colon item)).rest ++ flat_map pieces_of item.more)) _ s enough.2 in
    subst (IsStatementOf header) (ok_same _ s value.2) (record {
      fields = fields_are (axes_of header table) (fields_of (after_colon item)).fields fields.0 fields.1;
      least = not_too_few (least_fields table) fields.0 item.first.ends enough.0 enough.1;
      value = value_fills table (drop (length fields.0) (axes_of header table)) item.next
          ((fields_of (after_colon item)).rest ++ flat_map pieces_of item.more) value.0 value.1;
    })

-- each statement of a text that some file says is one over the axes of its table
pub said_statements : (text : Text) → IsSaid text → Each (IsStatementOf text.header) text.statements
unfolding text_of
said_statements text said =
    let bytes = said.0 in
    let pieces = bind_ok (pieces_of_tokens bytes (tokens_of bytes)) _ text said.1 in
    let none = bind_ok (unless_lines (length bytes) (items_of_pieces (length bytes) pieces.0).before) _ text
    pieces.2 in
    let header = bind_ok (header_of (length bytes) no_entries (items_of_pieces (length bytes) pieces.0).items) _ text
    none.2 in
    let statements = bind_ok (statements_of header.0.0 header.0.1) _ text header.2 in
    subst (λ t. Each (IsStatementOf t.header) t.statements) (ok_same _ text statements.2)
    (each_statement header.0.0 (IsStatementOf header.0.0)
    (statement_is header.0.0) header.0.1 statements.0 statements.1)
