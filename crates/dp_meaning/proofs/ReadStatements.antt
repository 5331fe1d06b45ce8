-- What is known of statements that are read.
use Rattle.std.proofs.Common.{◌≡◌, ℕ, Bool, true, false, cond, List, [], ◌∷◌, ◌++◌, length, map, drop, subst}
use Rattle.std.specs.Prelude.{◌&&◌, codes}
use Rattle.std.specs.List.{flat_map}
use Rattle.dp_base.specs.declared.decimal.Decimal.{Decimal}
use Rattle.dp_spec.specs.JointNumbers.{product}
use Rattle.dp_meaning.specs.declared.statement.Table.{Table}
use Rattle.dp_meaning.specs.declared.statement.ItemKind.{ItemKind}
use Rattle.dp_meaning.specs.declared.statement.ItemKind.TheVariants.{HeaderEntry, StatementOf, NoItem}
use Rattle.dp_meaning.specs.declared.header.Header.{Header}
use Rattle.dp_meaning.specs.declared.statement.Value.{Value}
use Rattle.dp_meaning.specs.declared.statement.Value.TheVariants.{Uniform, Identity, Numbers}
use Rattle.dp_meaning.specs.declared.statement.Statement.{Statement}
use Rattle.dp_meaning.specs.Faults.{◌>>=◌}
use Rattle.dp_meaning.specs.Items.{Piece, Item, after_colon, pieces_of}
use Rattle.dp_meaning.specs.Numbers.{numbers, ended}
use Rattle.dp_meaning.specs.NameLists.{says}
use Rattle.dp_meaning.specs.Header.{kind_of}
use Rattle.dp_meaning.specs.Fields.{Axis, fields_of, all_parts}
use Rattle.dp_meaning.specs.Statements.{axes_of, axis_size, least_fields, allows_uniform, allows_identity}
use Rattle.dp_meaning.specs.Statements.{is_number_of, value_of, unless_too_few, statement, statement_of_kind}
use Rattle.dp_meaning.specs.Statements.{statements_of}
use Rattle.dp_meaning.proofs.FaultSteps.{done, ok_same, err_not_ok, bind_ok}
use Rattle.dp_meaning.proofs.Each.{Each}
use Rattle.dp_meaning.proofs.ReadValues.{ended_same, numbers_fit}

-- the Numbers of a value
abbrev pub numbers_in : Value → List Decimal
numbers_in (Numbers ns) = ns
numbers_in _ = []

-- each number of the value is one of the table's
abbrev pub AreNumbersOf : Table → Value → Type 0
AreNumbersOf table value = Each (λ d. is_number_of table d ≡ true) (numbers_in value)

value_is : (table : Table) (rest : List Axis) (next : ℕ) (pieces : List Piece) (v : Value)
    → value_of table rest next pieces ≡ done v
    → AreNumbersOf table v
unfolding value_of
value_is table rest next [] v e = absurd (err_not_ok v _ e)
value_is table rest next (piece ∷ pieces) v e =
    by (allows_uniform table rest && says (codes "uniform") piece)
    (allows_identity table rest && says (codes "identity") piece) e
  where
    by : (b c : Bool) → cond b (ended Uniform pieces) (cond c (ended Identity pieces)
        (numbers (is_number_of table) next (product (map axis_size rest)) (piece ∷ pieces) >>= λ ns.
        done (Numbers ns))) ≡ done v
        → AreNumbersOf table v
    by true c f = subst (AreNumbersOf table) (ended_same Uniform v pieces f) tt
    by false true f = subst (AreNumbersOf table) (ended_same Identity v pieces f) tt
    by false false f =
        let w = bind_ok (numbers (is_number_of table) next (product (map axis_size rest)) (piece ∷ pieces)) _ v f in
        subst (AreNumbersOf table) (ok_same (Numbers w.0) v w.2)
        (numbers_fit (is_number_of table) next (product (map axis_size rest)) (piece ∷ pieces) w.0 w.1)

-- each number of a statement is one of its table's
abbrev pub IsStatement : Statement → Type 0
IsStatement s = AreNumbersOf s.table s.value

statement_is : (header : Header) (table : Table) (item : Item) (s : Statement) → statement header table item ≡ done s
    → IsStatement s
unfolding statement
statement_is header table item s e =
    let fields = bind_ok (all_parts (axes_of header table) (fields_of (after_colon item)).fields) _ s e in
    let enough = bind_ok (unless_too_few (least_fields table) fields.0 item.first.ends) _ s fields.2 in
    let value = bind_ok (value_of table (drop (length fields.0) (axes_of header table)) item.next
    ((fields_of (after_colon item)).rest ++ flat_map pieces_of item.more)) _ s enough.2 in
    subst IsStatement (ok_same _ s value.2)
    (value_is table (drop (length fields.0) (axes_of header table)) item.next
    ((fields_of (after_colon item)).rest ++ flat_map pieces_of item.more) value.0 value.1)

-- ---- each statement that is read

-- what holds of each statement of an item holds of each statement of the items
module _ (header : Header) (P : Statement → Type 0) (holds : (table : Table) (item : Item) (s : Statement)
    → statement header table item ≡ done s → P s) where
  of_kind : (item : Item) (kind : ItemKind) (s : Statement) → statement_of_kind header item kind ≡ done s → P s
  of_kind item (HeaderEntry k) s e = absurd (err_not_ok s _ e)
  of_kind item (StatementOf table) s e = holds table item s e
  of_kind item NoItem s e = absurd (err_not_ok s _ e)

  pub each_statement : (items : List Item) (ss : List Statement) → statements_of header items ≡ done ss → Each P ss
  unfolding statements_of
  each_statement [] ss e = subst (Each P) (ok_same [] ss e) tt
  each_statement (item ∷ items) ss e =
      let first = bind_ok (statement_of_kind header item (kind_of item)) _ ss e in
      let others = bind_ok (statements_of header items) _ ss first.2 in
      subst (Each P) (ok_same _ ss others.2)
      (of_kind item (kind_of item) first.0 first.1, each_statement items others.0 others.1)

pub statements_are : (header : Header) (items : List Item) (ss : List Statement)
    → statements_of header items ≡ done ss
    → Each IsStatement ss
statements_are header = each_statement header IsStatement (statement_is header)
