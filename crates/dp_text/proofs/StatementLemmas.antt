-- A statement, by its fields and its value.
use Rattle.std.proofs.Common.{◌≡◌, ℕ, ◌+◌, ◌<◌, ◌≤◌, true, false, List, [], ◌∷◌, ◌++◌, length, drop, Result, Ok, Err}
use Rattle.std.proofs.Common.{refl, sym, ap, ◌∙◌, arith}
use Rattle.std.specs.Prelude.{nat_lt, Some}
use Rattle.std.specs.List.{flat_map, slice_get}
use Rattle.std.proofs.lemmas.Bool.Decides.{nat_tests}
use Rattle.std.proofs.lemmas.List.{drop-append-le, drop_all}
use Rattle.dp_meaning.specs.declared.why.Fault.{Fault}
use Rattle.dp_meaning.specs.declared.why.Why.TheVariants.{Expected}
use Rattle.dp_meaning.specs.declared.header.Header.{Header}
use Rattle.dp_meaning.specs.declared.statement.Part.{Part}
use Rattle.dp_meaning.specs.declared.statement.Table.{Table}
use Rattle.dp_meaning.specs.declared.statement.Value.{Value}
use Rattle.dp_meaning.specs.declared.statement.Statement.{Statement}
use Rattle.dp_meaning.specs.Faults.{◌>>=◌, fault}
use Rattle.dp_meaning.specs.Items.{Item, item_at, after_colon, value_pieces, pieces_of}
use Rattle.dp_meaning.specs.Header.{kind_of}
use Rattle.dp_meaning.specs.Fields.{fields_of, all_parts}
use Rattle.dp_meaning.specs.Statements.{axes_of, least_fields, value_of, statement, statement_of_kind, statements_of}
use Rattle.dp_text.specs.Reading.{Reads}
use Rattle.dp_text.specs.declared.fault.TextFault.{TextFault}
use Rattle.dp_text.specs.declared.fault.TextFault.TheVariants.{At, Memory}
use Rattle.dp_text.proofs.Continuing.{Continues, starts, continues_one, continues_none}
use Rattle.dp_items.proofs.Places.{drop_at}

module _ (header : Header) (table : Table) (item : Item) where
  -- the fields of its first line
  abbrev fields_read : Result (List (List Part)) Fault
  fields_read = all_parts (axes_of header table) (fields_of (after_colon item)).fields

  pub wrong_field : (e : TextFault) → Reads fields_read (Err e) → Reads (statement header table item) (Err e)
  unfolding statement
  wrong_field (At e) h = rw h refl
  wrong_field Memory h = tt

  enough : (parts : List (List Part)) → least_fields table ≤ length parts
      → nat_lt (length parts) (least_fields table) ≡ false
  enough parts h = grind (arith, nat_tests)

  few : (parts : List (List Part)) → length parts < least_fields table
      → nat_lt (length parts) (least_fields table) ≡ true
  few parts h = grind (arith, nat_tests)

  pub too_few_fields : (parts : List (List Part)) → fields_read ≡ Ok parts → length parts < least_fields table
      → statement header table item ≡ fault Expected item.first.ends
  unfolding statement
  too_few_fields parts h l = rw (h, few parts l) refl

  module _ (parts : List (List Part)) (taken : ℕ) (h : fields_read ≡ Ok parts) (l : least_fields table ≤ length parts)
      (within : taken ≤ length (after_colon item)) (rest : (fields_of (after_colon item)).rest
      ≡ drop taken (after_colon item)) where
    -- what is left of the item
    left : (fields_of (after_colon item)).rest ++ flat_map pieces_of item.more ≡ drop taken (value_pieces item)
    left = ap (λ ps. ps ++ flat_map pieces_of item.more) rest
        ∙ sym (drop-append-le taken (after_colon item) (flat_map pieces_of item.more) within)

    by_value : statement header table item
        ≡ (value_of table (drop (length parts) (axes_of header table)) item.next (drop taken (value_pieces item))
        >>= λ value. Ok (record { at = item_at item; table = table; fields = parts; value = value }))
    unfolding statement
    by_value = rw (h, enough parts l, left) refl

    pub right_statement : (value : Value)
        → value_of table (drop (length parts) (axes_of header table)) item.next (drop taken (value_pieces item))
        ≡ Ok value
        → statement header table item ≡ Ok (record {
          at = item_at item;
          table = table;
          fields = parts;
          value =
              value;
        })
    right_statement value v = by_value ∙ rw v refl

    pub wrong_value : (e : TextFault)
        → Reads (value_of table (drop (length parts) (axes_of header table)) item.next
        (drop taken (value_pieces item))) (Err e)
        → Reads (statement header table item) (Err e)
    wrong_value (At e) v = by_value ∙ rw v refl
    wrong_value Memory v = tt

-- ---- all statements

-- what is meant by the items from `first` on is these statements, and then what is meant by the items from k on
pub record StatementsRead (header : Header) (items : List Item) (first : ℕ) (statements : List Statement) (k : ℕ) :
    Type 0 where
  pub is : Continues (statements_of header (drop first items)) statements (statements_of header (drop k items))

pub none_read : (header : Header) (items : List Item) (first : ℕ) → StatementsRead header items first [] first
none_read header items first = record { is = starts (statements_of header (drop first items)) }

module _ {header : Header} {items : List Item} {first : ℕ} {statements : List Statement} {k : ℕ}
    (h : StatementsRead header items first statements k) where
  at_item : (item : Item) → slice_get items k ≡ Some item
      → Continues (statements_of header (drop first items)) statements
      (statement_of_kind header item (kind_of item) >>= λ one. statements_of header (drop (k + 1) items) >>= λ others.
      Ok (one ∷ others))
  unfolding statements_of
  at_item item e = let here = drop_at items k item e in rw here at h.is

  pub statement_read : (item : Item) (one : Statement) → slice_get items k ≡ Some item
      → statement_of_kind header item (kind_of item) ≡ Ok one
      → StatementsRead header items first (statements ++ one ∷ []) (k + 1)
  statement_read item one e read = record { is = continues_one _ statements one _ (rw read at (at_item item e)) }

  pub statement_fault : (item : Item) (e : TextFault) → slice_get items k ≡ Some item
      → Reads (statement_of_kind header item (kind_of item)) (Err e)
      → Reads (statements_of header (drop first items)) (Err e)
  statement_fault item (At e) s read =
      let stops : Continues (statements_of header (drop first items)) statements (Err e) =
      rw read at (at_item item s) in stops.is
  statement_fault item Memory s read = tt

  pub statements_end : length items ≤ k → statements_of header (drop first items) ≡ Ok statements
  unfolding statements_of
  statements_end l = let none = drop_all k items l in continues_none _ statements (rw none at h.is)
