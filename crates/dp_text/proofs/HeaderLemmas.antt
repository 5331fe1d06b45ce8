-- The header, read entry by entry.
use Rattle.std.proofs.Common.{◌≡◌, ℕ, ◌+◌, ◌≤◌, List, [], ◌∷◌, length, drop, Some, Result, Ok, Err, refl, ap, ◌∙◌}
use Rattle.std.proofs.Common.{sym, subst, arith}
use Rattle.std.specs.Prelude.{slice_get}
use Rattle.std.proofs.Math.ListN.{drop_of_length-le}
use Rattle.dp_meaning.specs.declared.header.Entries.{Entries}
use Rattle.dp_meaning.specs.declared.header.Entry.{Entry}
use Rattle.dp_meaning.specs.declared.header.Header.{Header}
use Rattle.dp_meaning.specs.declared.statement.ItemKind.{ItemKind}
use Rattle.dp_meaning.specs.declared.statement.ItemKind.TheVariants.{HeaderEntry, StatementOf, NoItem}
use Rattle.dp_meaning.specs.declared.statement.Table.{Table}
use Rattle.dp_meaning.specs.declared.why.Fault.{Fault}
use Rattle.dp_meaning.specs.declared.why.Why.TheVariants.{Expected}
use Rattle.dp_meaning.specs.Faults.{◌>>=◌, fault}
use Rattle.dp_meaning.specs.Items.{Item, item_at}
use Rattle.dp_meaning.specs.Header.{header_of, kind_of, with_entry}
use Rattle.dp_items.proofs.Places.{drop_at}
use Rattle.dp_text.specs.HeaderSteps.{ReadsHeader, header_and}
use Rattle.dp_text.specs.Reading.{Reads}
use Rattle.dp_text.specs.declared.fault.TextFault.{TextFault}
use Rattle.dp_text.specs.declared.fault.TextFault.TheVariants.{At, Memory}

module _ (end : ℕ) (entries : Entries) where
  -- what comes of an item of a kind
  abbrev by_kind : Item → List Item → ItemKind → Result (Header × List Item) Fault
  by_kind item items (HeaderEntry e) = with_entry e item entries >>= λ more. header_of end more items
  by_kind item items (StatementOf table) = header_and (item_at item) entries (item ∷ items)
  by_kind item items NoItem = fault Expected (item_at item)

  by_cases : (item : Item) (items : List Item) (kind : ItemKind) → elim kind [
    | HeaderEntry e ↦ with_entry e item entries >>= λ more. header_of end more items
    | StatementOf table ↦ header_and (item_at item) entries (item ∷ items)
    | NoItem ↦ fault Expected (item_at item)
  ] ≡ by_kind item items kind
  by_cases item items (HeaderEntry e) = refl
  by_cases item items (StatementOf table) = refl
  by_cases item items NoItem = refl

  first_item : (item : Item) (items : List Item) (kind : ItemKind) → kind_of item ≡ kind
      → header_of end entries (item ∷ items) ≡ by_kind item items kind
  unfolding header_of
  first_item item items kind is = by_cases item items (kind_of item) ∙ ap (by_kind item items) is

  no_more : header_of end entries [] ≡ header_and end entries []
  unfolding header_of
  no_more = refl

  module _ (all : Result (Header × List Item) Fault) (items : List Item) (place : ℕ) (item : Item)
      (here : slice_get items place ≡ Some item)
      (so_far : all ≡ header_of end entries (drop place items)) where
    at_place : all ≡ header_of end entries (item ∷ drop (place + 1) items)
    at_place = so_far ∙ ap (header_of end entries) (drop_at items place item here)

    pub entry_one : (e : Entry) (more : Entries) → HeaderEntry e ≡ kind_of item → with_entry e item entries ≡ Ok more
        → all ≡ header_of end more (drop (place + 1) items)
    entry_one e more kind one = at_place ∙ (first_item item (drop (place + 1) items) (HeaderEntry e) (sym kind)
        ∙ rw one refl)

    wrong_on : (meant : Result Entries Fault) (f : Entries → Result (Header × List Item) Fault) (wrong : TextFault)
        → Reads meant (Err wrong) → ReadsHeader items (meant >>= f) (Err wrong)
    wrong_on meant f (At e) h = rw h refl
    wrong_on meant f Memory h = tt

    pub entry_wrong : (e : Entry) (wrong : TextFault) → HeaderEntry e ≡ kind_of item
        → Reads (with_entry e item entries) (Err wrong)
        → ReadsHeader items all (Err wrong)
    entry_wrong e wrong kind one =
        let first = at_place ∙ first_item item (drop (place + 1) items) (HeaderEntry e) (sym kind) in
        subst (λ (x : Result (Header × List Item) Fault). ReadsHeader items x (Err wrong)) (sym first)
        (wrong_on (with_entry e item entries) (λ more. header_of end more (drop (place + 1) items)) wrong one)

    pub statement_one : (table : Table) → StatementOf table ≡ kind_of item
        → all ≡ header_and (item_at item) entries (drop place items)
    statement_one table kind =
        at_place ∙ (first_item item (drop (place + 1) items) (StatementOf table) (sym kind)
        ∙ ap (header_and (item_at item) entries)
        (sym (drop_at items place item here)))

    pub no_item : NoItem ≡ kind_of item → all ≡ fault Expected (item_at item)
    no_item kind = at_place ∙ first_item item (drop (place + 1) items) NoItem (sym kind)

  pub header_last : (all : Result (Header × List Item) Fault) (items : List Item) (place : ℕ) → length items ≤ place
      → all ≡ header_of end entries (drop place items) → all ≡ header_and end entries (drop (length items) items)
  header_last all items place past so_far =
      let none : drop (length items) items ≡ [] = drop_of_length-le items (omega arith) in
      so_far ∙ (ap (header_of end entries) (drop_of_length-le items past)
      ∙ (no_more ∙ ap (header_and end entries) (sym none)))
