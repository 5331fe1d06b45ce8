-- What is known of a header that is read.
use Rattle.std.proofs.Common.{◌≡◌, ℕ, Bool, true, false, cond, List, [], ◌∷◌, length, refl, sym, ap, subst, ◌∙◌}
use Rattle.std.specs.Prelude.{codes, Option, Some, None}
use Rattle.dp_base.specs.declared.decimal.Decimal.{Decimal}
use Rattle.dp_meaning.specs.declared.given_list.GivenList.{GivenList}
use Rattle.dp_meaning.specs.declared.header.Start.{Start}
use Rattle.dp_meaning.specs.declared.header.Start.TheVariants.{AnyState, OneState, StartRow}
use Rattle.dp_meaning.specs.declared.header.Entry.{Entry}
use Rattle.dp_meaning.specs.declared.header.Entry.TheVariants.{Agents, Discount, Values, States, StartEntry, Actions}
use Rattle.dp_meaning.specs.declared.header.Entry.TheVariants.{Observations}
use Rattle.dp_meaning.specs.declared.statement.ItemKind.{ItemKind}
use Rattle.dp_meaning.specs.declared.statement.ItemKind.TheVariants.{HeaderEntry, StatementOf, NoItem}
use Rattle.dp_meaning.specs.declared.header.Entries.{Entries}
use Rattle.dp_meaning.specs.declared.header.Header.{Header}
use Rattle.dp_meaning.specs.declared.why.Why.TheVariants as why
use Rattle.dp_meaning.specs.Faults.{◌>>=◌, fault}
use Rattle.dp_meaning.specs.Items.{Piece, Item, item_at, value_pieces}
use Rattle.dp_meaning.specs.Numbers.{is_chance, number, numbers, ended}
use Rattle.dp_meaning.specs.NameLists.{size_of, says, find_in, name_list, name_lists}
use Rattle.dp_meaning.specs.Entries.{discount_of, is_cost, agent_lines, is_one_state, start_of}
use Rattle.dp_meaning.specs.Header.{kind_of, no_entries, unless_come, entry, with_entry, header_with, header_of}
use Rattle.dp_meaning.proofs.FaultSteps.{done, ok_same, err_not_ok, bind_ok}
use Rattle.dp_meaning.proofs.Each.{Each}
use Rattle.dp_meaning.proofs.ReadValues.{IsList, number_fits, numbers_fit, ended_same, list_is, lists_are}

-- lists for the agents: one for each
pub record AreLists (agents : GivenList) (lists : List GivenList) : Type 0 where
  pub count : length lists ≡ size_of agents
  pub each : Each IsList lists

-- the chances of a row of them
abbrev pub chances_in : Start → List Decimal
chances_in (StartRow at ns) = ns
chances_in _ = []

-- a start by chances alone
abbrev pub IsStart : Start → Type 0
IsStart start = Each (λ d. is_chance d ≡ true) (chances_in start)

-- what is known of the entries that have come
record AreEntries (e : Entries) : Type 0 where
  agents : (l : GivenList) → e.agents ≡ Some l → IsList l
  states : (l : GivenList) → e.states ≡ Some l → IsList l
  discount : (d : Decimal) → e.discount ≡ Some d → is_chance d ≡ true
  start : (x : Start) → e.start ≡ Some x → IsStart x
  actions : (ls : List GivenList) → e.actions ≡ Some ls → (l : GivenList) × (e.agents ≡ Some l) × AreLists l ls
  observations : (ls : List GivenList) → e.observations ≡ Some ls
      → (l : GivenList) × (e.agents ≡ Some l) × AreLists l ls

-- what is known of the header
pub record IsHeader (h : Header) : Type 0 where
  pub agents : IsList h.agents
  pub states : IsList h.states
  pub discount : is_chance h.discount ≡ true
  pub start : IsStart h.start
  pub actions : AreLists h.agents h.actions
  pub observations : AreLists h.agents h.observations

-- ---- entries

some_same : {A : Type 0} (x y : A) → Some x ≡ Some y → x ≡ y
some_same x y e = cc

entry_come : {A : Type 0} (at : ℕ) (o : Option A) (x : A) → entry at o ≡ done x → o ≡ Some x
entry_come at (Some y) x e = ap Some (ok_same y x e)
entry_come at None x e = absurd (err_not_ok x _ e)

none_come : {A : Type 0} (at : ℕ) (o : Option A) (u : Unit {0}) → unless_come at o ≡ done u → o ≡ None
none_come at None u e = refl
none_come at (Some x) u e = absurd (err_not_ok u _ e)

discount_fits : (next : ℕ) (pieces : List Piece) (d : Decimal) → discount_of next pieces ≡ done d → is_chance d ≡ true
discount_fits next [] d e = absurd (err_not_ok d _ e)
discount_fits next (piece ∷ pieces) d e =
    let w = bind_ok (number is_chance piece) _ d e in
    subst (λ n. is_chance n ≡ true) (ended_same w.0 d pieces w.2) (number_fits is_chance piece w.0 w.1)

-- a start that is read is by chances
start_is : (states : GivenList) (next : ℕ) (pieces : List Piece) (start : Start)
    → start_of states next pieces ≡ done start → IsStart start
unfolding start_of
start_is states next [] start e = absurd (err_not_ok start _ e)
start_is states next (piece ∷ pieces) start e =
    by (says (codes "uniform") piece) (is_one_state (size_of states) piece pieces) e
  where
    by : (b c : Bool) → cond b (ended AnyState pieces)
        (cond c (find_in states piece >>= λ s. ended (OneState s) pieces)
        (numbers is_chance next (size_of states) (piece ∷ pieces) >>= λ row. done (StartRow piece.at row)))
        ≡ done start
        → IsStart start
    by true c f = subst IsStart (ended_same AnyState start pieces f) tt
    by false true f =
        let w = bind_ok (find_in states piece) _ start f in
        subst IsStart (ended_same (OneState w.0) start pieces w.2) tt
    by false false f =
        let w = bind_ok (numbers is_chance next (size_of states) (piece ∷ pieces)) _ start f in
        subst IsStart (ok_same (StartRow piece.at w.0) start w.2)
        (numbers_fit is_chance next (size_of states) (piece ∷ pieces) w.0 w.1)

read_lists : (next : ℕ) (agents : GivenList) (lines : List (List Piece)) (lists : List GivenList)
    → name_lists next (size_of agents) lines ≡ done lists → AreLists agents lists
read_lists next agents lines lists e = let w = lists_are next (size_of agents) lines lists e in
    record { count = w.0; each = w.1 }

with_entry_is : (kind : Entry) (item : Item) (e more : Entries) → AreEntries e → with_entry kind item e ≡ done more
    → AreEntries more
unfolding with_entry
with_entry_is Agents item e more is f =
    let first = bind_ok (unless_come (item_at item) e.agents) _ more f in
    let value = bind_ok (name_list item.next (value_pieces item)) _ more first.2 in
    let none = none_come (item_at item) e.agents first.0 first.1 in
    subst AreEntries (ok_same _ more value.2) (record {
      agents = λ l s. subst IsList (some_same value.0 l s) (list_is item.next (value_pieces item) value.0 value.1);
      states = is.states;
      discount = is.discount;
      start = is.start;
      actions = λ ls s. absurd (clash none (is.actions ls s));
      observations = λ ls s. absurd (clash none (is.observations ls s));
    })
  where
    clash : {ls : List GivenList} → e.agents ≡ None → (l : GivenList) × (e.agents ≡ Some l) × AreLists l ls → ⊥
    clash none w = let some = w.1 in cc (none, some)
with_entry_is Discount item e more is f =
    let first = bind_ok (unless_come (item_at item) e.discount) _ more f in
    let value = bind_ok (discount_of item.next (value_pieces item)) _ more first.2 in
    subst AreEntries (ok_same _ more value.2) (record {
      agents = is.agents;
      states = is.states;
      discount = λ d s. subst (λ x. is_chance x ≡ true) (some_same value.0 d s)
          (discount_fits item.next (value_pieces item) value.0 value.1);
      start = is.start;
      actions = is.actions;
      observations = is.observations;
    })
with_entry_is Values item e more is f =
    let first = bind_ok (unless_come (item_at item) e.cost) _ more f in
    let value = bind_ok (is_cost item.next (value_pieces item)) _ more first.2 in
    subst AreEntries (ok_same _ more value.2) (record {
      agents = is.agents;
      states = is.states;
      discount = is.discount;
      start = is.start;
      actions = is.actions;
      observations = is.observations;
    })
with_entry_is States item e more is f =
    let first = bind_ok (unless_come (item_at item) e.states) _ more f in
    let value = bind_ok (name_list item.next (value_pieces item)) _ more first.2 in
    subst AreEntries (ok_same _ more value.2) (record {
      agents = is.agents;
      states = λ l s. subst IsList (some_same value.0 l s) (list_is item.next (value_pieces item) value.0 value.1);
      discount = is.discount;
      start = is.start;
      actions = is.actions;
      observations = is.observations;
    })
with_entry_is StartEntry item e more is f =
    let first = bind_ok (unless_come (item_at item) e.start) _ more f in
    let states = bind_ok (entry (item_at item) e.states) _ more first.2 in
    let value = bind_ok (start_of states.0 item.next (value_pieces item)) _ more states.2 in
    subst AreEntries (ok_same _ more value.2) (record {
      agents = is.agents;
      states = is.states;
      discount = is.discount;
      start = λ x s. subst IsStart (some_same value.0 x s)
          (start_is states.0 item.next (value_pieces item) value.0 value.1);
      actions = is.actions;
      observations = is.observations;
    })
with_entry_is Actions item e more is f =
    let first = bind_ok (unless_come (item_at item) e.actions) _ more f in
    let agents = bind_ok (entry (item_at item) e.agents) _ more first.2 in
    let value = bind_ok (name_lists item.next (size_of agents.0) (agent_lines item)) _ more agents.2 in
    subst AreEntries (ok_same _ more value.2) (record {
      agents = is.agents;
      states = is.states;
      discount = is.discount;
      start = is.start;
      actions = λ ls s. (
        agents.0,
        entry_come (item_at item) e.agents agents.0 agents.1,
        subst (AreLists agents.0) (some_same value.0 ls s)
            (read_lists item.next agents.0 (agent_lines item) value.0 value.1),
      );
      observations = is.observations;
    })
with_entry_is Observations item e more is f =
    let first = bind_ok (unless_come (item_at item) e.observations) _ more f in
    let agents = bind_ok (entry (item_at item) e.agents) _ more first.2 in
    let value = bind_ok (name_lists item.next (size_of agents.0) (agent_lines item)) _ more agents.2 in
    subst AreEntries (ok_same _ more value.2) (record {
      agents = is.agents;
      states = is.states;
      discount = is.discount;
      start = is.start;
      actions = is.actions;
      observations = λ ls s. (
        agents.0,
        entry_come (item_at item) e.agents agents.0 agents.1,
        subst (AreLists agents.0)
            (some_same value.0 ls s) (read_lists item.next agents.0 (agent_lines item) value.0 value.1),
      );
    })

-- ---- the header

lists_of : (e : Entries) (agents : GivenList) (lists : List GivenList) → e.agents ≡ Some agents
    → (l : GivenList) × (e.agents ≡ Some l) × AreLists l lists → AreLists agents lists
lists_of e agents lists s w = subst (λ l. AreLists l lists) (some_same w.0 agents (sym w.1 ∙ s)) w.2

header_with_is : (at : ℕ) (e : Entries) (h : Header) → AreEntries e → header_with at e ≡ done h → IsHeader h
unfolding header_with
header_with_is at e h is f =
    let agents = bind_ok (entry at e.agents) _ h f in
    let discount = bind_ok (entry at e.discount) _ h agents.2 in
    let cost = bind_ok (entry at e.cost) _ h discount.2 in
    let states = bind_ok (entry at e.states) _ h cost.2 in
    let start = bind_ok (entry at e.start) _ h states.2 in
    let actions = bind_ok (entry at e.actions) _ h start.2 in
    let observations = bind_ok (entry at e.observations) _ h actions.2 in
    let named = entry_come at e.agents agents.0 agents.1 in
    subst IsHeader (ok_same _ h observations.2) (record {
      agents = is.agents agents.0 named;
      states = is.states states.0 (entry_come at e.states states.0 states.1);
      discount = is.discount discount.0 (entry_come at e.discount discount.0 discount.1);
      start = is.start start.0 (entry_come at e.start start.0 start.1);
      actions = lists_of e agents.0 actions.0 named (is.actions actions.0
          (entry_come at e.actions actions.0 actions.1));
      observations = lists_of e agents.0 observations.0 named
          (is.observations observations.0 (entry_come at e.observations observations.0 observations.1));
    })

header_from : (end : ℕ) (e : Entries) (items : List Item) (h : Header × List Item) → AreEntries e
    → header_of end e items ≡ done h
    → IsHeader h.0
unfolding header_of
header_from end e [] h is f =
    let w = bind_ok (header_with end e) _ h f in subst (λ x. IsHeader x.0) (ok_same _ h w.2)
    (header_with_is end e w.0 is w.1)
header_from end e (item ∷ items) h is f = by (kind_of item) f (λ more is g. header_from end more items h is g)
  where
    by : (kind : ItemKind) → (elim kind [
      | HeaderEntry k ↦ with_entry k item e >>= λ more. header_of end more items
      | StatementOf table ↦ header_with (item_at item) e >>= λ header. done (header, item ∷ items)
      | NoItem ↦ fault why.Expected (item_at item)
    ]) ≡ done h → ((more : Entries) → AreEntries more → header_of end more items ≡ done h → IsHeader h.0)
        → IsHeader h.0
    by (HeaderEntry k) g rest = let w = bind_ok (with_entry k item e) _ h g in
        rest w.0 (with_entry_is k item e w.0 is w.1) w.2
    by (StatementOf table) g rest =
        let w = bind_ok (header_with (item_at item) e) _ h g in subst (λ x. IsHeader x.0) (ok_same _ h w.2)
        (header_with_is (item_at item) e w.0 is w.1)
    by NoItem g rest = absurd (err_not_ok h _ g)

pub header_is : (end : ℕ) (items : List Item) (h : Header × List Item) → header_of end no_entries items ≡ done h
    → IsHeader h.0
header_is end items h f = header_from end no_entries items h (record {
  agents = λ l s. absurd (never l s);
  states = λ l s. absurd (never l s);
  discount = λ d s. absurd (never d s);
  start = λ x s. absurd (never x s);
  actions = λ ls s. absurd (never ls s);
  observations = λ ls s. absurd (never ls s);
}) f
  where
    never : {A : Type 0} (x : A) → None ≡ Some x → ⊥
    never x s = cc
