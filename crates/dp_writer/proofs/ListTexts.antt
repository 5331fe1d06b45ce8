-- What is written of the lists of a model.
use Rattle.std.proofs.Common.{◌≡◌, ℕ, zero, suc, ◌<◌, Bool, true, false, List, [], ◌∷◌, ◌++◌, length, get_or, refl}
use Rattle.std.proofs.Common.{sym, ap}
use Rattle.std.proofs.Common.{arith}
use Rattle.std.specs.Prelude.{IsNone, None, Option, Some, is_some, slice_get, unwrap_or}
use Rattle.std.proofs.lemmas.Bool.{true≢false}
use Rattle.std.specs.Fmt.{decimal}
use Rattle.std.proofs.lemmas.List.{append-nil}
use Rattle.dp_model.specs.Tables.{AreNamesOf, NamedModel}
use Rattle.dp_writer.specs.declared.lists.ThingList.{ThingList}
use Rattle.dp_writer.specs.declared.lists.ThingList.TheVariants.{Agents, States, Actions, Observations}
use Rattle.dp_writer.specs.GivenLists.{IsListOf, count_in, names_in}
use Rattle.dp_writer.specs.WrittenLines.{space_before, words_text}
use Rattle.dp_writer.specs.WrittenModel.{list_words}

-- a list that has names has one for each thing
pub names_counted : (m : NamedModel) (list : ThingList) → IsListOf m list → AreNamesOf m.model m.names
    → 0 < length (names_in m.names list) → length (names_in m.names list) ≡ count_in m list
names_counted m Agents of are some = are.agents some
names_counted m States of are some = are.states some
names_counted m (Actions i) of are some = are.actions i of some
names_counted m (Observations i) of are some = are.observations i of some

-- its words are its names
pub named_words : (names : List (List ℕ)) (count : ℕ) → 0 < length names → list_words names count ≡ names
named_words [] count some = absurd (omega (arith, some))
named_words (name ∷ names) count some = refl

-- the word of a list without names is its count
pub counted_words : (names : List (List ℕ)) (count : ℕ) → names ≡ [] → list_words names count ≡ decimal count ∷ []
counted_words [] count none = refl
counted_words (name ∷ names) count none = absurd cc

-- one word
pub one_word : (first : Bool) (word : List ℕ) → words_text first (word ∷ []) ≡ space_before first 0 ++ word
one_word true word = append-nil word
one_word false word = ap (λ l. 32 ∷ l) (append-nil word)

-- a list that is not empty has an item
pub some_item : (names : List (List ℕ)) → (names ≡ [] → ⊥) → 0 < length names
some_item [] differ = absurd (differ refl)
some_item (name ∷ names) differ = omega arith

-- the name at a place
pub name_at : (names : List (List ℕ)) (i : ℕ) → unwrap_or (slice_get names i) [] ≡ get_or names i []
name_at [] i = refl
name_at (name ∷ names) zero = refl
name_at (name ∷ names) (suc i) = name_at names i

-- what is some is not none
pub some_is_not_none : {A : Type 0} (o : Option A) → IsNone o → is_some o ≡ true → ⊥
some_is_not_none None none some = true≢false (sym some)
some_is_not_none (Some x) none some = true≢false none
