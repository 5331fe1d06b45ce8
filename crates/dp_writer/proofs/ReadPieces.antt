-- What is read of pieces by their symbols: numbers, lists of things, and places in such lists.
use Rattle.std.proofs.Common.{◌≡◌, ◌≢◌, ℕ, ◌<◌, ◌≤◌, ◌^◌, Bool, true, false, cond, List, [], ◌∷◌, ◌++◌}
use Rattle.std.proofs.Common.{length, map, get_or, Ok, refl, sym, ap, ◌∙◌, arith, subst, append_assoc, length-append}
use Rattle.std.proofs.Common.{inl, inr}
use Rattle.std.specs.Prelude.{not, ◌&&◌, nat_le, All, AllPairs, Result}
use Rattle.std.specs.Fmt.{decimal}
use Rattle.std.specs.Str.{bytes_eq}
use Rattle.std.specs.Str.Parse.{digits_value}
use Rattle.std.proofs.lemmas.Bool.{cases_Bool, le-leb, lt-ltb}
use Rattle.std.proofs.lemmas.List.{append-nil, get_or_append_left}
use Rattle.std.proofs.lemmas.List.Folds.{list_any_none}
use Rattle.std.proofs.lemmas.Slice.Eq.{bytes_eq-Decides}
use Rattle.std.proofs.Math.Seq.{get_or-append_seam}
use Rattle.dp_base.specs.declared.decimal.Decimal.{Decimal}
use Rattle.dp_base.specs.Decimals.{decimal_of}
use Rattle.dp_base.specs.DecimalShape.{is_decimal, is_index}
use Rattle.dp_base.specs.Names.{is_name}
use Rattle.dp_model.specs.Names.{has_name}
use Rattle.dp_meaning.specs.declared.why.Fault.{Fault}
use Rattle.dp_meaning.specs.declared.why.Why.TheVariants.{Expected, DoubleName, Number}
use Rattle.dp_meaning.specs.declared.given_list.GivenList.{GivenList}
use Rattle.dp_meaning.specs.declared.given_list.GivenList.TheVariants.{Counted, Named}
use Rattle.dp_meaning.specs.Faults.{◌>>=◌, fault}
use Rattle.dp_meaning.specs.Items.{Piece}
use Rattle.dp_meaning.specs.Numbers.{number_in, number, numbers, ended}
use Rattle.dp_meaning.specs.NameLists.{size_of, index, names_after, count, name_list}
use Rattle.dp_meaning.specs.NameLists.{find_in}
use Rattle.dp_meaning.proofs.Each.{Each}
use Rattle.dp_meaning.proofs.FaultSteps.{done}
use Rattle.dp_model.specs.Tables.{NamesAllOrNone}
use Rattle.dp_writer.specs.WrittenModel.{list_words}
use Rattle.dp_writer.specs.WrittenText.{given_list}
use Rattle.dp_writer.proofs.Symbols.{Symbol, symbol_of, run_symbol, IsRun}
use Rattle.dp_writer.proofs.WordShapes.{IsNameWord, index_written}

-- a step that does not fail is followed by the next
pub step_done : {A B : Type 0} (x : Result A Fault) (f : A → Result B Fault) (a : A) → x ≡ done a → (x >>= f) ≡ f a
step_done x f a e = ap (λ (r : Result _ Fault). r >>= f) e

-- the text of a piece that is a word or a number
pub text_is : (piece : Piece) (text : List ℕ) → symbol_of piece ≡ run_symbol text → piece.text ≡ text
text_is piece text e = ap (λ (s : Symbol). s.text) e

-- ---- numbers

-- a word is read as a number that is in range
pub record IsNumberOf (fits : Decimal → Bool) (text : List ℕ) (d : Decimal) : Type 0 where
  pub run : IsRun text
  pub shape : is_decimal text ≡ true
  pub read : decimal_of text ≡ Ok d
  pub in_range : fits d ≡ true

pub number_read : (fits : Decimal → Bool) (piece : Piece) (text : List ℕ) (d : Decimal) → piece.text ≡ text
    → IsNumberOf fits text d → number fits piece ≡ done d
unfolding number
number_read fits piece text d e is =
    ap (λ t. number_in fits piece.at (decimal_of t)) e ∙ ap (number_in fits piece.at) is.read
    ∙ ap (λ b. cond b (done d) (fault Number piece.at)) is.in_range

-- the words of the numbers are read as these
pub numbers_read : {A : Type 0} (fits : Decimal → Bool) (next n : ℕ) (word : A → List ℕ) (d : A → Decimal)
    (xs : List A)
    (pieces : List Piece) → n ≡ length xs → Each (λ x. IsNumberOf fits (word x) (d x)) xs
    → map symbol_of pieces ≡ map run_symbol (map word xs)
    → numbers fits next n pieces ≡ done (map d xs)
unfolding numbers
numbers_read fits next n word d [] [] len each e = ap (λ k. numbers fits next k []) len
numbers_read fits next n word d [] (piece ∷ pieces) len each e = absurd cc
numbers_read fits next n word d (x ∷ xs) [] len each e = absurd cc
numbers_read fits next n word d (x ∷ xs) (piece ∷ pieces) len each e =
    let same : symbol_of piece ≡ run_symbol (word x) = cc in
    let text = text_is piece (word x) same in
    let others : map symbol_of pieces ≡ map run_symbol (map word xs) = cc in
    ap (λ k. numbers fits next k (piece ∷ pieces)) len
    ∙ step_done (number fits piece) _ (d x) (number_read fits piece (word x) (d x) text each.0)
    ∙ step_done (numbers fits next (length xs) pieces) _ (map d xs)
    (numbers_read fits next (length xs) word d xs pieces refl each.1 others)

-- ---- lists

-- bytes that are not the same
pub other_bytes : (a b : List ℕ) → (a ≡ b → ⊥) → bytes_eq a b ≡ false
other_bytes a b differ = elim (cases_Bool (bytes_eq a b)) [
  | inl same ↦ absurd (differ ((bytes_eq-Decides a b).0 same))
  | inr other ↦ other
]

-- a list has no name that stands behind it
not_among : (before : List (List ℕ)) (name : List ℕ) (more : List (List ℕ))
    → AllPairs (λ a b. a ≢ b) (before ++ name ∷ more) → has_name before name ≡ false
not_among before name more differ = list_any_none (bytes_eq name) before others
  where
    others : All (λ other. bytes_eq name other ≡ false) before
    others i d below =
        let whole = length-append before (name ∷ more) in
        let apart : (get_or before i d ≡ name → ⊥) = λ same.
        differ i (length before) d below (omega (arith, whole))
        (get_or_append_left before (name ∷ more) d i below ∙ same ∙ sym (get_or-append_seam before name more d)) in
        other_bytes name (get_or before i d) (λ same. apart (sym same))

-- names behind names that have come
names_read : (before names : List (List ℕ)) (pieces : List Piece) → Each IsNameWord names
    → AllPairs (λ a b. a ≢ b) (before ++ names) → map symbol_of pieces ≡ map run_symbol names
    → names_after before pieces ≡ done (before ++ names)
unfolding names_after
names_read before [] [] are differ e = ap done (sym (append-nil before))
names_read before [] (piece ∷ pieces) are differ e = absurd cc
names_read before (name ∷ names) [] are differ e = absurd cc
names_read before (name ∷ names) (piece ∷ pieces) are differ e =
    let same : symbol_of piece ≡ run_symbol name = cc in
    let text = text_is piece name same in
    let others : map symbol_of pieces ≡ map run_symbol names = cc in
    let joined = append_assoc before (name ∷ []) names in
    ap (λ t. cond (not (is_name t)) (fault Expected piece.at) (cond (has_name before t) (fault DoubleName piece.at)
    (names_after (before ++ t ∷ []) pieces))) text
    ∙ rw (are.0.name, not_among before name names differ)
    (names_read (before ++ name ∷ []) names pieces are.1 (subst (AllPairs (λ a b. a ≢ b)) (sym joined) differ) others
    ∙ ap done joined)

count_read : (piece : Piece) (n : ℕ) → index piece ≡ n → 1 ≤ n → n ≤ 65536 → count piece ≡ done n
count_read piece n e some few =
    ap (λ k. cond (nat_le 1 k && nat_le k 65536) (done k) (fault Number piece.at)) e
    ∙ rw (le-leb 1 n some, le-leb n 65536 few) refl

-- a list as it is written: names that differ, one for each of n things, or none
pub record IsWrittenList (names : List (List ℕ)) (n : ℕ) : Type 0 where
  pub are_names : Each IsNameWord names
  pub differ : AllPairs (λ a b. a ≢ b) names
  pub all : NamesAllOrNone names n
  pub some : 1 ≤ n
  pub few : n ≤ 65536

-- it is read as it is given
pub list_read : (names : List (List ℕ)) (n next : ℕ) (pieces : List Piece) → IsWrittenList names n
    → map symbol_of pieces ≡ map run_symbol (list_words names n) → name_list next pieces ≡ done (given_list names n)
unfolding name_list
list_read [] n next [] is e = absurd cc
list_read [] n next (piece ∷ []) is e =
    let same : symbol_of piece ≡ run_symbol (decimal n) = cc in
    let text = text_is piece (decimal n) same in
    let written = index_written n (omega (arith, is.few)) in
    ap (λ b. cond b (count piece >>= λ k. ended (Counted k) []) (names_after [] (piece ∷ []) >>= λ names. done
    (Named names))) (ap is_index text ∙ written.index)
    ∙ step_done (count piece) (λ k. ended (Counted k) []) n
    (count_read piece n (ap (digits_value 10) text ∙ written.value) is.some is.few)
list_read [] n next (piece ∷ more ∷ pieces) is e = absurd cc
list_read (name ∷ names) n next [] is e = absurd cc
list_read (name ∷ names) n next (piece ∷ pieces) is e =
    let same : symbol_of piece ≡ run_symbol name = cc in
    let text = text_is piece name same in
    let none : is_index piece.text ≡ false = ap is_index text ∙ is.are_names.0.no_index in
    ap (λ b. cond b (count piece >>= λ k. ended (Counted k) pieces) (names_after [] (piece ∷ pieces) >>= λ ns. done
    (Named ns))) none
    ∙ step_done (names_after [] (piece ∷ pieces)) (λ ns. done (Named ns)) (name ∷ names)
    (names_read [] (name ∷ names) (piece ∷ pieces) is.are_names is.differ e)

-- its words are names and numbers
pub list_runs : (names : List (List ℕ)) (n : ℕ) → IsWrittenList names n → Each IsRun (list_words names n)
list_runs [] n is = ((index_written n (omega (arith, is.few))).run, tt)
list_runs (name ∷ names) n is = (is.are_names.0.run, runs names is.are_names.1)
  where
    runs : (names : List (List ℕ)) → Each IsNameWord names → Each IsRun names
    runs [] are = tt
    runs (name ∷ names) are = (are.0.run, runs names are.1)

-- and it has so many things
pub size_given : (names : List (List ℕ)) (n : ℕ) → IsWrittenList names n → size_of (given_list names n) ≡ n
size_given [] n is = refl
size_given (name ∷ names) n is = is.all (omega arith)

-- ---- places

-- a number in digits is the place in a list
pub place_read : (list : GivenList) (piece : Piece) (n : ℕ) → piece.text ≡ decimal n → n < 10 ^ 64 → n < size_of list
    → find_in list piece ≡ done n
unfolding find_in
place_read list piece n e fits below =
    let written = index_written n fits in
    let is : is_index piece.text ≡ true = ap is_index e ∙ written.index in
    let value : index piece ≡ n = ap (digits_value 10) e ∙ written.value in
    rw (is, value, lt-ltb n (size_of list) below) refl
