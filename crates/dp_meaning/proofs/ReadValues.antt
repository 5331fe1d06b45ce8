-- What is known of numbers, lists and values that are read.
use Rattle.std.proofs.Common.{◌≡◌, ℕ, zero, suc, ◌+◌, ◌^◌, ◌<◌, ◌≤◌, rules, Bool, true, false, cond, List, [], ◌∷◌}
use Rattle.std.proofs.Common.{◌++◌, length, refl, sym, ap, subst, ◌∙◌, arith, length-append}
use Rattle.std.specs.Prelude.{not, ◌&&◌, nat_le, Result, Ok, Err}
use Rattle.std.proofs.lemmas.Bool.Decides.{nat_tests}
use Rattle.dp_base.specs.declared.decimal.Decimal.{Decimal}
use Rattle.dp_base.specs.declared.decimal.NumFault.{NumFault}
use Rattle.dp_base.specs.declared.decimal.NumFault.TheVariants.{Shape, Large, Digits}
use Rattle.dp_base.specs.DecimalShape.{is_index}
use Rattle.dp_base.specs.Decimals.{decimal_of}
use Rattle.dp_base.specs.Names.{is_name}
use Rattle.dp_model.specs.Names.{has_name, IsNameList}
use Rattle.dp_model.proofs.NameLemmas.{with_name-kept, empty-kept}
use Rattle.dp_meaning.specs.declared.why.Fault.{Fault}
use Rattle.dp_meaning.specs.declared.given_list.GivenList.{GivenList}
use Rattle.dp_meaning.specs.declared.given_list.GivenList.TheVariants.{Counted, Named}
use Rattle.dp_meaning.specs.declared.why.Why.TheVariants.{Expected, DoubleName, Number}
use Rattle.dp_meaning.specs.Faults.{◌>>=◌, fault}
use Rattle.dp_meaning.specs.Items.{Piece}
use Rattle.dp_meaning.specs.Numbers.{number_in, number, ended, numbers}
use Rattle.dp_meaning.specs.NameLists.{size_of, index, names_in, names_after, count, name_list, name_lists}
use Rattle.dp_meaning.proofs.Each.{Each}
use Rattle.dp_meaning.proofs.FaultSteps.{done, ok_same, err_not_ok, bind_ok}

-- ---- numbers

in_range : (fits : Decimal → Bool) (at : ℕ) (r : Result Decimal NumFault) (d : Decimal) → number_in fits at r ≡ done d
    → fits d ≡ true
in_range fits at (Ok x) d e = by (fits x) refl e
  where
    by : (b : Bool) → fits x ≡ b → cond b (done x) (fault Number at) ≡ done d → fits d ≡ true
    by true t f = ap fits (sym (ok_same x d f)) ∙ t
    by false t f = absurd (err_not_ok d _ f)
in_range fits at (Err Shape) d e = absurd (err_not_ok d _ e)
in_range fits at (Err Large) d e = absurd (err_not_ok d _ e)
in_range fits at (Err (Digits k)) d e = absurd (err_not_ok d _ e)

pub number_fits : (fits : Decimal → Bool) (piece : Piece) (d : Decimal) → number fits piece ≡ done d → fits d ≡ true
unfolding number
number_fits fits piece d e = in_range fits piece.at (decimal_of piece.text) d e

-- what ends is what was read
pub ended_same : {A : Type 0} (x y : A) (pieces : List Piece) → ended x pieces ≡ done y → x ≡ y
ended_same x y [] e = ok_same x y e
ended_same x y (piece ∷ pieces) e = absurd (err_not_ok y _ e)

pub numbers_fit : (fits : Decimal → Bool) (next n : ℕ) (pieces : List Piece) (ns : List Decimal)
    → numbers fits next n pieces ≡ done ns
    → Each (λ d. fits d ≡ true) ns
unfolding numbers
numbers_fit fits next zero pieces ns e = subst (Each (λ d. fits d ≡ true)) (ended_same [] ns pieces e) tt
numbers_fit fits next (suc n) [] ns e = absurd (err_not_ok ns _ e)
numbers_fit fits next (suc n) (piece ∷ pieces) ns e =
    let first = bind_ok (number fits piece) _ ns e in
    let others = bind_ok (numbers fits next n pieces) _ ns first.2 in
    subst (Each (λ d. fits d ≡ true)) (ok_same _ ns others.2)
    (number_fits fits piece first.0 first.1, numbers_fit fits next n pieces others.0 others.1)

-- ---- lists

-- as many names as tokens are read
names_count : (before : List (List ℕ)) (pieces : List Piece) (names : List (List ℕ))
    → names_after before pieces ≡ done names
    → length names ≡ length before + length pieces
unfolding names_after
names_count before [] names e = ap length (sym (ok_same before names e)) ∙ omega arith
names_count before (piece ∷ pieces) names e =
    by (not (is_name piece.text)) (has_name before piece.text) (names_after (before ++ piece.text ∷ []) pieces) e
    (names_count (before ++ piece.text ∷ []) pieces names)
  where
    by : (b c : Bool) (rest : Result (List (List ℕ)) Fault)
        → cond b (fault Expected piece.at) (cond c (fault DoubleName piece.at) rest) ≡ done names
        → (rest ≡ done names → length names ≡ length (before ++ piece.text ∷ []) + length pieces)
        → length names ≡ length before + length (piece ∷ pieces)
    by true c rest f g = absurd (err_not_ok names _ f)
    by false true rest f g = absurd (err_not_ok names _ f)
    by false false rest f g = let h = g f in let k = length-append before (piece.text ∷ []) in omega arith

-- a name that a list lacks makes it a longer list of names
longer_list : (before : List (List ℕ)) (name : List ℕ) → IsNameList before → is_name name ≡ true
    → has_name before name ≡ false
    → length before < 2 ^ 26
    → IsNameList (before ++ name ∷ [])
longer_list before name are named new room =
    subst IsNameList (ap (λ b. cond b before (before ++ name ∷ [])) new)
    (with_name-kept before name are (search (rules, named)) room)

-- what is read is a list of names, where it is not too long
names_kept : (before : List (List ℕ)) (pieces : List Piece) (names : List (List ℕ))
    → names_after before pieces ≡ done names
    → length names ≤ 2 ^ 26 → IsNameList before → IsNameList names
unfolding names_after
names_kept before [] names e room are = subst IsNameList (ok_same before names e) are
names_kept before (piece ∷ pieces) names e room are =
    by (is_name piece.text) refl (has_name before piece.text) refl (names_after (before ++ piece.text ∷ []) pieces) e
    (names_count (before ++ piece.text ∷ []) pieces names)
    (λ f l. names_kept (before ++ piece.text ∷ []) pieces names f room l)
  where
    by : (b : Bool) → is_name piece.text ≡ b → (c : Bool) → has_name before piece.text ≡ c
        → (rest : Result (List (List ℕ)) Fault)
        → cond (not b) (fault Expected piece.at) (cond c (fault DoubleName piece.at) rest) ≡ done names
        → (rest ≡ done names → length names ≡ length (before ++ piece.text ∷ []) + length pieces)
        → (rest ≡ done names → IsNameList (before ++ piece.text ∷ []) → IsNameList names)
        → IsNameList names
    by false s c t rest f g h = absurd (err_not_ok names _ f)
    by true s true t rest f g h = absurd (err_not_ok names _ f)
    by true s false t rest f g h =
        let long = g f in let more = length-append before (piece.text ∷ []) in
        h f (longer_list before piece.text are s t (omega arith))

count_above : (piece : Piece) (n : ℕ) → count piece ≡ done n → 1 ≤ n
count_above piece n e = by (nat_le 1 (index piece)) refl (nat_le (index piece) 65536) e
  where
    above : nat_le 1 (index piece) ≡ true → 1 ≤ index piece
    above t = grind (arith, nat_tests)

    by : (b : Bool) → nat_le 1 (index piece) ≡ b → (c : Bool)
        → cond (b && c) (done (index piece)) (fault Number piece.at) ≡ done n → 1 ≤ n
    by true t true f = subst (λ k. 1 ≤ k) (ok_same _ n f) (above t)
    by true t false f = absurd (err_not_ok n _ f)
    by false t c f = absurd (err_not_ok n _ f)

-- what a list is: it is not empty, and if it is not too long its names are names, of which none stands twice
pub record IsList (list : GivenList) : Type 0 where
  pub some : 1 ≤ size_of list
  pub names : size_of list ≤ 2 ^ 26 → IsNameList (names_in list)

pub list_is : (next : ℕ) (pieces : List Piece) (list : GivenList) → name_list next pieces ≡ done list → IsList list
unfolding name_list
list_is next [] list e = absurd (err_not_ok list _ e)
list_is next (piece ∷ pieces) list e = by (is_index piece.text) e
  where
    by : (b : Bool) → cond b (count piece >>= λ n. ended (Counted n) pieces)
        (names_after [] (piece ∷ pieces) >>= λ names. done (Named names)) ≡ done list
        → IsList list
    by true f =
        let n = bind_ok (count piece) _ list f in
        subst IsList (ended_same (Counted n.0) list pieces n.2)
        (record { some = count_above piece n.0 n.1; names = λ h. empty-kept })
    by false f =
        let names = bind_ok (names_after [] (piece ∷ pieces)) _ list f in
        let long : 1 ≤ length names.0 = (let h = names_count [] (piece ∷ pieces) names.0 names.1 in omega arith) in
        subst IsList (ok_same (Named names.0) list names.2)
        (record { some = long; names = λ h. names_kept [] (piece ∷ pieces) names.0 names.1 h empty-kept })

-- so many lists that are read are so many
pub lists_are : (next n : ℕ) (lines : List (List Piece)) (lists : List GivenList)
    → name_lists next n lines ≡ done lists
    → (length lists ≡ n) × Each IsList lists
unfolding name_lists
lists_are next zero [] lists e = subst (λ ls. (length ls ≡ 0) × Each IsList ls) (ok_same [] lists e) (refl, tt)
lists_are next zero (line ∷ lines) lists e = subst (λ ls. (length ls ≡ 0) × Each IsList ls)
    (ended_same [] lists line e) (refl, tt)
lists_are next (suc n) [] lists e = absurd (err_not_ok lists _ e)
lists_are next (suc n) (line ∷ lines) lists e =
    let first = bind_ok (name_list next line) _ lists e in
    let others = bind_ok (name_lists next n lines) _ lists first.2 in
    let rest = lists_are next n lines others.0 others.1 in
    subst (λ ls. (length ls ≡ suc n) × Each IsList ls) (ok_same _ lists others.2)
    (ap suc rest.0, (list_is next line first.0 first.1, rest.1))
