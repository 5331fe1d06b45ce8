-- Lists of names, read name by name, and lists of them, read line by line.
use Rattle.std.proofs.Common.{◌≡◌, ℕ, ◌+◌, ◌≤◌, Bool, true, false, not, List, [], ◌∷◌, ◌++◌, length, drop, Result, Ok}
use Rattle.std.proofs.Common.{Err, refl, ap, ◌∙◌, sym, length-append}
use Rattle.std.specs.Prelude.{if◌then◌else◌}
use Rattle.std.proofs.Math.ListN.{drop_of_length-le}
use Rattle.dp_base.specs.Names.{is_name}
use Rattle.dp_model.specs.Names.{has_name}
use Rattle.dp_meaning.specs.declared.why.Fault.{Fault}
use Rattle.dp_meaning.specs.declared.why.Why.TheVariants.{Expected, DoubleName}
use Rattle.dp_meaning.specs.Faults.{◌>>=◌}
use Rattle.dp_meaning.specs.Items.{Piece}
use Rattle.dp_meaning.specs.NameLists.{names_after}
use Rattle.dp_text.specs.NameListSteps.{with_new_name}
use Rattle.dp_text.specs.Reading.{Reads}
use Rattle.dp_text.specs.declared.fault.TextFault.{TextFault}
use Rattle.dp_text.specs.declared.fault.TextFault.TheVariants.{At, Memory}
use Rattle.dp_text.proofs.ReadingLemmas.{reads_same}

-- what a first step finds wrong is wrong with the whole
pub reads_on : {A B : Type 0} (meant : Result A Fault) (more : A → Result B Fault) (wrong : TextFault)
    → Reads meant (Err wrong) → Reads (meant >>= more) (Err wrong)
reads_on meant more (At e) h = rw h refl
reads_on meant more Memory h = tt

chosen : {A B : Type 0} (a b : Bool) (e d : Fault) (x : A) (more : A → Result B Fault)
    → (if a then Err e else if b then Err d else more x) ≡ ((if a then Err e else if b then Err d else Ok x) >>= more)
chosen true b e d x more = refl
chosen false true e d x more = refl
chosen false false e d x more = refl

chosen_is : {A : Type 0} (a b : Bool) (e d : Fault) (x y : A)
    → Ok y ≡ (if a then Err e else if b then Err d else Ok x) → y ≡ x
chosen_is true b e d x y h = cc
chosen_is false true e d x y h = cc
chosen_is false false e d x y h = cc

-- one name, and then those behind it
name_first : (names : List (List ℕ)) (piece : Piece) (pieces : List Piece)
    → names_after names (piece ∷ pieces) ≡ (with_new_name names piece >>= λ more. names_after more pieces)
unfolding names_after with_new_name
name_first names piece pieces =
    chosen (not (is_name piece.text)) (has_name names piece.text) (record { at = piece.at; why = Expected })
    (record { at = piece.at; why = DoubleName }) (names ++ piece.text ∷ [])
    (λ more. names_after more pieces)

pub name_one : (all : Result (List (List ℕ)) Fault) (names : List (List ℕ)) (piece : Piece) (pieces rest : List Piece)
    (now : List (List ℕ))
    → rest ≡ piece ∷ pieces → with_new_name names piece ≡ Ok now → all ≡ names_after names rest
    → all ≡ names_after now pieces
name_one all names piece pieces rest now is one h = h ∙ rw (is, name_first, one) refl

pub name_wrong : (all : Result (List (List ℕ)) Fault) (names : List (List ℕ)) (piece : Piece)
    (pieces rest : List Piece) (wrong : TextFault)
    → rest ≡ piece ∷ pieces → Reads (with_new_name names piece) (Err wrong) → all ≡ names_after names rest
    → Reads all (Err wrong)
name_wrong all names piece pieces rest wrong is one h =
    let first = with_new_name names piece in
    let steps : all ≡ (first >>= λ more. names_after more pieces) =
    h ∙ (ap (names_after names) is ∙ name_first names piece pieces) in
    reads_same (Err wrong) steps
    (reads_on first (λ more. names_after more pieces) wrong one)

pub name_last : (all : Result (List (List ℕ)) Fault) (names : List (List ℕ)) (place : ℕ) (pieces : List Piece)
    → length pieces ≤ place → all ≡ names_after names (drop place pieces) → all ≡ Ok names
unfolding names_after
name_last all names place pieces past h = h ∙ rw (drop_of_length-le pieces past) refl

-- a list grows by one name at a time
pub one_more : (names : List (List ℕ)) (piece : Piece) (now : List (List ℕ)) → with_new_name names piece ≡ Ok now
    → length now ≡ length names + 1
unfolding with_new_name
one_more names piece now h =
    let is : now ≡ names ++ piece.text ∷ [] = chosen_is (not (is_name piece.text)) (has_name names piece.text)
    (record { at = piece.at; why = Expected }) (record { at = piece.at; why = DoubleName })
    (names ++ piece.text ∷ []) now (sym h) in
    rw (is, length-append) refl
