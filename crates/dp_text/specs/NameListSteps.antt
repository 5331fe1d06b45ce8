-- Steps of reading a list of names.
use Rattle.std.specs.Prelude.{ℕ, not, if◌then◌else◌, List, [], ◌∷◌, ◌++◌, Result, Ok}
use Rattle.dp_base.specs.Names.{is_name}
use Rattle.dp_model.specs.Names.{has_name}
use Rattle.dp_meaning.specs.declared.given_list.GivenList.{GivenList}
use Rattle.dp_meaning.specs.declared.given_list.GivenList.TheVariants.{Counted}
use Rattle.dp_meaning.specs.declared.why.Fault.{Fault}
use Rattle.dp_meaning.specs.declared.why.Why.TheVariants.{Expected, DoubleName}
use Rattle.dp_meaning.specs.Faults.{◌>>=◌, fault}
use Rattle.dp_meaning.specs.Items.{Piece}
use Rattle.dp_meaning.specs.NameLists.{count}
use Rattle.dp_meaning.specs.Numbers.{ended}

-- the list that is given as a count, behind which nothing more stands
abbrev pub counted : Piece → List Piece → Result GivenList Fault
counted piece more = count piece >>= λ n. ended (Counted n) more

-- the names, and behind them the one of this token, which is a name and not among them
unfoldable pub with_new_name : List (List ℕ) → Piece → Result (List (List ℕ)) Fault
with_new_name names piece =
    if not (is_name piece.text) then fault Expected piece.at
    else if has_name names piece.text then fault DoubleName piece.at
    else Ok (names ++ piece.text ∷ [])
