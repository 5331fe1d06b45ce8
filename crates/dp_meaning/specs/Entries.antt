-- The values of the header entries, each read from the tokens behind its first Colon.
use Rattle.std.specs.Prelude.{ℕ, Bool, true, false, not, ◌&&◌, ◌||◌, ◌==◌, if◌then◌else◌, List, [], ◌∷◌, length}
use Rattle.std.specs.Prelude.{codes, map, Result, Ok}
use Rattle.dp_base.specs.declared.decimal.Decimal.{Decimal}
use Rattle.dp_base.specs.DecimalShape.{is_index}
use Rattle.dp_base.specs.Names.{is_name}
use Rattle.dp_meaning.specs.declared.why.Fault.{Fault}
use Rattle.dp_meaning.specs.declared.given_list.GivenList.{GivenList}
use Rattle.dp_meaning.specs.declared.header.Start.{Start}
use Rattle.dp_meaning.specs.declared.header.Start.TheVariants.{AnyState, OneState, StartRow}
use Rattle.dp_meaning.specs.declared.why.Why.TheVariants.{Expected}
use Rattle.dp_meaning.specs.Faults.{◌>>=◌, fault}
use Rattle.dp_meaning.specs.Items.{Piece, Item, after_colon, pieces_of}
use Rattle.dp_meaning.specs.Numbers.{is_chance, number, numbers, ended}
use Rattle.dp_meaning.specs.NameLists.{size_of, says, find_in}

-- `discount`: one Number from 0 to 1
abbrev pub discount_of : ℕ → List Piece → Result Decimal Fault
discount_of next [] = fault Expected next
discount_of next (piece ∷ pieces) = number is_chance piece >>= λ d. ended d pieces

-- `values`: whether the numbers of the rewards are costs
abbrev pub is_cost : ℕ → List Piece → Result Bool Fault
is_cost next [] = fault Expected next
is_cost next (piece ∷ pieces) =
    if says (codes "reward") piece then ended false pieces
    else if says (codes "cost") piece then ended true pieces
    else fault Expected piece.at

-- `actions` and `observations`: the lines of the agents, of which the first may stand on the entry's own line
abbrev pub agent_lines : Item → List (List Piece)
agent_lines item = with_own_line (after_colon item) (map pieces_of item.more)
  where
    with_own_line : List Piece → List (List Piece) → List (List Piece)
    with_own_line [] lines = lines
    with_own_line (piece ∷ pieces) lines = (piece ∷ pieces) ∷ lines

-- ---- `start`

-- One index where there are several states is that state. Where there is one state, `0` names it, and any other
-- Number is a row.
abbrev pub is_state_index : ℕ → Piece → Bool
is_state_index states piece = is_index piece.text && (not (states == 1) || says (codes "0") piece)

-- the value is one state
abbrev pub is_one_state : ℕ → Piece → List Piece → Bool
is_one_state states piece more = is_name piece.text || (length more == 0 && is_state_index states piece)

-- the value of `start`: `uniform`, one state, or a row of one chance for each state
unfoldable pub start_of : GivenList → ℕ → List Piece → Result Start Fault
start_of states next [] = fault Expected next
start_of states next (piece ∷ pieces) =
    if says (codes "uniform") piece then ended AnyState pieces
    else if is_one_state (size_of states) piece pieces then (find_in states piece >>= λ s. ended (OneState s) pieces)
    else (numbers is_chance next (size_of states) (piece ∷ pieces) >>= λ row. Ok (StartRow piece.at row))
