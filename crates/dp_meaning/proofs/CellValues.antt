-- The value of a cell by the statements that cover it.
use Rattle.std.proofs.Common.{◌≡◌, ℕ, Bool, true, false, List, ◌∷◌, ◌++◌, length, map, ap, pos}
use Rattle.std.specs.List.{list_any}
use Rattle.dp_meaning.specs.declared.statement.Statement.{Statement}
use Rattle.dp_meaning.specs.Fields.{Axis}
use Rattle.dp_meaning.specs.Statements.{axis_size}
use Rattle.dp_meaning.specs.Cells.{Cell, covers, given_chance, given_reward, chance_by, reward_by, chance_of_cell}
use Rattle.dp_meaning.specs.Cells.{reward_of_cell}
use Rattle.dp_meaning.proofs.Lists.{last_none, last_is, last_other}

pub chance_uncovered : (scale : ℕ) (axes : List Axis) (statements : List Statement) (cell : Cell)
    → list_any (λ s. covers axes s.fields cell) statements ≡ false → chance_of_cell scale axes statements cell ≡ 0
unfolding chance_of_cell
chance_uncovered scale axes statements cell h = ap (chance_by scale axes cell)
    (last_none (λ s. covers axes s.fields cell) statements h)

pub chance_of_last : (scale : ℕ) (axes : List Axis) (before : List Statement) (s : Statement) (after : List Statement)
    (cell : Cell)
    → covers axes s.fields cell ≡ true → list_any (λ l. covers axes l.fields cell) after ≡ false
    → chance_of_cell scale axes (before ++ s ∷ after) cell
    ≡ given_chance scale (map axis_size axes) (length s.fields) cell s.value
unfolding chance_of_cell
chance_of_last scale axes before s after cell h none =
    ap (chance_by scale axes cell) (last_is (λ l. covers axes l.fields cell) before s after h none)

pub chance_of_others : (scale : ℕ) (axes : List Axis) (before : List Statement) (s : Statement)
    (after : List Statement) (cell : Cell)
    → covers axes s.fields cell ≡ false
    → chance_of_cell scale axes (before ++ s ∷ after) cell ≡ chance_of_cell scale axes
    (before ++ after) cell
unfolding chance_of_cell
chance_of_others scale axes before s after cell h =
    ap (chance_by scale axes cell) (last_other (λ l. covers axes l.fields cell) before s after h)

pub reward_uncovered : (cost : Bool) (scale : ℕ) (axes : List Axis) (statements : List Statement) (cell : Cell)
    → list_any (λ s. covers axes s.fields cell) statements ≡ false
    → reward_of_cell cost scale axes statements cell ≡ pos 0
unfolding reward_of_cell
reward_uncovered cost scale axes statements cell h = ap (reward_by cost scale axes cell)
    (last_none (λ s. covers axes s.fields cell) statements h)

pub reward_of_last : (cost : Bool) (scale : ℕ) (axes : List Axis) (before : List Statement) (s : Statement)
    (after : List Statement)
    (cell : Cell)
    → covers axes s.fields cell ≡ true → list_any (λ l. covers axes l.fields cell) after ≡ false
    → reward_of_cell cost scale axes (before ++ s ∷ after) cell ≡ given_reward cost scale (map axis_size axes)
    (length s.fields) cell s.value
unfolding reward_of_cell
reward_of_last cost scale axes before s after cell h none =
    ap (reward_by cost scale axes cell) (last_is (λ l. covers axes l.fields cell) before s after h none)

pub reward_of_others : (cost : Bool) (scale : ℕ) (axes : List Axis) (before : List Statement) (s : Statement)
    (after : List Statement)
    (cell : Cell)
    → covers axes s.fields cell ≡ false
    → reward_of_cell cost scale axes (before ++ s ∷ after) cell ≡ reward_of_cell cost scale axes
    (before ++ after) cell
unfolding reward_of_cell
reward_of_others cost scale axes before s after cell h =
    ap (reward_by cost scale axes cell) (last_other (λ l. covers axes l.fields cell) before s after h)
