-- The values of a statement as a block, which its cells hold over and over.
use Rattle.std.specs.Prelude.{◌≡◌, ℕ, ◌*◌, ◌/◌, ◌%◌, ◌==◌, Bool, true, ℤ, if◌then◌else◌, List, [], ◌∷◌, map, All}
use Rattle.std.specs.List.{range_with_len}
use Rattle.dp_meaning.specs.declared.statement.Value.{Value}
use Rattle.dp_meaning.specs.declared.statement.Value.TheVariants.{Uniform, Identity, Numbers}
use Rattle.dp_meaning.specs.Numbers.{is_chance, is_reward}
use Rattle.dp_meaning.specs.Cells.{chance_over, reward_over}

-- the cells of the identity of so many rows, row by row
abbrev pub identity_at : ℕ → ℕ → ℕ → ℕ
identity_at scale len j = if j / len == j % len then scale else 0

-- in a table whose rows have so many cells
abbrev pub chance_block : ℕ → ℕ → Value → List ℕ
chance_block scale len Uniform = scale / len ∷ []
chance_block scale len Identity = map (identity_at scale len) (range_with_len 0 (len * len))
chance_block scale len (Numbers ns) = map (chance_over scale) ns

-- the numbers of a value are chances
abbrev pub IsChanceValue : Value → Type 0
IsChanceValue (Numbers ns) = All (λ d. is_chance d ≡ true) ns
IsChanceValue _ = Unit {0}

-- the rewards of a value over their scale, where they may be given as costs
abbrev pub reward_block : Bool → ℕ → Value → List ℤ
reward_block cost scale (Numbers ns) = map (reward_over cost scale) ns
reward_block cost scale _ = []

-- the numbers of a value are rewards
abbrev pub IsRewardValue : Value → Type 0
IsRewardValue (Numbers ns) = All (λ d. is_reward d ≡ true) ns
IsRewardValue _ = Unit {0}
