-- The ranges of Numbers.
use Rattle.std.specs.Prelude.{Bool}
use Rattle.dp_base.specs.declared.decimal.Decimal.{Decimal}
use Rattle.dp_meaning.specs.Numbers.{is_chance, is_reward}
use Rattle.dp_text.specs.declared.numbers.Range.{Range}
use Rattle.dp_text.specs.declared.numbers.Range.TheVariants.{Chance, Reward}

-- the test of each
abbrev pub is_in : Range → Decimal → Bool
is_in Chance = is_chance
is_in Reward = is_reward
