-- The scales: what the numbers of each table are counted in.
use Rattle.std.specs.Prelude.{ℕ, ◌^◌, max, Bool, true, false, if◌then◌else◌, unsigned_abs, List}
use Rattle.std.specs.List.{fold, list_any}
use Rattle.dp_base.specs.declared.decimal.Decimal.{Decimal}
use Rattle.dp_base.specs.Divisors.{lcm_of}
use Rattle.dp_spec.specs.declared.scales.Scales.{Scales}
use Rattle.dp_meaning.specs.declared.header.Start.{Start}
use Rattle.dp_meaning.specs.declared.header.Start.TheVariants.{AnyState, OneState, StartRow}
use Rattle.dp_meaning.specs.declared.statement.Table.TheVariants.{Trans, Obs, Reward}
use Rattle.dp_meaning.specs.declared.statement.Value.{Value}
use Rattle.dp_meaning.specs.declared.statement.Value.TheVariants.{Uniform, Numbers}
use Rattle.dp_meaning.specs.declared.statement.Statement.{Statement}
use Rattle.dp_meaning.specs.declared.text.Text.{Text}
use Rattle.dp_meaning.specs.Text.{states_in, joint_observations_in}
use Rattle.dp_meaning.specs.Cells.{statements_for}

-- the greatest number of fraction digits
abbrev pub most_digits : List Decimal → ℕ
most_digits ns = fold (λ most d. max most d.digits) 0 ns

-- the greatest number of fraction digits in the value of a statement
abbrev pub digits_of_value : Value → ℕ
digits_of_value (Numbers ns) = most_digits ns
digits_of_value _ = 0

-- the greatest number of fraction digits in the values of statements
abbrev pub digits_of_statements : List Statement → ℕ
digits_of_statements statements = fold (λ most s. max most (digits_of_value s.value)) 0 statements

-- the value is `uniform`
abbrev pub is_uniform : Value → Bool
is_uniform Uniform = true
is_uniform _ = false

-- ten to the number of fraction digits, made a multiple of the row's length where a row is uniform
abbrev pub scale_of : ℕ → Bool → ℕ → ℕ
scale_of digits uniform len = if uniform then lcm_of (10 ^ digits) len else 10 ^ digits

-- the scale of a table of chances; statements that later ones replace count as well
abbrev pub table_scale : List Statement → ℕ → ℕ
table_scale statements len = scale_of (digits_of_statements statements)
    (list_any (λ s. is_uniform s.value) statements) len

-- the scale of the start
abbrev pub start_scale : Start → ℕ → ℕ
start_scale AnyState states = scale_of 0 true states
start_scale (OneState s) states = scale_of 0 false states
start_scale (StartRow at ns) states = scale_of (most_digits ns) false states

-- the scales of a text, and its discount, which is `gain` over its scale
unfoldable pub scales_of : Text → Scales
scales_of text = record {
  start = start_scale text.header.start (states_in text);
  trans = table_scale (statements_for Trans text.statements) (states_in text);
  obs = table_scale (statements_for Obs text.statements) (joint_observations_in text);
  reward = 10 ^ digits_of_statements (statements_for Reward text.statements);
  discount = 10 ^ text.header.discount.digits;
  gain = unsigned_abs text.header.discount.units;
}
