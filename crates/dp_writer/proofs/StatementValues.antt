-- The values of statements, read from pieces by their symbols.
use Rattle.std.proofs.Common.{◌≡◌, ℕ, ◌<◌, Bool, true, false, cond, ℤ, pos, List, [], ◌∷◌}
use Rattle.std.proofs.Common.{length, map, refl, ap, ◌∙◌, arith}
use Rattle.std.specs.Prelude.{codes}
use Rattle.std.specs.Str.{bytes_eq}
use Rattle.dp_base.specs.DecimalShape.{is_decimal}
use Rattle.dp_spec.specs.JointNumbers.{product}
use Rattle.dp_meaning.specs.declared.statement.Table.TheVariants.{Reward}
use Rattle.dp_meaning.specs.declared.statement.Value.TheVariants.{Uniform, Numbers}
use Rattle.dp_meaning.specs.Items.{Piece}
use Rattle.dp_meaning.specs.Numbers.{is_chance, is_reward, numbers}
use Rattle.dp_meaning.specs.Fields.{Axis}
use Rattle.dp_meaning.specs.Statements.{axis_size, value_of}
use Rattle.dp_meaning.proofs.Each.{Each}
use Rattle.dp_meaning.proofs.FaultSteps.{done}
use Rattle.dp_writer.specs.declared.rows.ChanceTable.{ChanceTable}
use Rattle.dp_writer.specs.declared.rows.ChanceTable.TheVariants.{Next, Seen}
use Rattle.dp_writer.specs.WrittenModel.{are_equal, chance_word, reward_word, row_words}
use Rattle.dp_writer.specs.WrittenNumbers.{decimal_over}
use Rattle.dp_writer.specs.WrittenText.{chance_decimals, reward_decimals, row_value, said_table}
use Rattle.dp_writer.proofs.EntryValues.{number_says, uniform_no_number}
use Rattle.dp_writer.proofs.ReadPieces.{IsNumberOf, numbers_read, step_done, text_is}
use Rattle.dp_writer.proofs.Symbols.{run_symbol, symbol_of}
use Rattle.dp_writer.proofs.WrittenFacts.{IsWrittenRow}

-- ---- rows of chances

one_axis : (axis : Axis) (n : ℕ) → axis_size axis ≡ n → product (map axis_size (axis ∷ [])) ≡ n
one_axis axis n e = omega (arith, e)

-- a row that is written in decimals
chances_read : (table : ChanceTable) (axis : Axis) (next scale : ℕ) (cells : List ℕ) (pieces : List Piece)
    → 0 < length cells → Each (λ n. IsNumberOf is_chance (chance_word scale n) (decimal_over 18 (pos n) scale)) cells
    → axis_size axis ≡ length cells → map symbol_of pieces ≡ map run_symbol (map (chance_word scale) cells)
    → value_of (said_table table) (axis ∷ []) next pieces ≡ done (Numbers (chance_decimals scale cells))
unfolding value_of
chances_read table axis next scale [] pieces some each size e = absurd (omega (arith, some))
chances_read table axis next scale (n ∷ cells) [] some each size e = absurd cc
chances_read table axis next scale (n ∷ cells) (piece ∷ pieces) some each size e =
    let same : symbol_of piece ≡ run_symbol (chance_word scale n) = cc in
    let shape : is_decimal piece.text ≡ true = ap is_decimal (text_is piece (chance_word scale n) same)
    ∙ each.0.shape in
    by table (number_says (codes "uniform") piece.text uniform_no_number shape)
  where
    count : product (map axis_size (axis ∷ [])) ≡ length (n ∷ cells)
    count = one_axis axis (length (n ∷ cells)) size

    by : (which : ChanceTable) → bytes_eq (codes "uniform") piece.text ≡ false
        → value_of (said_table which) (axis ∷ []) next (piece ∷ pieces)
        ≡ done (Numbers (chance_decimals scale (n ∷ cells)))
    by Next no_uniform = rw no_uniform
        (step_done (numbers is_chance next (product (map axis_size (axis ∷ []))) (piece ∷ pieces))
        (λ ns. done (Numbers ns)) (chance_decimals scale (n ∷ cells))
        (numbers_read is_chance next (product (map axis_size (axis ∷ []))) (chance_word scale)
        (λ c. decimal_over 18 (pos c) scale) (n ∷ cells) (piece ∷ pieces) count each e))
    by Seen no_uniform = rw no_uniform
        (step_done (numbers is_chance next (product (map axis_size (axis ∷ []))) (piece ∷ pieces))
        (λ ns. done (Numbers ns)) (chance_decimals scale (n ∷ cells))
        (numbers_read is_chance next (product (map axis_size (axis ∷ []))) (chance_word scale)
        (λ c. decimal_over 18 (pos c) scale) (n ∷ cells) (piece ∷ pieces) count each e))

-- `uniform`
uniform_read : (table : ChanceTable) (axis : Axis) (next : ℕ) (pieces : List Piece)
    → map symbol_of pieces ≡ run_symbol (codes "uniform") ∷ []
    → value_of (said_table table) (axis ∷ []) next pieces ≡ done Uniform
unfolding value_of
uniform_read table axis next [] e = absurd cc
uniform_read table axis next (piece ∷ []) e =
    let same : symbol_of piece ≡ run_symbol (codes "uniform") = cc in
    by table (ap (bytes_eq (codes "uniform")) (text_is piece (codes "uniform") same))
  where
    by : (which : ChanceTable) → bytes_eq (codes "uniform") piece.text ≡ true
        → value_of (said_table which) (axis ∷ []) next (piece ∷ []) ≡ done Uniform
    by Next says = rw says refl
    by Seen says = rw says refl
uniform_read table axis next (piece ∷ more ∷ pieces) e = absurd cc

-- a row of chances
pub row_value_read : (table : ChanceTable) (axis : Axis) (next scale : ℕ) (cells : List ℕ) (pieces : List Piece)
    → IsWrittenRow scale cells → axis_size axis ≡ length cells
    → map symbol_of pieces ≡ map run_symbol (row_words scale cells)
    → value_of (said_table table) (axis ∷ []) next pieces ≡ done (row_value scale cells)
unfolding row_words
row_value_read table axis next scale cells pieces is size e = by (are_equal cells) refl e
  where
    by : (b : Bool) → are_equal cells ≡ b
        → map symbol_of pieces ≡ map run_symbol (cond b (codes "uniform" ∷ []) (map (chance_word scale) cells))
        → value_of (said_table table) (axis ∷ []) next pieces
        ≡ done (cond b Uniform (Numbers (chance_decimals scale cells)))
    by true t f = uniform_read table axis next pieces f
    by false t f = chances_read table axis next scale cells pieces is.some (is.numbers t) size f

-- ---- rewards

-- rewards one after the other
pub rewards_value_read : (rest : List Axis) (next scale : ℕ) (rs : List ℤ) (pieces : List Piece) → 0 < length rs
    → product (map axis_size rest) ≡ length rs
    → Each (λ r. IsNumberOf is_reward (reward_word scale r) (decimal_over 9 r scale)) rs
    → map symbol_of pieces ≡ map run_symbol (map (reward_word scale) rs)
    → value_of Reward rest next pieces ≡ done (Numbers (reward_decimals scale rs))
unfolding value_of
rewards_value_read rest next scale [] pieces some count each e = absurd (omega (arith, some))
rewards_value_read rest next scale (r ∷ rs) [] some count each e = absurd cc
rewards_value_read rest next scale (r ∷ rs) (piece ∷ pieces) some count each e =
    step_done (numbers is_reward next (product (map axis_size rest)) (piece ∷ pieces)) (λ ns. done (Numbers ns))
    (reward_decimals scale (r ∷ rs))
    (numbers_read is_reward next (product (map axis_size rest)) (reward_word scale) (λ x. decimal_over 9 x scale)
    (r ∷ rs)
    (piece ∷ pieces) count each e)
