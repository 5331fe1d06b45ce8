-- What reading says of what was written.
use Rattle.std.specs.Prelude.{◌≡◌, ℕ, ◌*◌, ◌%◌, ◌^◌, ◌<◌, ◌≤◌, ℤ, pos, ◌*ℤ◌, unsigned_abs, List, get_or, length, map}
use Rattle.std.specs.Prelude.{true, false, [], sum, Ok}
use Rattle.std.specs.Int.{◌∣◌}
use Rattle.dp_base.specs.declared.decimal.Decimal.{Decimal}
use Rattle.dp_base.specs.Decimals.{decimal_of}
use Rattle.dp_lexer.specs.declared.Kind.TheVariants.{Number}
use Rattle.dp_lexer.specs.TokenLaws.{IsOfKind}
use Rattle.dp_spec.specs.Model.{joint_actions, joint_observations, start_at, trans_at, obs_at, reward_at}
use Rattle.dp_model.specs.Names.{AreNames}
use Rattle.dp_model.specs.Tables.{IsNamedModel, NamedModel}
use Rattle.dp_meaning.specs.declared.text.Text.{Text}
use Rattle.dp_meaning.specs.Cells.{chance_over}
use Rattle.dp_meaning.specs.Meaning.{ReadModel, Means, meaning, text_of}
use Rattle.dp_writer.specs.Writable.{is_writable, written_scale}
use Rattle.dp_writer.specs.WrittenModel.{are_equal, chance_word, reward_word, written_model}
use Rattle.dp_writer.specs.WrittenNumbers.{decimal_over}
use Rattle.dp_writer.specs.WrittenText.{IsSaidBy}

-- a text is one Number, and read as the fraction n / scale
pub record ReadsAs (text : List ℕ) (n : ℤ) (scale : ℕ) : Type 0 where
  pub token : IsOfKind Number text
  pub decimal : Decimal
  pub read : decimal_of text ≡ Ok decimal
  pub fraction : (decimal.units *ℤ pos scale) ≡ (n *ℤ pos (10 ^ decimal.digits))

-- The word of a chance that is a whole multiple of 10 ^ -18 is read as that chance.
abbrev pub WrittenChancesReadBack : Type 0
WrittenChancesReadBack =
    (scale n : ℕ) → 0 < scale → n ≤ scale → n * 10 ^ 18 % scale ≡ 0 → ReadsAs (chance_word scale n) (pos n) scale

-- The word of a reward over a power of ten is read as that reward.
abbrev pub WrittenRewardsReadBack : Type 0
WrittenRewardsReadBack =
    (scale k : ℕ) (r : ℤ) → k ≤ 9 → scale ≡ 10 ^ k → unsigned_abs r ≤ 10 ^ 8 * scale
    → ReadsAs (reward_word scale r) r scale

-- how many fraction digits are written of a chance
abbrev pub fraction_digits : ℕ → ℕ → ℕ
fraction_digits scale n = (decimal_over 18 (pos n) scale).digits

-- the chance that is written of n / scale, over the scale with which it is read
abbrev pub chance_again : ℕ → ℕ → ℕ → ℕ
chance_again read scale n = chance_over read (decimal_over 18 (pos n) scale)

-- the chances of a row are the same fractions again, over a scale that they sum to
pub record IsRowAgain (read scale : ℕ) (cells : List ℕ) : Type 0 where
  pub same : (i : ℕ) → i < length cells → chance_again read scale (get_or cells i 0) * scale ≡ get_or cells i 0 * read
  pub sums : sum (map (chance_again read scale) cells) ≡ read

-- A row of whole multiples of 10 ^ -18 that sums to its scale is read with the same fractions, and needs no repair,
-- over each scale that has room for the fraction digits of its cells.
abbrev pub WrittenRowsNeedNoRepair : Type 0
WrittenRowsNeedNoRepair =
    (read scale : ℕ) (cells : List ℕ) → 0 < scale → sum cells ≡ scale
    → ((i : ℕ) → i < length cells → get_or cells i 0 * 10 ^ 18 % scale ≡ 0)
    → ((i : ℕ) → i < length cells → 10 ^ fraction_digits scale (get_or cells i 0) ∣ read)
    → IsRowAgain read scale cells

-- The scale with which rows are read has room for the fraction digits of each cell of a row that is written in
-- decimals, and where a row is uniform it can be divided by the row's length.
abbrev pub WrittenScalesHaveRoom : Type 0
WrittenScalesHaveRoom =
    (scale len : ℕ) (rows : List (List ℕ)) (i : ℕ) → i < length rows
    → (are_equal (get_or rows i []) ≡ true → len ∣ written_scale scale len rows)
    × ((j : ℕ) → are_equal (get_or rows i []) ≡ false → j < length (get_or rows i [])
    → 10 ^ fraction_digits scale (get_or (get_or rows i []) j 0) ∣ written_scale scale len rows)

-- ---- models

-- A model that is read is the model again: no row of it was repaired, its sizes and its names are equal, and its
-- chances, its discount and its rewards are the same fractions.
pub record IsModelAgain (m : NamedModel) (r : ReadModel) : Type 0 where
  pub repaired : r.repaired ≡ 0
  pub names : r.model.names ≡ m.names
  pub states : r.model.model.states ≡ m.model.states
  pub actions : r.model.model.actions ≡ m.model.actions
  pub observations : r.model.model.observations ≡ m.model.observations
  pub discount : r.model.model.scales.gain * m.model.scales.discount
      ≡ m.model.scales.gain * r.model.model.scales.discount
  pub start : (s : ℕ) → s < m.model.states
      → start_at r.model.model s * m.model.scales.start ≡ start_at m.model s * r.model.model.scales.start
  pub trans : (a s t : ℕ) → a < joint_actions m.model → s < m.model.states → t < m.model.states
      → trans_at r.model.model a s t * m.model.scales.trans ≡ trans_at m.model a s t * r.model.model.scales.trans
  pub obs : (a t o : ℕ) → a < joint_actions m.model → t < m.model.states → o < joint_observations m.model
      → obs_at r.model.model a t o * m.model.scales.obs ≡ obs_at m.model a t o * r.model.model.scales.obs
  pub reward : (a s t o : ℕ) → a < joint_actions m.model → s < m.model.states → t < m.model.states
      → o < joint_observations m.model
      → (reward_at r.model.model a s t o *ℤ pos m.model.scales.reward)
      ≡ (reward_at m.model a s t o *ℤ pos r.model.model.scales.reward)

-- A file with these bytes means the model again.
abbrev pub MeansAgain : NamedModel → List ℕ → Type 0
MeansAgain m bytes = (r : ReadModel) × (meaning bytes ≡ Means r) × IsModelAgain m r

-- A file whose text says a model that can be written means that model again.
abbrev pub SaidTextsReadBack : Type 0
SaidTextsReadBack =
    (bytes : List ℕ) (m : NamedModel) (text : Text) → IsNamedModel m → is_writable m.model ≡ true
    → text_of bytes ≡ Ok text → IsSaidBy m text → MeansAgain m bytes

-- The text that is written of a model that can be written means that model again.
abbrev pub WrittenModelsReadBack : Type 0
WrittenModelsReadBack =
    (m : NamedModel) → IsNamedModel m → AreNames m.names → is_writable m.model ≡ true → MeansAgain m (written_model m)
