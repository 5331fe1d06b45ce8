-- A text that grows up to a limit.
use Rattle.std.specs.Prelude.{ℕ, List, ◌++◌}
use Rattle.dp_model.specs.declared.limit.Limit.{Limit}

-- all of the text, and the limit on its length
pub record LimitedTextView : Type 0 where
  pub bytes : List ℕ
  pub limit : Limit

-- the text with more bytes behind it
abbrev pub added : LimitedTextView → List ℕ → LimitedTextView
added text bytes = record text { bytes = text.bytes ++ bytes }
