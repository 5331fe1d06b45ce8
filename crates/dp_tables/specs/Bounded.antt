-- A text within its limits.
use Rattle.std.specs.Prelude.{◌≡◌, ℕ, None}
use Rattle.dp_spec.specs.declared.scales.Scales.{Scales}
use Rattle.dp_meaning.specs.declared.text.Text.{Text}
use Rattle.dp_meaning.specs.Limits.{passed_limit}
use Rattle.dp_meaning.specs.Meaning.{IsSaid}
use Rattle.dp_meaning.specs.Scales.{scales_of}
use Rattle.dp_tables.specs.declared.sizes.JointSizes.{JointSizes}
use Rattle.dp_tables.specs.Sizes.{AreSizesOf}

-- the text of a file, and the length of the file
pub record FileText : Type 0 where
  pub text : Text
  pub end : ℕ

-- some file says the text, it passes no limit, and these are its sizes and its scales
pub record IsBounded (text : Text) (sizes : JointSizes) (scales : Scales) : Type 0 where
  pub said : IsSaid text
  pub within : passed_limit text ≡ None
  pub are_sizes : AreSizesOf text sizes
  pub are_scales : scales ≡ scales_of text
