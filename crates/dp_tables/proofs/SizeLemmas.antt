-- The sizes and the scales of a text, from the parts that are computed.
use Rattle.std.proofs.Common.{◌≡◌, ℕ, ◌≤◌, ◌^◌, map, subst, ap, ◌∙◌}
use Rattle.std.specs.Prelude.{List, Result, Ok, Err, IfOk, unsigned_abs}
use Rattle.dp_model.specs.declared.limit.TooLarge.{TooLarge}
use Rattle.dp_spec.specs.declared.scales.Scales.{Scales}
use Rattle.dp_meaning.specs.declared.given_list.GivenList.{GivenList}
use Rattle.dp_meaning.specs.declared.statement.Table.TheVariants.{Trans, Obs, Reward}
use Rattle.dp_meaning.specs.declared.text.Text.{Text}
use Rattle.dp_meaning.specs.NameLists.{size_of}
use Rattle.dp_meaning.specs.Statements.{axis_size}
use Rattle.dp_meaning.specs.Cells.{statements_for}
use Rattle.dp_meaning.specs.Scales.{digits_of_statements, start_scale, table_scale, scales_of}
use Rattle.dp_meaning.specs.Limits.{product_past}
use Rattle.dp_meaning.proofs.TextLimits.{counted_product}
use Rattle.dp_tables.specs.declared.sizes.JointSizes.{JointSizes}
use Rattle.dp_tables.specs.Sizes.{AreSizesOf}

-- a product that is counted up to the limit and kept is the size of the axis
size_is : (n : ℕ) (lists : List GivenList) → n ≡ product_past 256 1 (map size_of lists) → n ≤ 256
    → n ≡ axis_size lists
size_is n lists e h = e ∙ counted_product 256 (map size_of lists) (subst (λ k. k ≤ 256) e h)

pub checked_product : (size : ℕ) (lists : List GivenList) (r : Result ℕ TooLarge)
    → size ≡ product_past 256 1 (map size_of lists) → IfOk r (λ n. n ≡ size) → IfOk r (λ n. n ≤ 256)
    → IfOk r (λ n. n ≡ axis_size lists)
checked_product size lists (Ok n) e is most = size_is n lists (is ∙ e) most
checked_product size lists (Err passed) e is most = tt

-- the scales of a text, each from what it is computed from
pub record AreScalesOf (text : Text) (sizes : JointSizes) (s : Scales) : Type 0 where
  pub start : s.start ≡ start_scale text.header.start sizes.states
  pub trans : s.trans ≡ table_scale (statements_for Trans text.statements) sizes.states
  pub obs : s.obs ≡ table_scale (statements_for Obs text.statements) sizes.joint_observations
  pub reward : s.reward ≡ 10 ^ digits_of_statements (statements_for Reward text.statements)
  pub discount : s.discount ≡ 10 ^ text.header.discount.digits
  pub gain : s.gain ≡ unsigned_abs text.header.discount.units

pub scales_are : (text : Text) (sizes : JointSizes) (s : Scales) → AreSizesOf text sizes → AreScalesOf text sizes s
    → s ≡ scales_of text
unfolding scales_of
scales_are text sizes s of is =
    let start = is.start ∙ ap (start_scale text.header.start) of.states in
    let trans = is.trans ∙ ap (table_scale (statements_for Trans text.statements)) of.states in
    let obs = is.obs ∙ ap (table_scale (statements_for Obs text.statements)) of.joint_observations in
    λ i. record {
      start = start i;
      trans = trans i;
      obs = obs i;
      reward = is.reward i;
      discount = is.discount i;
      gain = is.gain i;
    }
