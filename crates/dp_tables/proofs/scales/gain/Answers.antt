use Rattle.std.proofs.Common.{◌≡◌, ap, ◌∙◌, arith}
use Rattle.std.specs.Int.{w128}
use Rattle.std.specs.Prelude.{unsigned_abs}
use Rattle.std.proofs.lemmas.Int.{fits_signed_from_abs, to_z-of_z}
use Rattle.dp_base.proofs.SignificandLaws.{tens_up}
use Rattle.dp_meaning.proofs.SaidTexts.{discount_digits, discount_units}
use Rattle.dp_tables.proofs.scales.gain.Goals as goal

units : (c : goal.After-unsigned_abs) → (c.unsigned_abs.result ≡ unsigned_abs c.args.text.now.header.discount.units)
units c =
    let text = c.args.text.now in
    let most = tens_up text.header.discount.digits 18 (discount_digits text c.requires) in
    let small = discount_units text c.requires in
    c.unsigned_abs.ensures.value ∙ ap unsigned_abs (to_z-of_z w128 text.header.discount.units
    (fits_signed_from_abs w128 _ (omega arith)))

pub overflow_cast-result : goal.overflow_cast-result
overflow_cast-result c =
    let text = c.args.text.now in
    let is = units c in
    let small = discount_units text c.requires in
    let most = tens_up text.header.discount.digits 18 (discount_digits text c.requires) in omega arith
