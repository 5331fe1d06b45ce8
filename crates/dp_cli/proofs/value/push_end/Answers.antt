use Rattle.std.proofs.Common.{◌++◌, ap, ◌∙◌}
use Rattle.std.specs.Prelude.{unsigned_abs}
use Rattle.std.proofs.lemmas.Int.{to_z-of_z}
use Rattle.std.specs.Fmt.{signed_decimal}
use Rattle.std.specs.Int.{w128}
use Rattle.dp_num.specs.FractionTexts.{fraction_text}
use Rattle.dp_cli.proofs.ValueTexts.{end_pushed}
use Rattle.dp_cli.proofs.value.push_end.Goals as goal

pub returns : goal.returns
returns c =
    let t1 = c.extend_from_slice.new.self.items in
    let t3 = c.push.new.self.items in
    let number = c.as_bytes.ensures.value ∙ c.format.ensures.text
    ∙ ap signed_decimal (to_z-of_z w128 c.args.number c.ranges.number) in
    let top = to_z-of_z w128 c.args.number c.ranges.number in
    let bottom = to_z-of_z w128 c.args.unit c.ranges.unit in
    let fraction = c.as_bytes-2.ensures.value ∙ c.in_ok-fraction.ensures
    ∙ (λ i. fraction_text (top i) (unsigned_abs (bottom i)) c.args.up) in
    end_pushed c.args.text.now.items c.extend_from_slice.new.self.items c.extend_from_slice-2.new.self.items
    c.push.new.self.items c.extend_from_slice-3.new.self.items c.push-2.new.self.items c.args.word.now
    (signed_decimal c.args.number) (fraction_text c.args.number (unsigned_abs c.args.unit) c.args.up)
    c.in_ok-extend_from_slice.ensures.items
    (c.in_ok-extend_from_slice-2.ensures.items ∙ ap (λ l. t1 ++ l) number)
    c.in_ok-push.ensures.items
    (c.in_ok-extend_from_slice-3.ensures.items ∙ ap (λ l. t3 ++ l) fraction)
    c.in_ok-push-2.ensures.items
