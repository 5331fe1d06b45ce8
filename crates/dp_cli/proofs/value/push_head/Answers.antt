use Rattle.std.proofs.Common.{◌++◌, ◌∷◌, [], ap, codes, decimal, ◌∙◌}
use Rattle.std.proofs.lemmas.Int.{to_z-of_z}
use Rattle.std.specs.Fmt.{signed_decimal}
use Rattle.std.specs.Int.{w128}
use Rattle.dp_cli.specs.ValueCommand.{mode_word}
use Rattle.dp_cli.proofs.ValueTexts.{head_pushed}
use Rattle.dp_cli.proofs.value.push_head.Goals as goal

pub returns : goal.returns
returns c =
    let t1 = c.extend_from_slice.new.self.items in
    let t3 = c.extend_from_slice-3.new.self.items in
    let t5 = c.extend_from_slice-5.new.self.items in
    let repaired = c.as_bytes.ensures.value ∙ c.format.ensures.text in
    let mode = c.as_bytes-2.ensures.value ∙ c.mode_word.ensures in
    let unit = c.as_bytes-3.ensures.value ∙ c.format-2.ensures.text
    ∙ ap signed_decimal (to_z-of_z w128 c.args.unit c.ranges.unit) in
    head_pushed c.args.text.now.items c.extend_from_slice.new.self.items c.extend_from_slice-2.new.self.items
    c.extend_from_slice-3.new.self.items c.extend_from_slice-4.new.self.items
    c.extend_from_slice-5.new.self.items
    c.extend_from_slice-6.new.self.items c.push.new.self.items
    (codes "repaired ") (decimal c.args.repaired) (codes "\nmode ") (mode_word c.args.exact) (codes "\nunit ")
    (signed_decimal c.args.unit) (10 ∷ [])
    c.in_ok-extend_from_slice.ensures.items
    (c.in_ok-extend_from_slice-2.ensures.items ∙ ap (λ l. t1 ++ l) repaired)
    c.in_ok-extend_from_slice-3.ensures.items
    (c.in_ok-extend_from_slice-4.ensures.items ∙ ap (λ l. t3 ++ l) mode)
    c.in_ok-extend_from_slice-5.ensures.items
    (c.in_ok-extend_from_slice-6.ensures.items ∙ ap (λ l. t5 ++ l) unit)
    c.in_ok-push.ensures.items
