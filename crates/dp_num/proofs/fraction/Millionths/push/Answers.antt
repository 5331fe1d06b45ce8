use Rattle.std.proofs.Common.{◌+◌, ◌<◌, length, string_bytes, ◌++◌, subst, sym, ap, ◌∙◌, arith}
use Rattle.std.proofs.lemmas.Fmt.{decimal_nonempty}
use Rattle.dp_num.proofs.Fractions.{millionths_pushed}
use Rattle.dp_num.proofs.fraction.Millionths.push.Goals as goal

pub range_from-requires : goal.range_from-requires
range_from-requires c =
    let nonempty = decimal_nonempty (1000000 + c.args.self.now.part) (omega (arith, c.requires.part)) in
    let some : 0 < length c.format-digits.result.now =
    subst (λ ds. 0 < length ds) (sym c.format-digits.ensures.text) nonempty in
    λ any. (omega (arith, some), λ behind high. omega (arith, high, c.format-digits.ensures.ascii 1))

pub returns : goal.returns
returns c =
    let old = string_bytes c.args.text.now in
    let second = string_bytes c.push_str-2.new.self in
    millionths_pushed _ _ _ _ c.format-digits.result.now c.args.self.now.whole c.args.self.now.part
    c.requires.part
    c.format-digits.ensures.text
    (c.in_ok-push_str.ensures.bytes ∙ ap (λ l. old ++ l) c.format.ensures.text)
    c.in_ok-push_str-2.ensures.bytes
    (c.in_ok-push_str-3.ensures.bytes ∙ ap (λ l. second ++ l) c.range_from.ensures.value)
