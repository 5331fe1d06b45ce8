use Rattle.std.proofs.Common.{◌+◌, drop, length, ap, ◌∙◌, arith}
use Rattle.std.specs.Fmt.{decimal}
use Rattle.std.proofs.lemmas.Result.{on_ok_weaker}
use Rattle.dp_base.proofs.SignificandLaws.{tens_up}
use Rattle.dp_writer.specs.LimitedTexts.{added}
use Rattle.dp_writer.proofs.DigitTexts.{with_one}
use Rattle.dp_writer.proofs.decimals.push_last_digits.Goals as goal

pub overflow_add-pow : goal.overflow_add-pow
overflow_add-pow c =
    omega (arith, c.pow.ensures, tens_up c.args.digits 18 c.requires.digits, c.requires.below)

pub behind_first-requires : goal.behind_first-requires
behind_first-requires c =
    let is = c.as_bytes-with_one.ensures.value ∙ c.format.ensures.text
    ∙ ap (λ p. decimal (p + c.args.number)) c.pow.ensures
    ∙ with_one c.args.digits c.args.number c.requires.digits c.requires.below in
    omega (arith, ap length is)

pub returns : goal.returns
returns c =
    let is = c.as_bytes-with_one.ensures.value ∙ c.format.ensures.text
    ∙ ap (λ p. decimal (p + c.args.number)) c.pow.ensures
    ∙ with_one c.args.digits c.args.number c.requires.digits c.requires.below in
    on_ok_weaker c.push.result (λ e. e ∙ ap (added c.args.text.now) (c.behind_first.ensures ∙ ap (drop 1) is))
    c.push.ensures
