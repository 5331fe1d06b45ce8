use Rattle.std.proofs.Common.{◌%◌, ◌/◌, ◌^◌, ◌∷◌, ◌++◌, [], sym, ap, arith}
use Rattle.std.specs.Fmt.{decimal}
use Rattle.std.proofs.Math.Nat.{mod-lt}
use Rattle.std.proofs.lemmas.Result.{on_ok_weaker}
use Rattle.dp_base.proofs.SignificandLaws.{tens_up}
use Rattle.dp_writer.specs.WrittenNumbers.{last_digits}
use Rattle.dp_writer.proofs.Appending.{behind, spelled}
use Rattle.dp_writer.proofs.DigitTexts.{fraction_is}
use Rattle.dp_writer.proofs.decimals.push_magnitude.Goals as goal

pub nonzero_div-number : goal.nonzero_div-number
nonzero_div-number c = omega (arith, c.pow-one.ensures, tens_up 0 c.args.number.digits (omega arith))

pub nonzero_rem-number : goal.nonzero_rem-number
nonzero_rem-number c = omega (arith, c.pow-one.ensures, tens_up 0 c.args.number.digits (omega arith))

pub push_last_digits-requires-clause-below : goal.push_last_digits-requires-clause-below
push_last_digits-requires-clause-below c =
    omega (
      arith,
      ap (λ p. c.args.number.units % p) c.pow-one.ensures,
      mod-lt c.args.number.units {m = 10 ^ c.args.number.digits}
          (omega (arith, tens_up 0 c.args.number.digits (omega arith))),
    )

pub returns : goal.returns
returns c =
    let x = c.args.text.now in
    let n = c.args.number in
    let whole = decimal (n.units / 10 ^ n.digits) in
    let rest = last_digits n.digits (n.units % 10 ^ n.digits) in
    let first = spelled x c.push_number.new.text (decimal (n.units / c.pow-one.result)) whole
    (ap (λ p. decimal (n.units / p)) c.pow-one.ensures) c.in_ok-push_number.ensures in
    on_ok_weaker c.push_last_digits.result
    (λ e. spelled x c.push_last_digits.new.text _ _
    (ap (λ l. whole ++ l) (sym (fraction_is n.units n.digits c.if-number-eq0.false)))
    (behind x c.push_number.new.text c.push_last_digits.new.text whole (46 ∷ rest) first
    (behind c.push_number.new.text c.push.new.self c.push_last_digits.new.text (46 ∷ []) rest
    c.in_ok-push.ensures
    (spelled c.push.new.self c.push_last_digits.new.text _ rest
    (ap (λ p. last_digits n.digits (n.units % p)) c.pow-one.ensures) e))))
    c.push_last_digits.ensures
