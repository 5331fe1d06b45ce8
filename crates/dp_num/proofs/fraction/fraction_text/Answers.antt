use Rattle.std.proofs.Common.{◌≡◌, ◌+◌, ◌*◌, ◌^◌, ◌++◌, [], ◌∷◌, pos, not, IsTrue, string_bytes, unsigned_abs, ap}
use Rattle.std.proofs.Common.{subst, ◌∙◌}
use mathlib.Core.Bool.{beq}
use Rattle.std.proofs.lemmas.Int.{to_z-of_z}
use Rattle.std.specs.Int.{w128, is_negative}
use Rattle.dp_num.specs.FractionTexts.{millionths, millionths_text}
use Rattle.dp_num.proofs.Fractions.{IsMagnitude, unsigned_text, zero_text, signed_text}
use Rattle.dp_num.proofs.fraction.fraction_text.Goals.{then-below+then-not-is_zero+in_ok-push_str, else-below}
use Rattle.dp_num.proofs.fraction.fraction_text.Goals.{else-below-via-then-below+else-not-is_zero}
use Rattle.dp_num.proofs.fraction.fraction_text.Goals.{else-below-via-else-below}
use Rattle.dp_num.proofs.fraction.fraction_text.Goals as goal

pub returns : goal.returns
returns c =
    let num = c.args.num in
    let den = unsigned_abs c.args.den in
    let n = c.of-number.result.whole * 10 ^ 6 + c.of-number.result.part in
    let below = c.is_negative-below.result in
    let read = to_z-of_z w128 num c.ranges.num in
    let told : below ≡ is_negative num = c.is_negative-below.ensures ∙ ap is_negative read in
    let top = c.unsigned_abs.ensures.value ∙ ap unsigned_abs read in
    let bottom = c.unsigned_abs-2.ensures.value ∙ ap unsigned_abs (to_z-of_z w128 c.args.den c.ranges.den) in
    let is : IsMagnitude num den c.args.up below n =
    c.of-number.ensures.count ∙ (λ i. millionths (pos (top i)) (bottom i) (not (beq c.args.up below))) in
    elim c.if-below.branch [
      | then-below+then-not-is_zero+in_ok-push_str w ↦
          c.in_ok-push.ensures
          ∙ ap (λ s. string_bytes s ++ millionths_text n) w.text-is
          ∙ ap (λ l. l ++ millionths_text n)
          (w.in_ok-push_str.ensures.bytes ∙ ap (λ l. l ++ (45 ∷ [])) c.new-text.ensures.bytes)
          ∙ signed_text num den n c.args.up below told w.if-below.true
          (λ e. absurd (let is_true = subst IsTrue w.if-not-is_zero.true (w.is_zero.ensures.1 e) in cc)) is
      | else-below w ↦
          c.in_ok-push.ensures
          ∙ ap (λ s. string_bytes s ++ millionths_text n) w.text-is
          ∙ ap (λ l. l ++ millionths_text n) c.new-text.ensures.bytes
          ∙ (elim w.else-below.branch [
            | else-below-via-then-below+else-not-is_zero w' ↦
                let zero = w'.is_zero.ensures.0 w'.if-not-is_zero.false in
                zero_text num den n c.args.up below told w'.if-below.true zero is
            | else-below-via-else-below w' ↦
                unsigned_text num den n c.args.up below told w'.if-below.false is
          ])
    ]
