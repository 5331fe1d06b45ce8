use Rattle.std.proofs.Common.{◌≡◌, ◌∷◌, ◌++◌, [], true, false, pos, unsigned_abs, sym, ap, ◌∙◌}
use Rattle.std.specs.Int.{w64}
use Rattle.std.specs.Int.Signed.{lt_z}
use Rattle.std.proofs.lemmas.Int.{to_z-of_z}
use Rattle.std.proofs.lemmas.Result.{on_ok_weaker}
use Rattle.dp_writer.specs.LimitedTexts.{added}
use Rattle.dp_writer.specs.WrittenNumbers.{is_below_zero, magnitude_text, sign_text}
use Rattle.dp_writer.proofs.Appending.{behind, spelled}
use Rattle.dp_writer.proofs.DigitTexts.{below_zero_is, reward_of}
use Rattle.dp_writer.proofs.decimals.push_reward.Goals as goal
use Rattle.dp_writer.proofs.decimals.push_reward.Goals.{then-r-lt0+in_ok-push, else-r-lt0}

pub returns : goal.returns
returns c =
    let x = c.args.text.now in
    let z = c.push_magnitude.new.text in
    let r = c.args.r in
    let u = c.magnitude_over.result.units in
    let d = c.magnitude_over.result.digits in
    let back = to_z-of_z w64 r c.ranges.r in
    let is = reward_of c.args.scale c.unsigned_abs.result u d r (c.unsigned_abs.ensures.value ∙ ap unsigned_abs back)
    (λ negative. c.magnitude_over.ensures.is negative)
    (λ above. c.magnitude_over.ensures.some above c.requires.scale) in
    elim c.if-r-lt0.branch [
      | then-r-lt0+in_ok-push w ↦ (
          let below : is_below_zero r ≡ true = sym (below_zero_is r) ∙ ap (λ v. lt_z v (pos 0)) (sym back)
          ∙ w.if-r-lt0.true in
          on_ok_weaker c.push_magnitude.result
          (λ e. spelled x z _ _ (sym (is ∙ ap (λ b. sign_text b ++ magnitude_text u d) below))
          (behind x w.push.new.self z (45 ∷ []) (magnitude_text u d) w.in_ok-push.ensures
          (e ∙ ap (λ v. added v (magnitude_text u d)) w.text-is)))
          c.push_magnitude.ensures
          )
      | else-r-lt0 w ↦ (
          let below : is_below_zero r ≡ false = sym (below_zero_is r) ∙ ap (λ v. lt_z v (pos 0)) (sym back)
          ∙ w.if-r-lt0.false in
          on_ok_weaker c.push_magnitude.result
          (λ e. spelled x z _ _ (sym (is ∙ ap (λ b. sign_text b ++ magnitude_text u d) below))
          (e ∙ ap (λ v. added v (magnitude_text u d)) w.text-is))
          c.push_magnitude.ensures
          )
    ]
