use Rattle.std.proofs.Common.{◌≡◌, ℕ, List, ◌++◌, [], ◌∷◌, ℤ, ◌<◌, ◌^◌, true, false, codes, unsigned_abs, to_z, of_z}
use Rattle.std.proofs.Common.{ap, ◌∙◌, arith}
use Rattle.std.specs.Int.{w128}
use Rattle.std.proofs.lemmas.Int.{fits_signed_from_abs, ints, to_z-of_z}
use Rattle.dp_cli.specs.NumberTexts.{field_text, signed_field_text}
use Rattle.dp_cli.specs.TrialCommand.{trial_text}
use Rattle.dp_cli.specs.ValueCommand.{end_text, mode_word}
use Rattle.dp_cli.proofs.ValueTexts.{and_then}
use Rattle.dp_cli.proofs.trial.trial_text.Goals as goal

-- a number that is small enough is read back
back : (z : ℤ) → unsigned_abs z < 2 ^ 127 → to_z w128 (of_z w128 z) ≡ z
back z small = to_z-of_z w128 z (fits_signed_from_abs w128 z small)

-- what is appended to an empty text is all of it
begins : (t0 t rest : List ℕ) → t0 ≡ [] → t ≡ t0 ++ rest → t ≡ rest
begins t0 t rest empty whole = whole ∙ ap (λ l. l ++ rest) empty

pub returns : goal.returns
unfolding trial_text
returns c =
    let w = c.args.cert.now in
    let lower = back w.lower (omega (arith, c.requires.lower)) in
    let upper = back w.upper (omega (arith, c.requires.upper)) in
    let unit = back w.unit (omega (arith, ints, c.requires.some, c.requires.unit)) in
    let t0 = c.new-text.result.items in
    let t1 = c.push_number.new.text.items in
    let t2 = c.extend_from_slice.new.self.items in
    let t3 = c.extend_from_slice-2.new.self.items in
    let t4 = c.push_signed.new.text.items in
    let t5 = c.push_number-2.new.text.items in
    let t6 = c.push.new.self.items in
    let t7 = c.push_end.new.text.items in
    let t8 = c.push_end-2.new.text.items in
    let mode = c.as_bytes.ensures.value ∙ c.mode_word.ensures in
    let e3 = c.in_ok-extend_from_slice-2.ensures.items ∙ ap (λ l. t2 ++ l) mode in
    let e4 = c.in_ok-push_signed.ensures ∙ ap (λ u. t3 ++ signed_field_text (codes "\nunit ") u) unit in
    let e5 = c.in_ok-push_number-2.ensures ∙ ap (λ n. t4 ++ field_text (codes "\ninner ") n) c.from.ensures in
    let e7 = c.in_ok-push_end.ensures ∙ (λ i. t6 ++ end_text (codes "lower ") (lower i) (unit i) false) in
    let e8 = c.in_ok-push_end-2.ensures ∙ (λ i. t7 ++ end_text (codes "upper ") (upper i) (unit i) true) in
    begins t0 t8 _ c.new-text.ensures.items
    (and_then t0 t1 t8 (field_text (codes "trial ") c.args.seed) _ c.in_ok-push_number.ensures
    (and_then t1 t2 t8 (codes "\nmode ") _ c.in_ok-extend_from_slice.ensures.items
    (and_then t2 t3 t8 (mode_word w.exact) _ e3
    (and_then t3 t4 t8 (signed_field_text (codes "\nunit ") w.unit) _ e4
    (and_then t4 t5 t8 (field_text (codes "\ninner ") w.inner) _ e5
    (and_then t5 t6 t8 (10 ∷ []) _ c.in_ok-push.ensures.items
    (and_then t6 t7 t8 (end_text (codes "lower ") w.lower w.unit false)
    (end_text (codes "upper ") w.upper w.unit true) e7 e8)))))))
