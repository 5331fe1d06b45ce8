-- Where a text means a model.
use Rattle.std.proofs.Common.{◌≡◌, ℕ, List, length, refl, sym, ap, subst, ◌∙◌}
use Rattle.std.specs.Prelude.{Option, Some, None, Result, Ok, Err}
use Rattle.dp_model.specs.declared.limit.TooLarge.{TooLarge}
use Rattle.dp_meaning.specs.declared.why.Fault.{Fault}
use Rattle.dp_meaning.specs.declared.text.Text.{Text}
use Rattle.dp_meaning.specs.Limits.{passed_limit}
use Rattle.dp_meaning.specs.Meaning.{text_of, ReadModel, repaired_model, Means, meaning_of_model, meaning_within}
use Rattle.dp_meaning.specs.Meaning.{meaning_of_text, meaning}
use Rattle.dp_meaning.specs.MeaningLaws.{IsMeant}
use Rattle.dp_meaning.proofs.FaultSteps.{done}

-- a text that is within the limits and means this model
pub record IsReadWithinLimits (bytes : List ℕ) (text : Text) (r : ReadModel) : Type 0 where
  pub says : text_of bytes ≡ Ok text
  pub within : passed_limit text ≡ None
  pub model : repaired_model (length bytes) text ≡ done r

means_same : (x y : ReadModel) → Means x ≡ Means y → x ≡ y
means_same x y e = cc

of_model : (bytes : List ℕ) (m : Result ReadModel Fault) (r : ReadModel) → meaning_of_model bytes m ≡ Means r
    → m ≡ done r
of_model bytes (Ok x) r e = ap done (means_same x r e)
of_model bytes (Err f) r e = cc

of_limit : (bytes : List ℕ) (text : Text) (p : Option TooLarge) (r : ReadModel)
    → meaning_within bytes text p ≡ Means r
    → (p ≡ None) × (repaired_model (length bytes) text ≡ done r)
of_limit bytes text (Some passed) r e = cc
of_limit bytes text None r e = (refl, of_model bytes (repaired_model (length bytes) text) r e)

of_text : (bytes : List ℕ) (t : Result Text Fault) (r : ReadModel) → text_of bytes ≡ t
    → meaning_of_text bytes t ≡ Means r
    → (text : Text) × IsReadWithinLimits bytes text r
of_text bytes (Err f) r s e = cc
of_text bytes (Ok text) r s e =
    let w = of_limit bytes text (passed_limit text) r e in (text, record { says = s; within = w.0; model = w.1 })

pub meant : (bytes : List ℕ) (r : ReadModel) → meaning bytes ≡ Means r
    → (text : Text) × IsReadWithinLimits bytes text r
unfolding meaning
meant bytes r e = of_text bytes (text_of bytes) r refl e

text_same : (x y : Text) → done x ≡ done y → x ≡ y
text_same x y e = cc

-- the same of a text that is named
pub meant_text : (bytes : List ℕ) (text : Text) (r : ReadModel) → IsMeant bytes text r
    → IsReadWithinLimits bytes text r
meant_text bytes text r h =
    let w = meant bytes r h.means in
    let same : w.0 ≡ text = text_same w.0 text (sym w.1.says ∙ h.says) in
    subst (λ t. IsReadWithinLimits bytes t r) same w.1
