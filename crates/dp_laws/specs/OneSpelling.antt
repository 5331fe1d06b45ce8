-- Texts and values belong to each other one to one: no two values have the same text, and no value has two. (Own.)
use Rattle.std.specs.Prelude.{◌≡◌, ℕ, ◌^◌, ◌<◌, List}
use Rattle.dp_spec.specs.Model.{Model, IsModel}
use Rattle.dp_spec.specs.PolicyTree.{PolicyTree, IsPolicyOf}
use Rattle.dp_spec.specs.PolicyText.{policy_text, IsPolicyText}
use Rattle.dp_spec.specs.Certificate.{Certificate, HasPolicyOfVersion}
use Rattle.dp_spec.specs.CertificateText.{certificate_text, HasTextNumbers, IsCertificateText}

-- a text is that of one horizon and one joint policy
abbrev pub OnePolicyPerText : Type 0
OnePolicyPerText =
    (m : Model) → IsModel m → (bytes : List ℕ) (h k : ℕ) (qs ps : List PolicyTree) → IsPolicyText m bytes h qs →
    IsPolicyText m bytes k ps → (h ≡ k) × (qs ≡ ps)

-- a joint policy has one text
abbrev pub OneTextPerPolicy : Type 0
OneTextPerPolicy =
    (m : Model) (bytes others : List ℕ) (h : ℕ) (qs : List PolicyTree) → IsPolicyText m bytes h qs →
    IsPolicyText m others h qs → bytes ≡ others

-- every joint policy of one step or more, and of a horizon of 32 bits, has a text
abbrev pub EachPolicyHasText : Type 0
EachPolicyHasText =
    (m : Model) → IsModel m → (h : ℕ) (qs : List PolicyTree) → 0 < h → h < 2 ^ 32 → IsPolicyOf m h qs →
    IsPolicyText m (policy_text m.actions m.observations h qs) h qs

-- every certificate whose numbers its lines allow, with a policy of its version for the model, has a text
abbrev pub EachCertificateHasText : Type 0
EachCertificateHasText =
    (m : Model) → IsModel m → (c : Certificate) → HasTextNumbers c → HasPolicyOfVersion m c →
    IsCertificateText m (certificate_text m.actions m.observations c) c

-- a text is that of one certificate
abbrev pub OneCertificatePerText : Type 0
OneCertificatePerText =
    (m : Model) → IsModel m → (bytes : List ℕ) (c d : Certificate) → IsCertificateText m bytes c →
    IsCertificateText m bytes d → c ≡ d

-- a certificate has one text
abbrev pub OneTextPerCertificate : Type 0
OneTextPerCertificate =
    (m : Model) (bytes others : List ℕ) (c : Certificate) → IsCertificateText m bytes c →
    IsCertificateText m others c → bytes ≡ others
