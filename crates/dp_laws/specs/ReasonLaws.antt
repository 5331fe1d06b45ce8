-- Why a certificate is not valid: a tree fits where nothing is wrong at any of its nodes, there is no reason exactly
-- where the certificate is valid, and the first reason names what the definitions give.
use Rattle.std.specs.Prelude.{◌≡◌, ◌↔◌, ℕ, Some, None}
use Rattle.dp_spec.specs.Model.{Model}
use Rattle.dp_spec.specs.Mode.{IsWithinVersion}
use Rattle.dp_spec.specs.Arithmetic.{Arithmetic}
use Rattle.dp_spec.specs.BoundTree.{BoundTree}
use Rattle.dp_spec.specs.Certificate.{Certificate, FitsRoot, HasPolicyOfVersion, IsValid}
use Rattle.dp_spec.specs.Fitting.{front_bound}
use Rattle.dp_spec.specs.Qualities.{nodes_of}
use Rattle.dp_spec.specs.RightNodes.{AreRightNodes}
use Rattle.dp_spec.specs.Reasons.{Reason, first_reason}
use Rattle.dp_spec.specs.FirstReason.{IsFirstReason}
use Rattle.dp_spec.specs.Steps.{root_front}

-- a tree fits the root front exactly where nothing is wrong at any of its nodes
abbrev pub FittingIsRightNodes : Type 0
FittingIsRightNodes =
    (A : Arithmetic) (m : Model) (h look : ℕ) (T : BoundTree) →
    FitsRoot A m h look T
    ↔ AreRightNodes A m h (nodes_of A m h look 0 T (root_front m) (front_bound A m h look (root_front m)))

-- a certificate whose horizon and policy are of its version has no reason exactly where it is valid
abbrev pub NoReasonWhereValid : Type 0
NoReasonWhereValid =
    (m : Model) (c : Certificate) → IsWithinVersion m c.horizon c.version → HasPolicyOfVersion m c →
    (first_reason m c ≡ None) ↔ IsValid m c

-- a reason is the first exactly where the definitions find what it says
abbrev pub FirstReasonIsFound : Type 0
FirstReasonIsFound = (m : Model) (c : Certificate) (r : Reason)
    → (first_reason m c ≡ Some r) ↔ IsFirstReason m c r
