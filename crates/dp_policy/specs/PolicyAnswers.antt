-- What bytes are as a policy text: the joint policy that they say, or their first bad line, or the limit before it.
use Rattle.std.specs.Prelude.{◌≡◌, ℕ, List, None, Result, Ok, Err}
use Rattle.dp_spec.specs.Model.{Model, IsModel}
use Rattle.dp_spec.specs.PolicyText.{IsPolicyText}
use Rattle.dp_spec.specs.PolicyTree.{PolicyTree}
use Rattle.dp_model.specs.Horizons.{horizon_limits}
use Rattle.dp_model.specs.Limits.{first_passed}
use Rattle.dp_model.specs.declared.limit.TooLarge.{TooLarge}
use Rattle.dp_lines.specs.Grammar.{Fault, IsFirstBad, PassesLimit, bad, limit}
use Rattle.dp_policy.specs.declared.fault.PolicyFault.{PolicyFault}
use Rattle.dp_policy.specs.declared.fault.PolicyFault.TheVariants as faults
use Rattle.dp_policy.specs.PolicyGrammar.{policy_grammar}
use Rattle.dp_policy.specs.Trees.{HorizonTrees, joint_policy}

-- a joint policy of so many steps
pub record SaidPolicy : Type 0 where
  pub horizon : ℕ
  pub trees : List PolicyTree

-- what trees over a horizon say
abbrev pub said_by : HorizonTrees → SaidPolicy
said_by p = record { horizon = p.horizon; trees = joint_policy p }

-- the horizon passes no limit of the model
abbrev pub PassesNone : Model → ℕ → Type 0
PassesNone m h = first_passed (horizon_limits m h) ≡ None

-- The bytes are the text of this joint policy, whose horizon passes no limit; or this line is the first that is not
-- as required; or the lines up to the horizon are as required, and this limit is passed.
abbrev pub IsPolicyAnswer : Model → List ℕ → Result SaidPolicy (Fault TooLarge) → Type 0
IsPolicyAnswer m bytes (Ok p) = IsPolicyText m bytes p.horizon p.trees × PassesNone m p.horizon
IsPolicyAnswer m bytes (Err (bad line why)) = IsFirstBad (policy_grammar m) 1 bytes line why
IsPolicyAnswer m bytes (Err (limit passed)) = PassesLimit (policy_grammar m) bytes passed

-- the bytes have this fault, where memory may always run out
abbrev pub HasPolicyFault : Model → List ℕ → PolicyFault → Type 0
HasPolicyFault m bytes (faults.At line why) = IsPolicyAnswer m bytes (Err (bad line why))
HasPolicyFault m bytes (faults.TooLarge passed) = IsPolicyAnswer m bytes (Err (limit passed))
HasPolicyFault m bytes faults.Memory = Unit {0}

-- For each model: bytes are the text of one joint policy, or have one first bad line, or pass one limit, and no two
-- of these.
abbrev pub EachPolicyTextHasOneAnswer : Type 0
EachPolicyTextHasOneAnswer =
    (m : Model) → IsModel m → (bytes : List ℕ)
    → (r : Result SaidPolicy (Fault TooLarge))
    × IsPolicyAnswer m bytes r
    × ((s : Result SaidPolicy (Fault TooLarge)) → IsPolicyAnswer m bytes s → r ≡ s)
