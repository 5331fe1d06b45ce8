-- What is told of the bytes of a policy that were read, or were not.
use Rattle.std.proofs.Common.{◌≡◌, ℕ, List, None, Ok, ap}
use Rattle.dp_spec.specs.Model.{Model, IsModel}
use Rattle.dp_lines.specs.Grammar.{bad, limit}
use Rattle.dp_policy.specs.declared.fault.PolicyFault.{PolicyFault}
use Rattle.dp_policy.specs.declared.fault.PolicyFault.TheVariants as faults
use Rattle.dp_policy.specs.PolicyAnswers.{HasPolicyFault, IsPolicyAnswer, SaidPolicy}
use Rattle.dp_policy.proofs.PolicySays.{fault_is_computed, said_is_computed}
use Rattle.dp_cli.specs.Answer.{Stops}
use Rattle.dp_cli.specs.Refusal.{policy_refusal}
use Rattle.dp_cli.specs.ValueCommand.{lines_fault, policy_fault}

-- bytes that are no policy are refused by what is wrong with them
pub stops_reading : (m : Model) → IsModel m → (bytes : List ℕ) (fault : PolicyFault)
    → HasPolicyFault m bytes fault
    → Stops (policy_fault bytes m) (policy_refusal fault)
stops_reading m is bytes (faults.At line why) has = ap lines_fault
    (fault_is_computed m is bytes (bad line why) has)
stops_reading m is bytes (faults.TooLarge passed) has = ap lines_fault
    (fault_is_computed m is bytes (limit passed) has)
stops_reading m is bytes faults.Memory has = tt

-- nothing is wrong with those of a policy
pub fine_reading : (m : Model) → IsModel m → (bytes : List ℕ) (p : SaidPolicy) → IsPolicyAnswer m bytes (Ok p)
    → policy_fault bytes m ≡ None
fine_reading m is bytes p answer = ap lines_fault (said_is_computed m is bytes p answer)
