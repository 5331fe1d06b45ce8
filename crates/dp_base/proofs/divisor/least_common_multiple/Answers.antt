use Rattle.std.proofs.Common.{◌*◌, ◌/◌}
use Rattle.std.proofs.Math.Nat.{pos_of_dvd_of_pos}
use Rattle.dp_base.specs.Divisors.{IsLcm}
use Rattle.dp_base.proofs.DivisorLaws.{IsLcm-from_IsGcd, same_from_IsLcm, lcm_of-IsLcm}
use Rattle.dp_base.proofs.divisor.least_common_multiple.Goals as goal
use Rattle.dp_base.proofs.divisor.least_common_multiple.Goals.{After-gcd}

is_lcm : (c : After-gcd) → IsLcm c.args.a c.args.b (c.args.a / c.gcd.result * c.args.b)
is_lcm c = IsLcm-from_IsGcd c.args.a c.args.b c.gcd.result c.requires.some c.gcd.ensures.greatest

pub nonzero_div-result : goal.nonzero_div-result
nonzero_div-result c = pos_of_dvd_of_pos c.gcd.ensures.greatest.0 c.requires.some

pub returns-clause-least : goal.returns-clause-least
returns-clause-least c = is_lcm (goal.at.returns-clause-least c).After-gcd

pub returns-clause-computed : goal.returns-clause-computed
returns-clause-computed c =
    same_from_IsLcm c.args.a c.args.b _ _ (is_lcm (goal.at.returns-clause-computed c).After-gcd)
    (lcm_of-IsLcm c.args.a c.args.b c.requires.some)
