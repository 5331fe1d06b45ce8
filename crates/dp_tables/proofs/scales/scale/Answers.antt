use Rattle.std.proofs.Common.{◌*◌, ◌^◌, ◌≤◌, arith}
use Rattle.std.proofs.Math.Nat.{mul-le-mul}
use Rattle.dp_base.proofs.SignificandLaws.{some_tens, tens_up}
use Rattle.dp_tables.proofs.scales.scale.Goals as goal

pub least_common_multiple-requires-clause-some : goal.least_common_multiple-requires-clause-some
least_common_multiple-requires-clause-some c = let some = some_tens c.from.result in omega arith

pub least_common_multiple-requires-clause-room : goal.least_common_multiple-requires-clause-room
least_common_multiple-requires-clause-room c =
    let digits : c.from.result ≤ 18 = omega arith in
    let most = tens_up c.from.result 18 digits in
    let tens : c.pow-tens.result ≤ 10 ^ 18 = omega arith in
    let len : c.from-then-uniform.result ≤ 2 ^ 32 = omega arith in
    let product : c.pow-tens.result * c.from-then-uniform.result ≤ 10 ^ 18 * 2 ^ 32 = mul-le-mul tens len in
    omega arith
