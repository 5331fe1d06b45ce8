use Rattle.std.proofs.Common.{◌≤◌, ◌<◌, ◌+◌, arith}
use Rattle.std.proofs.Math.Nat.{pow-le-pow_right}
use Rattle.dp_text.proofs.numbers.is_reward.Goals as goal

pub pow-requires : goal.pow-requires
pow-requires c =
    let some : 0 < 10 = omega arith in
    let most : 8 + c.from.result ≤ 26 = omega (arith, c.from.ensures) in
    omega (arith, pow-le-pow_right some most)
