use Rattle.std.proofs.Common.{◌*◌, ◌≤◌, ◌^◌, ◌<◌, ℕ, arith}
use Rattle.std.proofs.Math.Nat.{mul-le-mul}
use Rattle.dp_game.proofs.numbers.numbers_with.Goals as goal

product_small : (n w : ℕ) → n < 2 ^ 9 → w ≤ 2 ^ 14 → n * w ≤ 2 ^ 23
product_small n w ln lw =
    let ln' : n ≤ 2 ^ 9 = omega arith in
    let le : n * w ≤ 2 ^ 9 * 2 ^ 14 = mul-le-mul ln' lw in omega arith

pub overflow_mul-number_of : goal.overflow_mul-number_of
overflow_mul-number_of c =
    let le = product_small c.number_of.result c.args.width c.number_of.ensures.limit c.requires.width in omega arith
