use Rattle.std.proofs.Common.{◌+◌, ◌*◌, ◌/◌, ◌%◌, ◌<◌, ℕ, arith}
use Rattle.std.proofs.lemmas.Nat.{div-add-mod', mod_below}
use Rattle.dp_num.proofs.Fractions.{digit_below}
use Rattle.dp_num.proofs.fraction.Digit.after.Goals as goal

-- the parts add to ten times the number, so their quotient is a digit
small : (d r : ℕ) → r < d
    → 2 * (4 * r / d) + 2 * r / d + (2 * (4 * r % d) + 2 * r % d) / d < 10
small d r lt =
    let left = 2 * (4 * r % d) + 2 * r % d in
    digit_below _ d (left % d) r
    (omega (arith, div-add-mod' (4 * r) d, div-add-mod' (2 * r) d, div-add-mod' left d))
    (mod_below left d (omega arith)) lt

pub overflow_cast-result : goal.overflow_cast-result
overflow_cast-result c = let below = small c.args.den c.args.rest c.requires.rest in omega arith

pub returns-clause-value : goal.returns-clause-value
returns-clause-value c = small c.args.den c.args.rest c.requires.rest
