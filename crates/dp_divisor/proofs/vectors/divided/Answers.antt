use Rattle.std.proofs.Common.{ap, rules, subst, sym, ◌∙◌, unsigned_abs}
use Rattle.std.specs.Int.{◌∣◌, w128}
use Rattle.std.proofs.lemmas.Int.{to_z-of_z}
use Rattle.dp_divisor.proofs.vectors.divided.Goals as goal

pub quotient-requires : goal.quotient-requires
quotient-requires c =
    let passed = to_z-of_z w128 c.args.value (search rules) in
    let read = c.unsigned_abs.ensures.value ∙ ap unsigned_abs passed in
    record { multiple = subst (λ k. c.args.divisor.now ∣ k) (sym read) c.requires.multiple }
