use Rattle.std.proofs.Common.{◌+◌, ◌*◌, refl, ap, arith}
use Rattle.dp_base.proofs.SignificandLaws.{some_tens, more_high, fits_128, pow_fits, zero_digit, first_digit}
use Rattle.dp_base.proofs.SignificandLaws.{next_digit}
use Rattle.dp_base.proofs.significand.Significand.push.Goals as goal

pub returns-then-digit-eq0-clause-seen : goal.returns-then-digit-eq0-clause-seen
returns-then-digit-eq0-clause-seen c = λ ds seen. rw c.if-digit-eq0.true
    (zero_digit ds c.args.self _ refl refl refl seen)

pub returns-then-self-eq0-clause-seen : goal.returns-then-self-eq0-clause-seen
returns-then-self-eq0-clause-seen c = λ ds seen. first_digit ds c.args.digit c.args.self _ c.requires.digit
    c.if-digit-eq0.false c.if-self-eq0.true c.from.ensures refl refl seen

pub invariant_of-result-then-len-gt-MOST_DIGITS : goal.invariant_of-result-then-len-gt-MOST_DIGITS
invariant_of-result-then-len-gt-MOST_DIGITS c = record { short = some_tens (c.args.self.len + c.args.self.zeros + 1) }

pub returns-then-len-gt-MOST_DIGITS-clause-seen : goal.returns-then-len-gt-MOST_DIGITS-clause-seen
returns-then-len-gt-MOST_DIGITS-clause-seen c = λ ds seen.
    next_digit ds c.args.digit c.args.self _ c.requires.digit c.if-digit-eq0.false (omega arith) refl refl
    (λ short. absurd (omega arith)) seen

pub pow-requires : goal.pow-requires
pow-requires c = omega (arith, pow_fits c.args.self.len c.args.self.zeros (omega arith) (omega arith))

pub overflow_mul-result : goal.overflow_mul-result
overflow_mul-result c = omega (
  arith,
  fits_128 c.args.self.number c.args.self.len c.args.self.zeros 0
      c.args.self.short (omega arith) (omega arith),
  ap (λ p. c.args.self.number * p) c.pow.ensures,
)

pub overflow_add-result-2 : goal.overflow_add-result-2
overflow_add-result-2 c = omega (
  arith,
  fits_128 c.args.self.number c.args.self.len c.args.self.zeros c.args.digit
      c.args.self.short c.requires.digit (omega arith),
  ap (λ p. c.args.self.number * p) c.pow.ensures,
)

pub invariant_of-result-2 : goal.invariant_of-result-2
invariant_of-result-2 c = record {
  short = rw (
    c.pow.ensures,
    c.from-2.ensures,
  ) (more_high c.args.self.number c.args.self.len c.args.self.zeros c.args.digit c.args.self.short
      c.requires.digit);
}

pub returns-clause-seen : goal.returns-clause-seen
returns-clause-seen c = λ ds seen.
    next_digit ds c.args.digit c.args.self _ c.requires.digit c.if-digit-eq0.false (omega arith) refl refl
    (λ short. rw (c.pow.ensures, c.from-2.ensures) refl) seen
