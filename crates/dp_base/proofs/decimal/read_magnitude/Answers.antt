use Rattle.std.proofs.Common.{◌++◌, [], sym, ◌∙◌}
use Rattle.std.specs.Char.{is_ascii_digit}
use Rattle.std.specs.List.{take_while}
use Rattle.dp_base.proofs.Magnitudes.{Begins, Behind, same_pointed, same_plain}
use Rattle.dp_base.proofs.decimal.read_magnitude.Goals as goal
use Rattle.dp_base.proofs.decimal.read_magnitude.Goals.{After-split_at}

begins : (c : After-split_at) → Begins c.args.number.now c.split_at.result.1.now c.scan-whole.result.1
begins c = record { count_is = c.scan-whole.ensures.count; rest_is = c.split_at.ensures.back }

pub returns-else-not-is_exponent : goal.returns-else-not-is_exponent
returns-else-not-is_exponent c =
    let behind : Behind c.split_at.result.1.now c.skip_one-after.result.now c.split_at-then-byte_at-eq46.result.1.now
    c.scan-fraction.result.1 =
    record {
      point_is = sym c.byte_at.ensures ∙ c.if-byte_at-eq46.true;
      after_is = c.skip_one-after.ensures;
      count_is = c.scan-fraction.ensures.count;
      exponent_is = c.split_at-then-byte_at-eq46.ensures.back;
    }
    in
    let seen = c.scan-fraction.ensures.seen (take_while is_ascii_digit c.args.number.now)
    (c.scan-whole.ensures.seen [] c.new.ensures.seen) in
    c.scaled.ensures (take_while is_ascii_digit c.args.number.now
    ++ take_while is_ascii_digit c.skip_one-after.result.now) seen
    ∙ same_pointed _ _ _ _ _ _ _ (begins (goal.at.returns-else-not-is_exponent c).After-split_at) behind
    c.if-whole-fraction-eq0.false (sym c.is_exponent.ensures ∙ c.if-not-is_exponent.false)

pub returns-else-not-is_exponent-2 : goal.returns-else-not-is_exponent-2
returns-else-not-is_exponent-2 c =
    let seen = c.scan-whole.ensures.seen [] c.new.ensures.seen in
    c.scaled-else-byte_at-eq46.ensures (take_while is_ascii_digit c.args.number.now) seen
    ∙ same_plain _ _ _ _ (begins (goal.at.returns-else-not-is_exponent-2 c).After-split_at)
    (λ e. c.if-byte_at-eq46.false (c.byte_at.ensures ∙ e)) c.if-whole-eq0.false
    (sym c.is_exponent-else-whole-eq0.ensures ∙ c.if-not-is_exponent-2.false)
