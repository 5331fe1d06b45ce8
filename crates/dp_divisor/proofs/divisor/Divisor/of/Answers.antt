use Rattle.std.specs.Int.{w128}
use Rattle.std.proofs.lemmas.Nat.Bits.{bit_at-trailing_zeros}
use Rattle.dp_divisor.proofs.InverseLaws.{halved_whole}
use Rattle.dp_divisor.proofs.divisor.Divisor.of.Goals as goal

pub inverse_of-requires : goal.inverse_of-requires
inverse_of-requires c =
    record { odd = (bit_at-trailing_zeros w128 c.args.number c.requires.some c.ranges.number.fits).1 }

pub invariant_of-result : goal.invariant_of-result
invariant_of-result c = record {
  some = c.requires.some;
  few = (bit_at-trailing_zeros w128 c.args.number c.requires.some c.ranges.number.fits).0;
  whole = halved_whole c.args.number c.requires.some c.ranges.number.fits;
  undoes = c.inverse_of.ensures;
}
