use Rattle.std.proofs.Common.{◌*◌, ◌<◌, sym, ap, subst, ◌∙◌}
use Rattle.std.proofs.Math.Nat.{pos_of_dvd_of_pos}
use Rattle.dp_base.specs.Divisors.{gcd_of}
use Rattle.dp_cluster.proofs.Proportions.{first_above, lowest, same_proportion}
use Rattle.dp_cluster.proofs.proportion.Proportion.of.Goals as goal

pub of-requires : goal.of-requires
of-requires c =
    let is = c.gcd-common.ensures.greatest in
    record {
      some = subst (λ k. 0 < k) (sym c.quotient.ensures)
          (first_above c.args.first c.gcd-common.result is.0 c.requires.some_first);
    }

pub invariant_of-result : goal.invariant_of-result
invariant_of-result c =
    let g = c.gcd-common.result in
    let is = c.gcd-common.ensures.greatest in
    let some = pos_of_dvd_of_pos is.0 c.requires.some_first in
    let first = c.of.ensures ∙ c.quotient.ensures in
    record {
      some_first = subst (λ k. 0 < k) (sym first) (first_above c.args.first g is.0 c.requires.some_first);
      lowest = (λ i. gcd_of (first i) (c.quotient-2.ensures i)) ∙ lowest c.args.first c.args.second g some is;
    }

pub returns : goal.returns
returns c = λ a b.
    let g = c.gcd-common.result in
    let is = c.gcd-common.ensures.greatest in
    let some = pos_of_dvd_of_pos is.0 c.requires.some_first in
    let same = same_proportion c.args.first c.args.second g a b some is in
    let first = c.of.ensures ∙ c.quotient.ensures in
    let second = c.quotient-2.ensures in (
      λ e. same.0 (ap (λ k. a * k) (sym second) ∙ e ∙ ap (λ k. b * k) first),
      λ e. ap (λ k. a * k) second ∙ same.1 e ∙ ap (λ k. b * k) (sym first),
    )
