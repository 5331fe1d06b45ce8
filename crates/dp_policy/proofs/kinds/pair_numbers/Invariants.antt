use Rattle.std.proofs.Common.{get_or}
use Rattle.std.specs.BTreeMap.{get}
use Rattle.std.specs.Ordering.{nat_cmp}
use Rattle.dp_policy.specs.Kinds.{number_of_pair}
use Rattle.dp_policy.proofs.PairNumbers.{AreNumbered}
use Rattle.dp_policy.proofs.kinds.pair_numbers.Given as goal

abbrev pub invariant-loop-place : goal.invariant-loop-place
invariant-loop-place l =
    AreNumbered (λ i. number_of_pair (get_or l.left i 0) (get_or l.right i 0)) l.place
    (λ q. get nat_cmp l.known q) l.numbers.items
