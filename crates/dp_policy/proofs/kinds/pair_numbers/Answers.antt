use Rattle.std.proofs.Common.{◌≡◌, ℕ, ◌+◌, ◌*◌, ◌^◌, add-one, get_or, subst, ◌∙◌, arith, Some, None, ◌⊎◌}
use Rattle.std.specs.BTreeMap.{get}
use Rattle.std.specs.Ordering.{nat_cmp}
use Rattle.dp_policy.specs.Kinds.{number_of_pair}
use Rattle.dp_policy.proofs.PairNumbers.{numbered_all, numbered_step}
use Rattle.dp_policy.proofs.kinds.pair_numbers.Goals as goal

pub loop-place-preserved : goal.loop-place-preserved
loop-place-preserved c =
    let key = λ (i : ℕ). number_of_pair (get_or c.args.left.now i 0) (get_or c.args.right.now i 0) in
    let k = c.loop-place.place in
    let old = λ (q : ℕ). get nat_cmp c.loop-place.known q in
    let next = λ (q : ℕ). get nat_cmp c.number_in.new.known q in
    let z = c.in_ok-number_in.field-0 in
    let is : c.from.result * 2 ^ 32 + c.from-in-loop-place.result ≡ key k =
    (λ j. number_of_pair (c.from.ensures j) (c.from-in-loop-place.ensures j)) in
    rw (add-one, c.in_ok-push.ensures.items)
    (numbered_step key k old next c.loop-place.numbers.items z c.loop-place.invariant
    (subst (λ (q : ℕ). (old q ≡ Some z) ⊎ ((old q ≡ None) × (z ≡ k))) is c.in_ok-number_in.ensures.old)
    (subst (λ (q : ℕ). next q ≡ Some z) is c.in_ok-number_in.ensures.has)
    (λ q apart. c.in_ok-number_in.ensures.others q (λ e. apart (e ∙ is))))

pub returns : goal.returns
returns c =
    numbered_all c.args.left.now c.args.right.now c.loop-place.place
    (λ q. get nat_cmp c.loop-place.known q) c.loop-place.numbers.items c.loop-place.invariant
    (omega (arith, c.loop-place-test.false, c.loop-place.auto.place-end))
    (λ i. let fits = c.type_inv.right i in omega arith)
