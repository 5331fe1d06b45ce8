use Rattle.std.proofs.Common.{◌≡◌, ◌+◌, ◌*◌, ◌^◌, ℕ, pos, subst, ap, sym, ◌∙◌, arith}
use Rattle.std.proofs.Math.Nat.{pow-suc}
use Rattle.dp_num.specs.FractionTexts.{millionths}
use Rattle.dp_num.proofs.Fractions.{next_digit, not_rounded, rounded_down, rounded_up}
use Rattle.dp_num.proofs.fraction.Millionths.of.Goals.{else-up-via-then-up+else-rest-gt0, else-up-via-else-up}
use Rattle.dp_num.proofs.fraction.Millionths.of.Goals as goal

pub loop-place-preserved : goal.loop-place-preserved
loop-place-preserved c =
    let small = c.after-digit.ensures.value in
    let before = c.loop-place.invariant.part in
    let k = c.loop-place.place in
    let power : 10 ^ (k + 1) ≡ 10 ^ k * 10 = subst (λ n. 10 ^ n ≡ 10 ^ k * 10) (omega arith) (pow-suc 10 k) in
    record {
      part = rw power (omega arith);
      left = c.after-digit.ensures.rest;
      is =
          next_digit _ k c.loop-place.part c.args.den _ _ _ c.args.num c.loop-place.invariant.is
          c.after-digit.ensures.is;
    }

-- the six digits are there
six : (w x d r a k : ℕ) → (w * 10 ^ k + x) * d + r ≡ a * 10 ^ k → k ≡ 6
    → (w * 10 ^ 6 + x) * d + r ≡ a * 10 ^ 6
six w x d r a k is all = subst (λ n. (w * 10 ^ n + x) * d + r ≡ a * 10 ^ n) all is

pub returns-then-rest-gt0-clause-count : goal.returns-then-rest-gt0-clause-count
returns-then-rest-gt0-clause-count c =
    let all : c.loop-place.place ≡ 6 = omega (arith, c.loop-place-test.false, c.loop-place.auto.place-end) in
    let whole = six _ _ _ _ c.args.num _ c.loop-place.invariant.is all in
    ap pos c.next.ensures.count
    ∙ rounded_up c.args.num c.args.den _ c.loop-place.rest whole c.loop-place.invariant.left c.if-rest-gt0.true
    ∙ ap (λ u. millionths (pos c.args.num) c.args.den u) (sym c.if-up.true)

pub returns-else-up-clause-count : goal.returns-else-up-clause-count
returns-else-up-clause-count c =
    let all : c.loop-place.place ≡ 6 = omega (arith, c.loop-place-test.false, c.loop-place.auto.place-end) in
    let whole = six _ _ _ _ c.args.num _ c.loop-place.invariant.is all in
    elim c.else-up.branch [
      | else-up-via-then-up+else-rest-gt0 w ↦
          let none : c.loop-place.rest ≡ 0 = omega (arith, w.if-rest-gt0.false) in
          not_rounded c.args.num c.args.den _ c.loop-place.rest whole c.loop-place.invariant.left none c.args.up
      | else-up-via-else-up w ↦
          rounded_down c.args.num c.args.den _ c.loop-place.rest whole c.loop-place.invariant.left
          ∙ ap (λ u. millionths (pos c.args.num) c.args.den u) (sym w.if-up.false)
    ]
