use Rattle.std.proofs.Common.{◌^◌, ◌<◌, inl, inr, refl, arith}
use Rattle.std.proofs.lemmas.Bool.{lt-leb}
use Rattle.dp_base.specs.Divisors.{lcm_of}
use Rattle.dp_base.proofs.DivisorLaws.{lcm_at_least, same_from_IsLcm, lcm_of-IsLcm}
use Rattle.dp_base.proofs.divisor.lcm.Goals as goal

-- a multiple of a number past the limit is past it
past : (c : goal.Joined-then-a-gt-MOST) → 2 ^ 62 < lcm_of c.args.a c.args.b
past c =
    let is = lcm_of-IsLcm c.args.a c.args.b c.requires.some_left in
    let least = lcm_at_least c.args.a c.args.b _ c.requires.some_left c.requires.some_right is in
    elim c.then-a-gt-MOST.either [
      | inl over ↦ omega (arith, least.0)
      | inr over ↦
          (let b = over.1 in omega (arith, least.1))
    ]

pub returns-then-a-gt-MOST-clause-none : goal.returns-then-a-gt-MOST-clause-none
returns-then-a-gt-MOST-clause-none c = (
  λ e. (lcm_of c.args.a c.args.b, (lcm_of-IsLcm c.args.a c.args.b c.requires.some_left, past c)),
  λ x. refl,
)

pub returns-then-a-gt-MOST-clause-computed : goal.returns-then-a-gt-MOST-clause-computed
returns-then-a-gt-MOST-clause-computed c = rw (lt-leb _ _ (past c)) refl

pub returns-then-multiple-le-MOST-clause-none : goal.returns-then-multiple-le-MOST-clause-none
returns-then-multiple-le-MOST-clause-none c = (
  λ e. absurd cc,
  λ x.
      let same = same_from_IsLcm _ _ x.0 _ x.1.0 c.least_common_multiple-multiple.ensures.least in
      absurd (omega (arith, same, x.1.1)),
)
