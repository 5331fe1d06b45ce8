-- Worked decimals and least common multiples, computed.
use Rattle.std.proofs.Common.{◌≡◌, ◌*◌, ◌^◌, ℕ, ℤ, pos, negsuc, Result, Ok, Err, refl}
use Rattle.std.specs.Prelude.{codes}
use Rattle.dp_base.specs.declared.decimal.Decimal.{Decimal}
use Rattle.dp_base.specs.declared.decimal.NumFault.{NumFault}
use Rattle.dp_base.specs.declared.decimal.NumFault.TheVariants.{Shape, Large, Digits}
use Rattle.dp_base.specs.Decimals.{decimal_of, significand, numerator_tens, denominator_tens}
use Rattle.dp_base.specs.Divisors.{gcd_of, lcm_of}

-- units / 10 ^ digits
abbrev pub is : ℤ → ℕ → Result Decimal NumFault
is units digits = Ok (record { units = units; digits = digits })

pub negative : decimal_of (codes "-2.50") ≡ is (negsuc 24) 1
unfolding decimal_of significand numerator_tens denominator_tens
negative = refl

pub exponent : decimal_of (codes "1e-3") ≡ is (pos 1) 3
unfolding decimal_of significand numerator_tens denominator_tens
exponent = refl

pub trailing_zero : decimal_of (codes "1.0") ≡ is (pos 1) 0
unfolding decimal_of significand numerator_tens denominator_tens
trailing_zero = refl

pub bare_point : decimal_of (codes ".") ≡ Err Shape
unfolding decimal_of significand numerator_tens denominator_tens
bare_point = refl

pub large : decimal_of (codes "1e18") ≡ Err Large
unfolding decimal_of significand numerator_tens denominator_tens
large = refl

pub largest : decimal_of (codes "999999999999999999") ≡ is (pos 999_999_999_999_999_999) 0
unfolding decimal_of significand numerator_tens denominator_tens
largest = refl

pub many_digits : decimal_of (codes "1e-19") ≡ Err (Digits 19)
unfolding decimal_of significand numerator_tens denominator_tens
many_digits = refl

-- a number that is too large is so before its digits are counted
pub large_first : decimal_of (codes "1000000000000000000.0000000000000000001") ≡ Err Large
unfolding decimal_of significand numerator_tens denominator_tens
large_first = refl

pub nothing : decimal_of (codes "-0.000e-999") ≡ is (pos 0) 0
unfolding decimal_of significand numerator_tens denominator_tens
nothing = refl

pub lcm_of_scale : lcm_of 10_000 4 ≡ 10_000
unfolding lcm_of gcd_of
lcm_of_scale = refl

pub lcm_of_large : lcm_of (10 ^ 18) 7 ≡ 7 * 10 ^ 18
unfolding lcm_of gcd_of
lcm_of_large = refl
