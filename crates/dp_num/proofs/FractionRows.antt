-- Worked rows of the text of a fraction.
use Rattle.std.proofs.Common.{◌≡◌, ◌^◌, ◌-◌, true, false, pos, negsuc, codes, refl}
use Rattle.std.specs.Fmt.{digits}
use Rattle.dp_base.specs.Rounding.{ceiling_of}
use Rattle.dp_num.specs.FractionTexts.{fraction_text}

third_down : fraction_text (pos 1) 3 false ≡ codes "0.333333"
unfolding fraction_text ceiling_of digits
third_down = refl

third_up : fraction_text (pos 1) 3 true ≡ codes "0.333334"
unfolding fraction_text ceiling_of digits
third_up = refl

-- down is away from 0 below it
lost_third_down : fraction_text (negsuc 0) 3 false ≡ codes "-0.333334"
unfolding fraction_text ceiling_of digits
lost_third_down = refl

lost_third_up : fraction_text (negsuc 0) 3 true ≡ codes "-0.333333"
unfolding fraction_text ceiling_of digits
lost_third_up = refl

-- what rounds to 0 has no sign
tiny_loss_up : fraction_text (negsuc 0) (10 ^ 7) true ≡ codes "0.000000"
unfolding fraction_text ceiling_of digits
tiny_loss_up = refl

tiny_loss_down : fraction_text (negsuc 0) (10 ^ 7) false ≡ codes "-0.000001"
unfolding fraction_text ceiling_of digits
tiny_loss_down = refl

-- six nines round up to a whole
nearly_one_up : fraction_text (pos 9999999) (10 ^ 7) true ≡ codes "1.000000"
unfolding fraction_text ceiling_of digits
nearly_one_up = refl

whole : fraction_text (pos 2) 1 true ≡ codes "2.000000"
unfolding fraction_text ceiling_of digits
whole = refl

-- the greatest numbers
greatest : fraction_text (pos (2 ^ 126)) 1 false ≡ codes "85070591730234615865843651857942052864.000000"
unfolding fraction_text ceiling_of digits
greatest = refl

least_part : fraction_text (pos (2 ^ 126 - 1)) (2 ^ 126) false ≡ codes "0.999999"
unfolding fraction_text ceiling_of digits
least_part = refl
