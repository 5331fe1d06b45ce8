use Rattle.std.proofs.Common.{◌≤◌, arith}
use Rattle.dp_base.proofs.SignificandLaws.{tens_up}
use Rattle.dp_meaning.proofs.SaidTexts.{discount_digits}
use Rattle.dp_tables.proofs.scales.discount_scale.Goals as goal

pub pow-requires : goal.pow-requires
pow-requires c =
    let few = discount_digits c.args.text.now c.requires in
    let digits : c.from.result ≤ 18 = omega arith in
    let most = tens_up c.from.result 18 digits in omega arith
