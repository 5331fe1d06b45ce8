use Rattle.std.proofs.Common.{◌≤◌, ap, arith}
use Rattle.dp_base.proofs.SignificandLaws.{tens_up}
use Rattle.dp_meaning.specs.declared.statement.Table.TheVariants.{Reward}
use Rattle.dp_meaning.specs.Cells.{statements_for}
use Rattle.dp_meaning.specs.Scales.{digits_of_statements}
use Rattle.dp_meaning.proofs.SaidTexts.{rewards_digits}
use Rattle.dp_tables.proofs.scales.reward_scale.Goals as goal

pub pow-requires : goal.pow-requires
pow-requires c =
    let few = rewards_digits c.args.text.now c.requires in
    let same = ap (λ ss. digits_of_statements (statements_for Reward ss)) c.as_slice.ensures in
    let digits : c.from.result ≤ 9 = omega arith in
    let most = tens_up c.from.result 9 digits in omega arith
