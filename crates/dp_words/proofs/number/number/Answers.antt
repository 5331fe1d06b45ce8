use Rattle.std.proofs.Common.{rules}
use Rattle.dp_words.proofs.WordNumbers.{number_ok, number_low, number_many, number_high}
use Rattle.dp_words.proofs.number.number.Goals as goal

pub returns-in-Ok : goal.returns-in-Ok
returns-in-Ok c = number_ok c.args.least c.args.most c.in-Ok.number c.args.word.now (search rules)
    c.in-Ok.ensures.value.0 (search rules) (search rules)

pub returns-in_default : goal.returns-in_default
returns-in_default c =
    number_many c.args.least c.args.most c.in-Ok.number c.args.word.now (search rules) c.in-Ok.ensures.value.0
    (search rules)

pub returns-in_default-2 : goal.returns-in_default-2
returns-in_default-2 c =
    number_low c.args.least c.args.most c.in-Ok.number c.args.word.now (search rules) c.in-Ok.ensures.value.0
    (search rules)

pub returns-in_default-3 : goal.returns-in_default-3
returns-in_default-3 c =
    number_high c.args.least c.args.most c.args.word.now (search rules) (search rules)
    c.in_default.ensures.value.0
