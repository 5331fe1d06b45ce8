use Rattle.std.proofs.Common.{false, sym}
use Rattle.std.proofs.lemmas.Result.{on_ok_weaker}
use Rattle.dp_writer.proofs.Appending.{spelled}
use Rattle.dp_writer.proofs.DigitTexts.{chance_word_is}
use Rattle.dp_writer.proofs.decimals.push_chance.Goals as goal

pub returns : goal.returns
returns c =
    let number = c.magnitude_over.result in
    on_ok_weaker c.push_magnitude.result
    (spelled c.args.text.now c.push_magnitude.new.text _ _
    (sym (chance_word_is c.args.scale c.args.n number.units number.digits (c.magnitude_over.ensures.is false))))
    c.push_magnitude.ensures
