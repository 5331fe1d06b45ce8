use Rattle.std.proofs.Common.{◌≡◌, ◌∙◌, rules, true, false, refl, sym}
use Rattle.dp_words.specs.Command.{values_of}
use Rattle.dp_words.proofs.Ranges.{all_are, numbers_hold}
use Rattle.dp_words.proofs.read.are_allowed.Goals as goal

pub returns-then-all_hold : goal.returns-then-all_hold
returns-then-all_hold c =
    let numbers : numbers_hold (values_of c.args.given.now) ≡ true = search rules in
    sym (all_are (values_of c.args.given.now) true c.order_holds.result numbers (sym c.order_holds.ensures))

pub returns-else-all_hold : goal.returns-else-all_hold
returns-else-all_hold c =
    let numbers : numbers_hold (values_of c.args.given.now) ≡ false = search rules in
    let result : c.all_hold.result ≡ false = search rules in
    result ∙ sym (all_are (values_of c.args.given.now) false _ numbers refl)
