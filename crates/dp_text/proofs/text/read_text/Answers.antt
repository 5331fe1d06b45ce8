use Rattle.std.proofs.Common.{subst, sym, ap, ◌∙◌, Result}
use Rattle.dp_meaning.specs.declared.why.Fault.{Fault}
use Rattle.dp_meaning.specs.declared.text.Text.{Text}
use Rattle.dp_text.specs.Reading.{Reads}
use Rattle.dp_text.specs.TextSteps.{text_of_items}
use Rattle.dp_text.proofs.TextLemmas.{by_items}
use Rattle.dp_text.proofs.text.read_text.Goals as goal

pub returns : goal.returns
returns c =
    let P : Result Text Fault → Type 0 = λ meant. Reads meant c.read_items.result in
    subst P (ap text_of_items c.in_ok-document.ensures
    ∙ sym (by_items c.args.bytes.now c.args.tokens.now c.requires.tokens)) c.read_items.ensures
