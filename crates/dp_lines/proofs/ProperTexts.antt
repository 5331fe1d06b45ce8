-- The steps of grammars are proper, so texts that are made of them have one answer.
use Rattle.std.proofs.Common.{ℕ, zero, suc, List, ◌∷◌}
use Rattle.std.specs.Prelude.{Option, Some, None, replicate}
use Rattle.dp_spec.specs.TextLines.{Item, plain}
use Rattle.dp_lines.specs.Grammar.{Grammar, ends, ◌>>=◌}
use Rattle.dp_lines.specs.Lines.{AreWords}
use Rattle.dp_lines.specs.Steps.{the_words, the_numbers, unless_passed, and_then}
use Rattle.dp_lines.proofs.SpelledLines.{HasItems}
use Rattle.dp_lines.proofs.LineAnswers.{words_have_items}
use Rattle.dp_lines.proofs.OneAnswer.{IsProper, IsProper-bind}

pub words_proper : (L : Type 0) (ws : List (List ℕ)) → AreWords ws → IsProper {L = L} (the_words ws)
words_proper L ws are = ((words_have_items ws are, tt, tt), λ k zs. tt)

pub numbers_proper : (L : Type 0) (form : List Item) → HasItems form → IsProper {L = L} (the_numbers form)
numbers_proper L form has = ((has, tt, tt), λ k zs. tt)

pub unless_proper : {L : Type 0} (o : Option L) → IsProper (unless_passed o)
unless_proper None = tt
unless_proper (Some passed) = tt

pub and_proper : {L A : Type 0} (g : Grammar L A) (G : Grammar L (List A)) → IsProper g → IsProper G
    → IsProper (and_then g G)
and_proper g G p q =
    IsProper-bind g (λ x. G >>= λ xs. ends (x ∷ xs)) p (λ x. IsProper-bind G (λ xs. ends (x ∷ xs)) q (λ xs. tt))

pub replicate_items : (k low high : ℕ) → HasItems (replicate k (plain low high))
replicate_items zero low high = tt
replicate_items (suc k) low high = replicate_items k low high
