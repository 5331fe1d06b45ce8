use Rattle.std.proofs.Common.{◌≡◌, drop}
use Rattle.dp_cert.specs.PolicyGrammar.{cells_passed}
use Rattle.dp_cert.proofs.shared_text.cells_passed.Given as goal

abbrev pub invariant-loop-cell : goal.invariant-loop-cell
invariant-loop-cell l = cells_passed (drop l.cell-index l.cells) ≡ cells_passed l.cells
