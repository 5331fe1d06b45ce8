use Rattle.dp_text.proofs.FirstFields.{IsPassed}
use Rattle.dp_text.proofs.fields.first_field_len.Given as goal

abbrev pub invariant-loop-place : goal.invariant-loop-place
invariant-loop-place l = IsPassed l.line l.place
