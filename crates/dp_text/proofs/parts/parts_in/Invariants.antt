use Rattle.dp_text.proofs.PartLemmas.{PartsRead}
use Rattle.dp_text.proofs.parts.parts_in.Given as goal

abbrev pub invariant-loop-place : goal.invariant-loop-place
invariant-loop-place l = PartsRead l.axis l.field l.parts.items l.place
