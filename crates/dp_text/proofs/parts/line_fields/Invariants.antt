use Rattle.std.proofs.Common.{length}
use Rattle.dp_meaning.specs.Statements.{axes_of}
use Rattle.dp_text.proofs.FieldLemmas.{FieldsRead}
use Rattle.dp_text.proofs.parts.line_fields.Given as goal

abbrev pub invariant-loop-field : goal.invariant-loop-field
invariant-loop-field l = FieldsRead (axes_of l.header l.table) l.line l.parts.items l.rest

abbrev pub decreases-loop-field : goal.decreases-loop-field
decreases-loop-field l = length l.rest
