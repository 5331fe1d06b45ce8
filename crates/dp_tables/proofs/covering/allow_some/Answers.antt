use Rattle.std.proofs.Common.{◌∙◌, map, sym}
use Rattle.dp_meaning.specs.Cells.{allow}
use Rattle.dp_meaning.specs.NameLists.{size_of}
use Rattle.dp_spec.specs.JointNumbers.{parts_of}
use Rattle.dp_tables.proofs.CoveringLemmas.{none_here}
use Rattle.dp_tables.proofs.covering.allow_some.Goals as goal

pub loop-number-preserved : goal.loop-number-preserved
loop-number-preserved c =
    none_here (λ n. allow c.args.parts.now (parts_of (map size_of c.args.lists.now) n)) c.loop-number.number
    c.args.count c.loop-number-test.true
    (sym c.allow.ensures ∙ c.if-allow.false) ∙ c.loop-number.invariant
