use Rattle.std.proofs.Common.{◌≡◌}
use Rattle.std.specs.Prelude.{slice_index}
use Rattle.dp_model.specs.Names.{names_of}
use Rattle.dp_writer.specs.LimitedTexts.{added}
use Rattle.dp_writer.specs.ModelRows.{each_below}
use Rattle.dp_writer.specs.WrittenLines.{lines_text}
use Rattle.dp_writer.specs.WrittenModel.{list_words}
use Rattle.dp_writer.proofs.header.push_observation_lists.Given as goal

-- the lines so far
abbrev pub invariant-loop-agent : goal.invariant-loop-agent
invariant-loop-agent l =
    l.text ≡ added l.fn.text (lines_text (each_below
    (λ i. list_words (names_of l.model.names.observations i) (slice_index l.model.model.observations i)) l.agent))
