use Rattle.std.proofs.Common.{◌≡◌, map, take, false}
use Rattle.std.specs.Fmt.{decimal}
use Rattle.dp_spec.specs.JointNumbers.{parts_of}
use Rattle.dp_writer.specs.LimitedTexts.{added}
use Rattle.dp_writer.specs.WrittenLines.{words_text}
use Rattle.dp_writer.proofs.statements.push_actions.Given as goal

-- the actions so far
abbrev pub invariant-loop-agent : goal.invariant-loop-agent
invariant-loop-agent l =
    l.text ≡ added l.fn.text (words_text false (map decimal
    (take l.agent (parts_of l.model.model.actions l.action))))
