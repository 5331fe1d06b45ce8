use Rattle.std.proofs.Common.{◌∙◌, arith}
use Rattle.dp_policy.specs.PolicyGrammar.{agent_words}
use Rattle.dp_policy.proofs.AgentParts.{agent_words_are}
use Rattle.dp_cert.proofs.plain_text.agent_line.Goals as goal

pub returns : goal.returns
returns c =
    c.words.ensures (agent_words c.args.agent) (agent_words_are c.args.agent (omega arith))
    (c.as_slice.ensures.value ∙ c.in_ok-text.ensures.ok)
