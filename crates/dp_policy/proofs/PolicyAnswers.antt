-- Policy texts have one answer, and it is what is read.
use Rattle.std.proofs.Common.{ℕ, zero, suc, ◌+◌, ◌^◌, ◌<◌, List, [], ◌∷◌, length, arith}
use Rattle.std.specs.Prelude.{codes, unsigned_abs, map}
use Rattle.dp_spec.specs.Model.{Model, IsModel}
use Rattle.dp_spec.specs.PolicyText.{row_form, horizon_form}
use Rattle.dp_model.specs.declared.limit.TooLarge.{TooLarge}
use Rattle.dp_model.specs.Horizons.{horizon_limits}
use Rattle.dp_model.specs.Limits.{first_passed}
use Rattle.dp_lines.specs.Grammar.{ends, ◌>>=◌}
use Rattle.dp_lines.proofs.ProperTexts.{words_proper, numbers_proper, replicate_items, unless_proper}
use Rattle.dp_lines.proofs.OneAnswer.{IsProper, IsProper-bind}
use Rattle.dp_lines.specs.Steps.{the_words, the_numbers, unless_passed, first_plain}
use Rattle.dp_policy.specs.PolicyGrammar.{PolicyActions, stage_rows, agent_words, agent_rows, title_words, end_words}
use Rattle.dp_policy.specs.PolicyGrammar.{policy_grammar}
use Rattle.dp_policy.proofs.AgentParts.{agent_words_are}
use Rattle.dp_policy.proofs.PolicyParts.{behind_title, behind_horizon, behind_limits, behind_agents}

stages_proper : (L : Type 0) (b n t left : ℕ) → IsProper {L = L} (stage_rows b n t left)
stages_proper L b n t zero = tt
stages_proper L b n t (suc left) =
    IsProper-bind (the_numbers (row_form b n t)) (λ row. stage_rows b n (t + 1) left >>= λ others. ends
    (map unsigned_abs row ∷ others)) (numbers_proper L (row_form b n t) (replicate_items (n ^ t) 0 _))
    (λ row. IsProper-bind (stage_rows b n (t + 1) left) (λ others. ends (map unsigned_abs row ∷ others))
    (stages_proper L b n (t + 1) left) (λ others. tt))

pub agents_proper : (L : Type 0) (h agent : ℕ) (bs ns : List ℕ) → agent + length bs < 10 ^ 64
    → IsProper {L = L} (agent_rows h agent bs ns)
agents_proper L h agent [] ns few = tt
agents_proper L h agent (b ∷ bs) [] few = tt
agents_proper L h agent (b ∷ bs) (n ∷ ns) few =
    IsProper-bind (the_words (agent_words agent)) (λ title. stage_rows b n 0 h >>= λ rows. agent_rows h
    (agent + 1)
    bs ns >>= λ others. ends (rows ∷ others)) (words_proper L (agent_words agent)
    (agent_words_are agent (omega arith)))
    (λ title. IsProper-bind (stage_rows b n 0 h) (λ rows. agent_rows h (agent + 1) bs ns >>= λ others. ends
    (rows ∷ others)) (stages_proper L b n 0 h)
    (λ rows. IsProper-bind (agent_rows h (agent + 1) bs ns) (λ others. ends (rows ∷ others))
    (agents_proper L h (agent + 1) bs ns (omega arith)) (λ others. tt)))

pub policy_proper : (m : Model) → IsModel m → IsProper (policy_grammar m)
unfolding policy_grammar
policy_proper m is =
    let few = is.sizes.agents_limit in
    IsProper-bind (the_words (title_words (codes "policy"))) (λ title. behind_title m)
    (words_proper TooLarge (title_words (codes "policy")) (assumption, (assumption, (assumption, tt))))
    (λ title. IsProper-bind (the_numbers horizon_form) (behind_horizon m)
    (numbers_proper TooLarge horizon_form (assumption, tt))
    (λ zs. IsProper-bind (unless_passed (first_passed (horizon_limits m (first_plain zs))))
    (λ kept. behind_limits m (first_plain zs)) (unless_proper
    (first_passed (horizon_limits m (first_plain zs))))
    (λ kept. IsProper-bind (agent_rows (first_plain zs) 0 m.actions m.observations)
    (behind_agents (first_plain zs)) (agents_proper TooLarge (first_plain zs) 0 m.actions m.observations
    (omega (arith, few)))
    (λ agents. IsProper-bind {L = TooLarge} {W = PolicyActions} (the_words end_words)
    (λ end. ends (record { horizon = first_plain zs; agents = agents }))
    (words_proper TooLarge end_words (assumption, tt)) (λ end. tt)))))
