use Rattle.std.proofs.Common.{[], ◌∷◌, ◌++◌, length}
use Rattle.std.specs.Prelude.{codes}
use Rattle.std.proofs.lemmas.Result.{on_ok_weaker}
use Rattle.dp_writer.specs.ModelRows.{start_row}
use Rattle.dp_writer.specs.WrittenModel.{agent_lines, chance_word, header_lines, list_words, row_words}
use Rattle.dp_writer.proofs.WordTexts.{alone, lines_behind}
use Rattle.dp_writer.proofs.header.push_header.Goals as goal

pub returns : goal.returns
unfolding header_lines
returns c =
    let m = c.args.model.now in
    let x = c.args.text.now in
    let x1 = c.push_agents_line.new.text in
    let x2 = c.push_discount_line.new.text in
    let x3 = c.push_states_line.new.text in
    let x4 = c.push.new.self in
    let x5 = c.push_row.new.text in
    let x6 = c.push-2.new.self in
    let x7 = c.push_action_lists.new.text in
    let x8 = c.push-3.new.self in
    let x9 = c.push_observation_lists.new.text in
    let agents = codes "agents:" ∷ list_words m.names.agents (length m.model.actions) in
    let discount = codes "discount:" ∷ chance_word m.model.scales.discount m.model.scales.gain ∷ [] in
    let values = codes "values:" ∷ codes "reward" ∷ [] in
    let states = codes "states:" ∷ list_words m.names.states m.model.states in
    let row = row_words m.model.scales.start (start_row m.model) in
    let actions = agent_lines m.names.actions m.model.actions in
    let observations = agent_lines m.names.observations m.model.observations in
    let from_observations = (codes "observations:" ∷ []) ∷ observations in
    let from_actions = (codes "actions:" ∷ []) ∷ (actions ++ from_observations) in
    let from_start = (codes "start:" ∷ []) ∷ row ∷ from_actions in
    on_ok_weaker c.push_observation_lists.result
    (λ e. lines_behind x x1 x9 (agents ∷ []) (discount ∷ values ∷ states ∷ from_start)
    (alone x x1 agents c.in_ok-push_agents_line.ensures)
    (lines_behind x1 x2 x9 (discount ∷ values ∷ []) (states ∷ from_start) c.in_ok-push_discount_line.ensures
    (lines_behind x2 x3 x9 (states ∷ []) from_start (alone x2 x3 states c.in_ok-push_states_line.ensures)
    (lines_behind x3 x4 x9 ((codes "start:" ∷ []) ∷ []) (row ∷ from_actions) c.in_ok-push.ensures
    (lines_behind x4 x5 x9 (row ∷ []) from_actions (alone x4 x5 row c.in_ok-push_row.ensures)
    (lines_behind x5 x6 x9 ((codes "actions:" ∷ []) ∷ []) (actions ++ from_observations) c.in_ok-push-2.ensures
    (lines_behind x6 x7 x9 actions from_observations c.in_ok-push_action_lists.ensures
    (lines_behind x7 x8 x9 ((codes "observations:" ∷ []) ∷ []) observations c.in_ok-push-3.ensures e))))))))
    c.push_observation_lists.ensures
