use Rattle.std.proofs.Common.{map}
use Rattle.dp_cluster.proofs.AdvancedParts.{read_some_seen}
use Rattle.dp_cluster.proofs.JoinedRows.{agent_rows_full, some_stage}
use Rattle.dp_cluster.proofs.front.Front.rows_of.Goals as goal

pub rows-requires-clause-observations : goal.rows-requires-clause-observations
rows-requires-clause-observations c =
    read_some_seen c.args.m.now.model c.args.self.now c.requires.of_model c.args.agent c.requires.agent
    c.part.result.now c.part.ensures.front c.part.ensures.observations

pub rows-requires-clause-some : goal.rows-requires-clause-some
rows-requires-clause-some c =
    some_stage c.args.m.now.model c.args.self.now c.requires.of_model c.requires.full c.args.agent c.requires.agent
    c.part.result.now c.part.ensures.front c.part.ensures.observations c.part.ensures.past

pub returns : goal.returns
returns c =
    agent_rows_full c.args.m.now.model c.args.self.now c.requires.of_model c.requires.full c.args.agent
    c.requires.agent c.part.result.now c.part.ensures.front c.part.ensures.observations c.part.ensures.past
    (map (λ r. r.items) c.in_ok-rows.rows.items) c.in_ok-rows.ensures.rows c.in_ok-rows.ensures.tree
    c.in_ok-rows.ensures.classes
