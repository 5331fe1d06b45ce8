use Rattle.std.proofs.Common.{◌≡◌, ◌<◌, ◌≤◌, map, length, sym, ap, ◌∙◌, arith}
use Rattle.std.proofs.lemmas.List.{map_push}
use Rattle.dp_spec.specs.Steps.{advanced_agents}
use Rattle.dp_cluster.specs.AgentParts.{OwnPart}
use Rattle.dp_cluster.specs.PastClasses.{past_after}
use Rattle.dp_cluster.proofs.AdvancedParts.{advanced_length, next_taken, part_advanced_is, part_has_classes}
use Rattle.dp_cluster.proofs.AdvancedParts.{part_past_is, part_room, part_seen_is, read_members, taken_whole}
use Rattle.dp_cluster.proofs.ClassesBehind.{after_length}
use Rattle.dp_cluster.proofs.ChosenActions.{seen_of}
use Rattle.dp_cluster.proofs.advance.advanced_parts.Goals as goal

pub advanced-requires-clause-classes : goal.advanced-requires-clause-classes
advanced-requires-clause-classes c =
    let k = c.args.front.now in
    let m = c.args.m.now.model in
    let is = c.requires.of_model in
    let inside : c.loop-agent.agent < length k.front.agents = omega
    (arith, c.agents-agent-end.ensures, c.loop-agent-test.true) in
    part_has_classes m k is c.invariant.ensures c.requires.stage c.loop-agent.agent inside c.part.result.now
    c.part.ensures.front c.part.ensures.observations

pub advanced-requires-clause-members : goal.advanced-requires-clause-members
advanced-requires-clause-members c =
    let k = c.args.front.now in
    let m = c.args.m.now.model in
    let is = c.requires.of_model in
    let inside : c.loop-agent.agent < length k.front.agents = omega
    (arith, c.agents-agent-end.ensures, c.loop-agent-test.true) in
    read_members m k is c.loop-agent.agent inside c.part.result.now c.part.ensures.front c.part.ensures.observations

pub advanced-requires-clause-room : goal.advanced-requires-clause-room
advanced-requires-clause-room c =
    let k = c.args.front.now in
    let m = c.args.m.now.model in
    let is = c.requires.of_model in
    let inside : c.loop-agent.agent < length k.front.agents = omega
    (arith, c.agents-agent-end.ensures, c.loop-agent-test.true) in
    part_room m k is c.invariant.ensures c.requires.stage c.loop-agent.agent inside c.part.result.now
    c.part.ensures.front c.part.ensures.observations

pub loop-agent-preserved : goal.loop-agent-preserved
loop-agent-preserved c =
    let k = c.args.front.now in
    let m = c.args.m.now.model in
    let is = c.requires.of_model in
    let inside : c.loop-agent.agent < length k.front.agents = omega
    (arith, c.agents-agent-end.ensures, c.loop-agent-test.true) in
    let seen = seen_of is.front.agents in
    let pushed = ap (map (λ p. p.value)) c.in_ok-push.ensures.items
    ∙ map_push (λ p. p.value) c.loop-agent.all.items c.in_ok-new.field-0 in
    let value : c.in_ok-new.field-0.value ≡ _ = c.in_ok-new.ensures.ok ∙ c.in_ok-part.ensures in
    record {
      fronts = next_taken (λ (p : OwnPart). p.front) (map (λ p. p.value) c.loop-agent.all.items)
          (map (λ p. p.value) c.push.new.self.items) c.in_ok-new.field-0.value
          (advanced_agents m.observations k.front.stage k.front.agents) c.loop-agent.agent
          (omega (arith, advanced_length m.observations k.front.stage k.front.agents seen))
          (ap (λ (p : OwnPart). p.front) value ∙ sym (part_advanced_is m k is c.invariant.ensures
          c.requires.stage
          c.loop-agent.agent inside c.part.result.now c.part.ensures.front c.part.ensures.observations _))
          pushed c.loop-agent.invariant.fronts;
      seen = next_taken (λ (p : OwnPart). p.observations) (map (λ p. p.value) c.loop-agent.all.items)
          (map (λ p. p.value) c.push.new.self.items) c.in_ok-new.field-0.value m.observations c.loop-agent.agent
          (omega arith) (ap (λ (p : OwnPart). p.observations) value
          ∙ sym (part_seen_is m k is c.invariant.ensures c.requires.stage c.loop-agent.agent inside
          c.part.result.now c.part.ensures.front c.part.ensures.observations _))
          pushed c.loop-agent.invariant.seen;
      past = next_taken (λ (p : OwnPart). p.past) (map (λ p. p.value) c.loop-agent.all.items)
          (map (λ p. p.value) c.push.new.self.items) c.in_ok-new.field-0.value (past_after k.front.agents k.past)
          c.loop-agent.agent
          (omega (arith, after_length k.front.agents k.past c.invariant.ensures.past_agents))
          (ap (λ (p : OwnPart). p.past) value ∙ sym (part_past_is m k is c.invariant.ensures c.requires.stage
          c.loop-agent.agent inside c.part.result.now c.part.ensures.front c.part.ensures.observations
          c.part.ensures.past _))
          pushed c.loop-agent.invariant.past;
    }

pub returns-clause-fronts : goal.returns-clause-fronts
returns-clause-fronts c =
    let k = c.args.front.now in
    let m = c.args.m.now.model in
    let le : length k.front.agents ≤ c.loop-agent.agent = omega
    (arith, c.agents-agent-end.ensures, c.loop-agent-test.false) in
    let seen = seen_of c.requires.of_model.front.agents in
    c.loop-agent.invariant.fronts ∙ taken_whole (advanced_agents m.observations k.front.stage k.front.agents)
    c.loop-agent.agent (omega (arith, advanced_length m.observations k.front.stage k.front.agents seen))

pub returns-clause-observations : goal.returns-clause-observations
returns-clause-observations c =
    let k = c.args.front.now in
    let le : length k.front.agents ≤ c.loop-agent.agent = omega
    (arith, c.agents-agent-end.ensures, c.loop-agent-test.false) in
    let seen = seen_of c.requires.of_model.front.agents in
    c.loop-agent.invariant.seen ∙ taken_whole c.args.m.now.model.observations c.loop-agent.agent (omega arith)

pub returns-clause-past : goal.returns-clause-past
returns-clause-past c =
    let k = c.args.front.now in
    let le : length k.front.agents ≤ c.loop-agent.agent = omega
    (arith, c.agents-agent-end.ensures, c.loop-agent-test.false) in
    c.loop-agent.invariant.past ∙ taken_whole (past_after k.front.agents k.past) c.loop-agent.agent
    (omega (arith, after_length k.front.agents k.past c.invariant.ensures.past_agents))
