use Rattle.std.proofs.Common.{◌<◌, ◌≤◌, ℕ, List, drop, length, add-one, sym, ap, subst, ◌∙◌, arith}
use Rattle.dp_spec.specs.Bound.{agrees}
use Rattle.dp_spec.specs.JointNumbers.{parts_of}
use Rattle.dp_spec.proofs.JointNumberLaws.{length-parts_of}
use Rattle.dp_game.specs.Games.{each_agrees}
use Rattle.dp_game.specs.Kept.{AreActionParts}
use Rattle.dp_game.proofs.ActionParts.{action_room, part_read, places_in}
use Rattle.dp_game.proofs.Agreement.{agree_end, agree_next, agree_not}
use Rattle.dp_game.proofs.actions.JointActions.agrees.Goals as goal

pub overflow_mul-first : goal.overflow_mul-first
overflow_mul-first c =
    let is = subst (λ (l : List ℕ). AreActionParts l c.self.inside.count c.self.inside.parts.items)
    c.self.view_is
    c.self.invariant in
    let lt = action_room _ _ _ c.args.action is c.requires.action in
    rw c.agents-agents.ensures.is (omega arith)

pub bounds-parts-first : goal.bounds-parts-first
bounds-parts-first c =
    let is = subst (λ (l : List ℕ). AreActionParts l c.self.inside.count c.self.inside.parts.items)
    c.self.view_is
    c.self.invariant in
    let hj : c.loop-agent.agent < length c.args.self.now = omega
    (arith, c.agents-agents.ensures.is, c.loop-agent-test.true) in
    let lt = places_in _ _ _ c.args.action c.loop-agent.agent is c.requires.action hj in
    rw (c.agents-agents.ensures.is, c.deref-parts.ensures.value) lt

pub returns-then-not-is_allowed : goal.returns-then-not-is_allowed
returns-then-not-is_allowed c =
    let is = subst (λ (l : List ℕ). AreActionParts l c.self.inside.count c.self.inside.parts.items)
    c.self.view_is
    c.self.invariant in
    let hj : c.loop-agent.agent < length c.args.self.now = omega
    (arith, c.agents-agents.ensures.is, c.loop-agent-test.true) in
    let alike = c.requires.one_each in
    let long = length-parts_of c.args.self.now c.args.action in
    let read = part_read _ _ _ _ c.args.action c.loop-agent.agent _ _ is c.deref-parts.ensures.value
    c.agents-agents.ensures.is c.requires.action hj in
    sym (sym c.loop-agent.invariant
    ∙ agree_not c.args.wanted.now (parts_of c.args.self.now c.args.action) c.loop-agent.agent (omega arith)
    (omega arith) (ap (agrees _) (sym read) ∙ sym c.is_allowed.ensures ∙ c.if-not-is_allowed.true))

pub loop-agent-preserved : goal.loop-agent-preserved
loop-agent-preserved c =
    let is = subst (λ (l : List ℕ). AreActionParts l c.self.inside.count c.self.inside.parts.items)
    c.self.view_is
    c.self.invariant in
    let hj : c.loop-agent.agent < length c.args.self.now = omega
    (arith, c.agents-agents.ensures.is, c.loop-agent-test.true) in
    let alike = c.requires.one_each in
    let long = length-parts_of c.args.self.now c.args.action in
    let read = part_read _ _ _ _ c.args.action c.loop-agent.agent _ _ is c.deref-parts.ensures.value
    c.agents-agents.ensures.is c.requires.action hj in
    let step = agree_next c.args.wanted.now (parts_of c.args.self.now c.args.action) c.loop-agent.agent
    (omega arith) (omega arith) (ap (agrees _) (sym read) ∙ sym c.is_allowed.ensures ∙
    c.if-not-is_allowed.false) in
    (λ i. each_agrees (drop (add-one c.loop-agent.agent i) c.args.wanted.now)
    (drop (add-one c.loop-agent.agent i) (parts_of c.args.self.now c.args.action)))
    ∙ sym step ∙ c.loop-agent.invariant

pub returns : goal.returns
returns c =
    let le : length c.args.wanted.now ≤ c.loop-agent.agent = omega
    (arith, c.agents-agents.ensures.is, c.loop-agent-test.false, c.requires.one_each) in
    sym (agree_end c.args.wanted.now (parts_of c.args.self.now c.args.action) c.loop-agent.agent le) ∙
    c.loop-agent.invariant
