use Rattle.std.proofs.Common.{◌<◌, add-one, length, arith}
use Rattle.dp_spec.specs.SharedWorth.{joint_row_action}
use Rattle.dp_laws.proofs.RowSizes.{row_acts}
use Rattle.dp_policy.proofs.JoinedRows.{rows_alike}
use Rattle.dp_value.proofs.JointRows.{acted_at, acting_end, acting_room, action_is}
use Rattle.dp_value.proofs.rows.action_of.Goals as goal

pub loop-agent-init : goal.loop-agent-init
loop-agent-init c =
    let e = action_is c.args.model.now.model c.args.policy.now.rows c.args.stage c.args.row in
    record {
      left_is = c.joint_rows-left.ensures.is;
      below = omega
          (arith, c.joint_rows-left.ensures.is, c.requires.row);
      is = omega (arith, e);
    }

pub nonzero_div-own : goal.nonzero_div-own
nonzero_div-own c =
    let m = c.args.model.now.model in
    let p = c.args.policy.now.rows in
    let t = c.args.stage in
    let i = c.loop-agent.agent in
    let J = joint_row_action c.args.model.now.model c.args.policy.now.rows c.args.stage c.args.row in
    let alike = rows_alike c.requires.policy.agents in
    let li : c.loop-agent.agent < length c.args.policy.now.rows = omega
    (arith, c.agents-agent-end.ensures.is, c.loop-agent-test.true) in
    let lb : c.loop-agent.agent < length c.args.model.now.model.actions = omega arith in
    let one = acted_at p m.actions i t c.loop-agent.left c.loop-agent.rest c.loop-agent.action J li lb
    c.loop-agent.invariant in
    rw c.rows.ensures.is one.some_after

pub nonzero_rem-rest : goal.nonzero_rem-rest
nonzero_rem-rest c =
    let m = c.args.model.now.model in
    let p = c.args.policy.now.rows in
    let t = c.args.stage in
    let i = c.loop-agent.agent in
    let J = joint_row_action c.args.model.now.model c.args.policy.now.rows c.args.stage c.args.row in
    let alike = rows_alike c.requires.policy.agents in
    let li : c.loop-agent.agent < length c.args.policy.now.rows = omega
    (arith, c.agents-agent-end.ensures.is, c.loop-agent-test.true) in
    let lb : c.loop-agent.agent < length c.args.model.now.model.actions = omega arith in
    let one = acted_at p m.actions i t c.loop-agent.left c.loop-agent.rest c.loop-agent.action J li lb
    c.loop-agent.invariant in
    rw c.rows.ensures.is one.some_after

pub actions-requires : goal.actions-requires
actions-requires c =
    let m = c.args.model.now.model in
    let p = c.args.policy.now.rows in
    let t = c.args.stage in
    let i = c.loop-agent.agent in
    let J = joint_row_action c.args.model.now.model c.args.policy.now.rows c.args.stage c.args.row in
    let alike = rows_alike c.requires.policy.agents in
    let li : c.loop-agent.agent < length c.args.policy.now.rows = omega
    (arith, c.agents-agent-end.ensures.is, c.loop-agent-test.true) in
    let lb : c.loop-agent.agent < length c.args.model.now.model.actions = omega arith in
    let one = acted_at p m.actions i t c.loop-agent.left c.loop-agent.rest c.loop-agent.action J li lb
    c.loop-agent.invariant in
    lb

pub action-requires-clause-row : goal.action-requires-clause-row
action-requires-clause-row c =
    let m = c.args.model.now.model in
    let p = c.args.policy.now.rows in
    let t = c.args.stage in
    let i = c.loop-agent.agent in
    let J = joint_row_action c.args.model.now.model c.args.policy.now.rows c.args.stage c.args.row in
    let alike = rows_alike c.requires.policy.agents in
    let li : c.loop-agent.agent < length c.args.policy.now.rows = omega
    (arith, c.agents-agent-end.ensures.is, c.loop-agent-test.true) in
    let lb : c.loop-agent.agent < length c.args.model.now.model.actions = omega arith in
    let one = acted_at p m.actions i t c.loop-agent.left c.loop-agent.rest c.loop-agent.action J li lb
    c.loop-agent.invariant in
    rw c.rows.ensures.is one.own

pub overflow_mul-action : goal.overflow_mul-action
overflow_mul-action c =
    let m = c.args.model.now.model in
    let p = c.args.policy.now.rows in
    let t = c.args.stage in
    let i = c.loop-agent.agent in
    let J = joint_row_action c.args.model.now.model c.args.policy.now.rows c.args.stage c.args.row in
    let alike = rows_alike c.requires.policy.agents in
    let li : c.loop-agent.agent < length c.args.policy.now.rows = omega
    (arith, c.agents-agent-end.ensures.is, c.loop-agent-test.true) in
    let lb : c.loop-agent.agent < length c.args.model.now.model.actions = omega arith in
    let one = acted_at p m.actions i t c.loop-agent.left c.loop-agent.rest c.loop-agent.action J li lb
    c.loop-agent.invariant in
    let inside = row_acts m c.args.policy.now.horizon p c.requires.policy.agents t c.args.row c.requires.row in
    let limit = c.invariant.ensures.model.sizes.joint_actions_limit in
    let room = acting_room m c.invariant.ensures.model c.args.policy.now.horizon p c.requires.policy t
    c.requires.stage i c.loop-agent.left c.loop-agent.rest c.loop-agent.action J li lb (omega arith)
    c.loop-agent.invariant in
    rw c.actions.ensures (omega (arith, room))

pub overflow_add-action : goal.overflow_add-action
overflow_add-action c =
    let m = c.args.model.now.model in
    let p = c.args.policy.now.rows in
    let t = c.args.stage in
    let i = c.loop-agent.agent in
    let J = joint_row_action c.args.model.now.model c.args.policy.now.rows c.args.stage c.args.row in
    let alike = rows_alike c.requires.policy.agents in
    let li : c.loop-agent.agent < length c.args.policy.now.rows = omega
    (arith, c.agents-agent-end.ensures.is, c.loop-agent-test.true) in
    let lb : c.loop-agent.agent < length c.args.model.now.model.actions = omega arith in
    let one = acted_at p m.actions i t c.loop-agent.left c.loop-agent.rest c.loop-agent.action J li lb
    c.loop-agent.invariant in
    let inside = row_acts m c.args.policy.now.horizon p c.requires.policy.agents t c.args.row c.requires.row in
    let limit = c.invariant.ensures.model.sizes.joint_actions_limit in
    let room = acting_room m c.invariant.ensures.model c.args.policy.now.horizon p c.requires.policy t
    c.requires.stage i c.loop-agent.left c.loop-agent.rest c.loop-agent.action J li lb (omega arith)
    c.loop-agent.invariant in
    rw (c.actions.ensures, c.action.ensures, c.rows.ensures.is) (omega (arith, room))

pub loop-agent-preserved : goal.loop-agent-preserved
loop-agent-preserved c =
    let m = c.args.model.now.model in
    let p = c.args.policy.now.rows in
    let t = c.args.stage in
    let i = c.loop-agent.agent in
    let J = joint_row_action c.args.model.now.model c.args.policy.now.rows c.args.stage c.args.row in
    let alike = rows_alike c.requires.policy.agents in
    let li : c.loop-agent.agent < length c.args.policy.now.rows = omega
    (arith, c.agents-agent-end.ensures.is, c.loop-agent-test.true) in
    let lb : c.loop-agent.agent < length c.args.model.now.model.actions = omega arith in
    let one = acted_at p m.actions i t c.loop-agent.left c.loop-agent.rest c.loop-agent.action J li lb
    c.loop-agent.invariant in
    rw (add-one, c.rows.ensures.is, c.actions.ensures, c.action.ensures, c.rows.ensures.is) one.next

pub returns-clause-is : goal.returns-clause-is
returns-clause-is c =
    let alike = rows_alike c.requires.policy.agents in
    let is = acting_end c.args.policy.now.rows c.args.model.now.model.actions c.loop-agent.agent c.args.stage
    c.loop-agent.left c.loop-agent.rest c.loop-agent.action _
    (omega (arith, c.agents-agent-end.ensures.is, c.loop-agent-test.false))
    (omega (arith, alike, c.agents-agent-end.ensures.is, c.loop-agent-test.false)) c.loop-agent.invariant in
    is

pub returns-clause-action : goal.returns-clause-action
returns-clause-action c =
    let alike = rows_alike c.requires.policy.agents in
    let is = acting_end c.args.policy.now.rows c.args.model.now.model.actions c.loop-agent.agent c.args.stage
    c.loop-agent.left c.loop-agent.rest c.loop-agent.action _
    (omega (arith, c.agents-agent-end.ensures.is, c.loop-agent-test.false))
    (omega (arith, alike, c.agents-agent-end.ensures.is, c.loop-agent-test.false)) c.loop-agent.invariant in
    rw is (row_acts c.args.model.now.model c.args.policy.now.horizon c.args.policy.now.rows
    c.requires.policy.agents c.args.stage c.args.row c.requires.row)
