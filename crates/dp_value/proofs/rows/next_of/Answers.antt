use Rattle.std.proofs.Common.{◌<◌, suc, add-one, length, arith}
use Rattle.dp_spec.specs.JointNumbers.{parts_of}
use Rattle.dp_spec.specs.SharedWorth.{next_joint_row}
use Rattle.dp_spec.proofs.JointNumberLaws.{length-parts_of}
use Rattle.dp_laws.proofs.SharedTexts.{few_rows}
use Rattle.dp_policy.proofs.JoinedRows.{rows_alike}
use Rattle.dp_value.proofs.JointRows.{followed_at, following_end, following_room, goes_on, next_is, next_row_inside}
use Rattle.dp_value.proofs.rows.next_of.Goals as goal

pub loop-agent-init : goal.loop-agent-init
loop-agent-init c =
    let e = next_is c.args.model.now.model c.args.policy.now.rows c.args.stage c.args.row c.args.seen in
    record {
      left_is = c.joint_rows-left.ensures.is;
      below = omega
          (arith, c.joint_rows-left.ensures.is, c.requires.row);
      is = omega (arith, e);
    }

pub nonzero_div-own : goal.nonzero_div-own
nonzero_div-own c =
    let m = c.args.model.now.model in
    let p = c.args.policy.now.rows in
    let t = c.args.stage in
    let i = c.loop-agent.agent in
    let os = parts_of c.args.model.now.model.observations c.args.seen in
    let J = next_joint_row c.args.model.now.model c.args.policy.now.rows c.args.stage c.args.row c.args.seen in
    let alike = rows_alike c.requires.policy.agents in
    let same = c.invariant.ensures.model.sizes.alike in
    let counted = length-parts_of c.args.model.now.model.observations c.args.seen in
    let early : c.args.stage < c.args.policy.now.horizon = omega (arith, c.requires.stage) in
    let li : c.loop-agent.agent < length c.args.policy.now.rows = omega
    (arith, c.agents-agent-end.ensures.is, c.loop-agent-test.true) in
    let lo : c.loop-agent.agent < length (parts_of c.args.model.now.model.observations c.args.seen) =
    omega arith in
    let one = followed_at p os i t c.loop-agent.left c.loop-agent.rest c.loop-agent.next J li lo
    c.loop-agent.invariant in
    rw c.rows.ensures.is one.some_after

pub nonzero_rem-rest : goal.nonzero_rem-rest
nonzero_rem-rest c =
    let m = c.args.model.now.model in
    let p = c.args.policy.now.rows in
    let t = c.args.stage in
    let i = c.loop-agent.agent in
    let os = parts_of c.args.model.now.model.observations c.args.seen in
    let J = next_joint_row c.args.model.now.model c.args.policy.now.rows c.args.stage c.args.row c.args.seen in
    let alike = rows_alike c.requires.policy.agents in
    let same = c.invariant.ensures.model.sizes.alike in
    let counted = length-parts_of c.args.model.now.model.observations c.args.seen in
    let early : c.args.stage < c.args.policy.now.horizon = omega (arith, c.requires.stage) in
    let li : c.loop-agent.agent < length c.args.policy.now.rows = omega
    (arith, c.agents-agent-end.ensures.is, c.loop-agent-test.true) in
    let lo : c.loop-agent.agent < length (parts_of c.args.model.now.model.observations c.args.seen) =
    omega arith in
    let one = followed_at p os i t c.loop-agent.left c.loop-agent.rest c.loop-agent.next J li lo
    c.loop-agent.invariant in
    rw c.rows.ensures.is one.some_after

pub local_obs-requires-clause-agent : goal.local_obs-requires-clause-agent
local_obs-requires-clause-agent c =
    let m = c.args.model.now.model in
    let p = c.args.policy.now.rows in
    let t = c.args.stage in
    let i = c.loop-agent.agent in
    let os = parts_of c.args.model.now.model.observations c.args.seen in
    let J = next_joint_row c.args.model.now.model c.args.policy.now.rows c.args.stage c.args.row c.args.seen in
    let alike = rows_alike c.requires.policy.agents in
    let same = c.invariant.ensures.model.sizes.alike in
    let counted = length-parts_of c.args.model.now.model.observations c.args.seen in
    let early : c.args.stage < c.args.policy.now.horizon = omega (arith, c.requires.stage) in
    let li : c.loop-agent.agent < length c.args.policy.now.rows = omega
    (arith, c.agents-agent-end.ensures.is, c.loop-agent-test.true) in
    let lo : c.loop-agent.agent < length (parts_of c.args.model.now.model.observations c.args.seen) =
    omega arith in
    let one = followed_at p os i t c.loop-agent.left c.loop-agent.rest c.loop-agent.next J li lo
    c.loop-agent.invariant in
    omega arith

pub next-follows-requires-clause-row : goal.next-follows-requires-clause-row
next-follows-requires-clause-row c =
    let m = c.args.model.now.model in
    let p = c.args.policy.now.rows in
    let t = c.args.stage in
    let i = c.loop-agent.agent in
    let os = parts_of c.args.model.now.model.observations c.args.seen in
    let J = next_joint_row c.args.model.now.model c.args.policy.now.rows c.args.stage c.args.row c.args.seen in
    let alike = rows_alike c.requires.policy.agents in
    let same = c.invariant.ensures.model.sizes.alike in
    let counted = length-parts_of c.args.model.now.model.observations c.args.seen in
    let early : c.args.stage < c.args.policy.now.horizon = omega (arith, c.requires.stage) in
    let li : c.loop-agent.agent < length c.args.policy.now.rows = omega
    (arith, c.agents-agent-end.ensures.is, c.loop-agent-test.true) in
    let lo : c.loop-agent.agent < length (parts_of c.args.model.now.model.observations c.args.seen) =
    omega arith in
    let one = followed_at p os i t c.loop-agent.left c.loop-agent.rest c.loop-agent.next J li lo
    c.loop-agent.invariant in
    rw c.rows.ensures.is one.own

pub next-follows-requires-clause-seen : goal.next-follows-requires-clause-seen
next-follows-requires-clause-seen c =
    let m = c.args.model.now.model in
    let p = c.args.policy.now.rows in
    let t = c.args.stage in
    let i = c.loop-agent.agent in
    let os = parts_of c.args.model.now.model.observations c.args.seen in
    let J = next_joint_row c.args.model.now.model c.args.policy.now.rows c.args.stage c.args.row c.args.seen in
    let alike = rows_alike c.requires.policy.agents in
    let same = c.invariant.ensures.model.sizes.alike in
    let counted = length-parts_of c.args.model.now.model.observations c.args.seen in
    let early : c.args.stage < c.args.policy.now.horizon = omega (arith, c.requires.stage) in
    let li : c.loop-agent.agent < length c.args.policy.now.rows = omega
    (arith, c.agents-agent-end.ensures.is, c.loop-agent-test.true) in
    let lo : c.loop-agent.agent < length (parts_of c.args.model.now.model.observations c.args.seen) =
    omega arith in
    let one = followed_at p os i t c.loop-agent.left c.loop-agent.rest c.loop-agent.next J li lo
    c.loop-agent.invariant in
    rw (c.rows.ensures.is, c.local_obs.ensures) (goes_on m c.invariant.ensures.model c.args.policy.now.horizon p
    c.requires.policy t early c.requires.stage c.args.seen i _ c.requires.seen li one.own)

pub overflow_mul-next : goal.overflow_mul-next
overflow_mul-next c =
    let m = c.args.model.now.model in
    let p = c.args.policy.now.rows in
    let t = c.args.stage in
    let i = c.loop-agent.agent in
    let os = parts_of c.args.model.now.model.observations c.args.seen in
    let J = next_joint_row c.args.model.now.model c.args.policy.now.rows c.args.stage c.args.row c.args.seen in
    let alike = rows_alike c.requires.policy.agents in
    let same = c.invariant.ensures.model.sizes.alike in
    let counted = length-parts_of c.args.model.now.model.observations c.args.seen in
    let early : c.args.stage < c.args.policy.now.horizon = omega (arith, c.requires.stage) in
    let li : c.loop-agent.agent < length c.args.policy.now.rows = omega
    (arith, c.agents-agent-end.ensures.is, c.loop-agent-test.true) in
    let lo : c.loop-agent.agent < length (parts_of c.args.model.now.model.observations c.args.seen) =
    omega arith in
    let one = followed_at p os i t c.loop-agent.left c.loop-agent.rest c.loop-agent.next J li lo
    c.loop-agent.invariant in
    let inside = next_row_inside m c.args.policy.now.horizon p c.requires.policy t c.args.row c.args.seen
    c.requires.stage c.requires.row c.requires.seen in
    let limit = (few_rows m c.invariant.ensures.model c.args.policy.now.horizon p c.requires.policy (suc t)
    c.requires.stage).1 in
    let room = following_room m c.invariant.ensures.model c.args.policy.now.horizon p c.requires.policy t early
    c.requires.stage os i c.loop-agent.left c.loop-agent.rest c.loop-agent.next J li lo (omega arith)
    c.loop-agent.invariant in
    rw (c.rows-count.ensures.is, add-one) (omega (arith, room))

pub overflow_add-next : goal.overflow_add-next
overflow_add-next c =
    let m = c.args.model.now.model in
    let p = c.args.policy.now.rows in
    let t = c.args.stage in
    let i = c.loop-agent.agent in
    let os = parts_of c.args.model.now.model.observations c.args.seen in
    let J = next_joint_row c.args.model.now.model c.args.policy.now.rows c.args.stage c.args.row c.args.seen in
    let alike = rows_alike c.requires.policy.agents in
    let same = c.invariant.ensures.model.sizes.alike in
    let counted = length-parts_of c.args.model.now.model.observations c.args.seen in
    let early : c.args.stage < c.args.policy.now.horizon = omega (arith, c.requires.stage) in
    let li : c.loop-agent.agent < length c.args.policy.now.rows = omega
    (arith, c.agents-agent-end.ensures.is, c.loop-agent-test.true) in
    let lo : c.loop-agent.agent < length (parts_of c.args.model.now.model.observations c.args.seen) =
    omega arith in
    let one = followed_at p os i t c.loop-agent.left c.loop-agent.rest c.loop-agent.next J li lo
    c.loop-agent.invariant in
    let inside = next_row_inside m c.args.policy.now.horizon p c.requires.policy t c.args.row c.args.seen
    c.requires.stage c.requires.row c.requires.seen in
    let limit = (few_rows m c.invariant.ensures.model c.args.policy.now.horizon p c.requires.policy (suc t)
    c.requires.stage).1 in
    let room = following_room m c.invariant.ensures.model c.args.policy.now.horizon p c.requires.policy t early
    c.requires.stage os i c.loop-agent.left c.loop-agent.rest c.loop-agent.next J li lo (omega arith)
    c.loop-agent.invariant in
    rw (c.rows-count.ensures.is, c.next-follows.ensures, c.local_obs.ensures, c.rows.ensures.is, add-one)
    (omega (arith, room))

pub loop-agent-preserved : goal.loop-agent-preserved
loop-agent-preserved c =
    let m = c.args.model.now.model in
    let p = c.args.policy.now.rows in
    let t = c.args.stage in
    let i = c.loop-agent.agent in
    let os = parts_of c.args.model.now.model.observations c.args.seen in
    let J = next_joint_row c.args.model.now.model c.args.policy.now.rows c.args.stage c.args.row c.args.seen in
    let alike = rows_alike c.requires.policy.agents in
    let same = c.invariant.ensures.model.sizes.alike in
    let counted = length-parts_of c.args.model.now.model.observations c.args.seen in
    let early : c.args.stage < c.args.policy.now.horizon = omega (arith, c.requires.stage) in
    let li : c.loop-agent.agent < length c.args.policy.now.rows = omega
    (arith, c.agents-agent-end.ensures.is, c.loop-agent-test.true) in
    let lo : c.loop-agent.agent < length (parts_of c.args.model.now.model.observations c.args.seen) =
    omega arith in
    let one = followed_at p os i t c.loop-agent.left c.loop-agent.rest c.loop-agent.next J li lo
    c.loop-agent.invariant in
    rw (
      add-one,
      c.rows.ensures.is,
      c.rows-count.ensures.is,
      c.next-follows.ensures,
      c.local_obs.ensures,
      c.rows.ensures.is,
      add-one,
    ) one.going

pub returns-clause-is : goal.returns-clause-is
returns-clause-is c =
    let is = following_end c.args.policy.now.rows (parts_of c.args.model.now.model.observations c.args.seen)
    c.loop-agent.agent c.args.stage c.loop-agent.left c.loop-agent.rest c.loop-agent.next _
    (omega (arith, c.agents-agent-end.ensures.is, c.loop-agent-test.false)) c.loop-agent.invariant in
    is

pub returns-clause-next : goal.returns-clause-next
returns-clause-next c =
    let is = following_end c.args.policy.now.rows (parts_of c.args.model.now.model.observations c.args.seen)
    c.loop-agent.agent c.args.stage c.loop-agent.left c.loop-agent.rest c.loop-agent.next _
    (omega (arith, c.agents-agent-end.ensures.is, c.loop-agent-test.false)) c.loop-agent.invariant in
    rw is (next_row_inside c.args.model.now.model c.args.policy.now.horizon c.args.policy.now.rows
    c.requires.policy c.args.stage c.args.row c.args.seen c.requires.stage c.requires.row c.requires.seen)
