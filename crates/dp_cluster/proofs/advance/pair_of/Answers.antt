use Rattle.std.proofs.Common.{◌≡◌, ◌<◌, ◌≤◌, ◌*◌, ◌^◌, ℕ, length, get_or, sym, ap, subst, ◌∙◌, arith}
use Rattle.dp_spec.specs.Front.{class_counts}
use Rattle.dp_spec.specs.JointNumbers.{product}
use Rattle.dp_spec.specs.ClassSteps.{pair_counts}
use Rattle.dp_cluster.proofs.FrontParts.{as_many_counts}
use Rattle.dp_cluster.proofs.Pairs.{classes_few, code_next, code_room, seen_few, seen_product, unpair_end}
use Rattle.dp_cluster.proofs.Pairs.{unpair_start, whole_is}
use Rattle.dp_cluster.proofs.advance.pair_of.Goals as goal

pub loop-agent-init : goal.loop-agent-init
loop-agent-init c =
    let cs = class_counts c.args.front.now.front.agents in
    let ns = c.args.m.now.model.observations in
    let alike : length ns ≡ length cs = omega (
      arith,
      c.requires.agents,
      as_many_counts c.args.front.now.front.agents,
    ) in
    unpair_start cs ns c.args.count c.args.next alike (c.requires.count
    ∙ ap (λ (z : ℕ). product cs * z) (seen_product c.args.m.now.model)) c.requires.limit c.requires.next

pub nonzero_div-left : goal.nonzero_div-left
nonzero_div-left c =
    let cs = class_counts c.args.front.now.front.agents in
    let ns = c.args.m.now.model.observations in
    let seen = seen_product c.args.m.now.model in
    let alike : length ns ≡ length cs = omega (
      arith,
      c.requires.agents,
      as_many_counts c.args.front.now.front.agents,
    ) in
    let lt : c.loop-agent.agent < length cs = omega (
      arith,
      c.agents-agent-end.ensures,
      c.loop-agent-test.true,
      as_many_counts c.args.front.now.front.agents,
    ) in
    let whole : c.args.next < product (pair_counts cs ns) = whole_is c.args.count c.args.next cs ns alike
    (c.requires.count ∙ ap (λ (z : ℕ). product cs * z) seen) c.requires.next in
    let room = code_room cs ns alike c.loop-agent.agent c.loop-agent.left c.loop-agent.rest
    c.loop-agent.pair.class
    c.loop-agent.pair.seen c.args.next c.classes-classes.result c.observations-observations.result
    c.classes-classes.ensures
    (c.observations-observations.ensures ∙ sym c.part.ensures.observations
    ∙ ap (λ l. get_or l c.loop-agent.agent 0) c.requires.observations) lt whole c.loop-agent.invariant in
    omega (arith, room.some)

pub nonzero_div-own : goal.nonzero_div-own
nonzero_div-own c =
    let cs = class_counts c.args.front.now.front.agents in
    let ns = c.args.m.now.model.observations in
    let seen = seen_product c.args.m.now.model in
    let alike : length ns ≡ length cs = omega (
      arith,
      c.requires.agents,
      as_many_counts c.args.front.now.front.agents,
    ) in
    let lt : c.loop-agent.agent < length cs = omega (
      arith,
      c.agents-agent-end.ensures,
      c.loop-agent-test.true,
      as_many_counts c.args.front.now.front.agents,
    ) in
    let whole : c.args.next < product (pair_counts cs ns) = whole_is c.args.count c.args.next cs ns alike
    (c.requires.count ∙ ap (λ (z : ℕ). product cs * z) seen) c.requires.next in
    let room = code_room cs ns alike c.loop-agent.agent c.loop-agent.left c.loop-agent.rest
    c.loop-agent.pair.class
    c.loop-agent.pair.seen c.args.next c.classes-classes.result c.observations-observations.result
    c.classes-classes.ensures
    (c.observations-observations.ensures ∙ sym c.part.ensures.observations
    ∙ ap (λ l. get_or l c.loop-agent.agent 0) c.requires.observations) lt whole c.loop-agent.invariant in
    room.some_left

pub nonzero_rem-rest : goal.nonzero_rem-rest
nonzero_rem-rest c =
    let cs = class_counts c.args.front.now.front.agents in
    let ns = c.args.m.now.model.observations in
    let seen = seen_product c.args.m.now.model in
    let alike : length ns ≡ length cs = omega (
      arith,
      c.requires.agents,
      as_many_counts c.args.front.now.front.agents,
    ) in
    let lt : c.loop-agent.agent < length cs = omega (
      arith,
      c.agents-agent-end.ensures,
      c.loop-agent-test.true,
      as_many_counts c.args.front.now.front.agents,
    ) in
    let whole : c.args.next < product (pair_counts cs ns) = whole_is c.args.count c.args.next cs ns alike
    (c.requires.count ∙ ap (λ (z : ℕ). product cs * z) seen) c.requires.next in
    let room = code_room cs ns alike c.loop-agent.agent c.loop-agent.left c.loop-agent.rest
    c.loop-agent.pair.class
    c.loop-agent.pair.seen c.args.next c.classes-classes.result c.observations-observations.result
    c.classes-classes.ensures
    (c.observations-observations.ensures ∙ sym c.part.ensures.observations
    ∙ ap (λ l. get_or l c.loop-agent.agent 0) c.requires.observations) lt whole c.loop-agent.invariant in
    room.some_left

pub overflow_mul-left : goal.overflow_mul-left
overflow_mul-left c =
    let cs = class_counts c.args.front.now.front.agents in
    let ns = c.args.m.now.model.observations in
    let seen = seen_product c.args.m.now.model in
    let alike : length ns ≡ length cs = omega (
      arith,
      c.requires.agents,
      as_many_counts c.args.front.now.front.agents,
    ) in
    let lt : c.loop-agent.agent < length cs = omega (
      arith,
      c.agents-agent-end.ensures,
      c.loop-agent-test.true,
      as_many_counts c.args.front.now.front.agents,
    ) in
    let whole : c.args.next < product (pair_counts cs ns) = whole_is c.args.count c.args.next cs ns alike
    (c.requires.count ∙ ap (λ (z : ℕ). product cs * z) seen) c.requires.next in
    let room = code_room cs ns alike c.loop-agent.agent c.loop-agent.left c.loop-agent.rest
    c.loop-agent.pair.class
    c.loop-agent.pair.seen c.args.next c.classes-classes.result c.observations-observations.result
    c.classes-classes.ensures
    (c.observations-observations.ensures ∙ sym c.part.ensures.observations
    ∙ ap (λ l. get_or l c.loop-agent.agent 0) c.requires.observations) lt whole c.loop-agent.invariant in
    omega (arith, room.few)

pub overflow_mul-pair : goal.overflow_mul-pair
overflow_mul-pair c =
    let cs = class_counts c.args.front.now.front.agents in
    let ns = c.args.m.now.model.observations in
    let seen = seen_product c.args.m.now.model in
    let alike : length ns ≡ length cs = omega (
      arith,
      c.requires.agents,
      as_many_counts c.args.front.now.front.agents,
    ) in
    let lt : c.loop-agent.agent < length cs = omega (
      arith,
      c.agents-agent-end.ensures,
      c.loop-agent-test.true,
      as_many_counts c.args.front.now.front.agents,
    ) in
    let whole : c.args.next < product (pair_counts cs ns) = whole_is c.args.count c.args.next cs ns alike
    (c.requires.count ∙ ap (λ (z : ℕ). product cs * z) seen) c.requires.next in
    let room = code_room cs ns alike c.loop-agent.agent c.loop-agent.left c.loop-agent.rest
    c.loop-agent.pair.class
    c.loop-agent.pair.seen c.args.next c.classes-classes.result c.observations-observations.result
    c.classes-classes.ensures
    (c.observations-observations.ensures ∙ sym c.part.ensures.observations
    ∙ ap (λ l. get_or l c.loop-agent.agent 0) c.requires.observations) lt whole c.loop-agent.invariant in
    let few : product cs ≤ 2 ^ 22 = classes_few c.args.count cs ns alike
    (c.requires.count ∙ ap (λ (z : ℕ). product cs * z) seen) c.requires.limit c.args.next c.requires.next in
    let few_seen : product ns ≤ 2 ^ 22 = seen_few c.args.count cs ns alike
    (c.requires.count ∙ ap (λ (z : ℕ). product cs * z) seen) c.requires.limit c.args.next c.requires.next in
    omega (arith, room.class_room)

pub overflow_add-pair : goal.overflow_add-pair
overflow_add-pair c =
    let cs = class_counts c.args.front.now.front.agents in
    let ns = c.args.m.now.model.observations in
    let seen = seen_product c.args.m.now.model in
    let alike : length ns ≡ length cs = omega (
      arith,
      c.requires.agents,
      as_many_counts c.args.front.now.front.agents,
    ) in
    let lt : c.loop-agent.agent < length cs = omega (
      arith,
      c.agents-agent-end.ensures,
      c.loop-agent-test.true,
      as_many_counts c.args.front.now.front.agents,
    ) in
    let whole : c.args.next < product (pair_counts cs ns) = whole_is c.args.count c.args.next cs ns alike
    (c.requires.count ∙ ap (λ (z : ℕ). product cs * z) seen) c.requires.next in
    let room = code_room cs ns alike c.loop-agent.agent c.loop-agent.left c.loop-agent.rest
    c.loop-agent.pair.class
    c.loop-agent.pair.seen c.args.next c.classes-classes.result c.observations-observations.result
    c.classes-classes.ensures
    (c.observations-observations.ensures ∙ sym c.part.ensures.observations
    ∙ ap (λ l. get_or l c.loop-agent.agent 0) c.requires.observations) lt whole c.loop-agent.invariant in
    let few : product cs ≤ 2 ^ 22 = classes_few c.args.count cs ns alike
    (c.requires.count ∙ ap (λ (z : ℕ). product cs * z) seen) c.requires.limit c.args.next c.requires.next in
    let few_seen : product ns ≤ 2 ^ 22 = seen_few c.args.count cs ns alike
    (c.requires.count ∙ ap (λ (z : ℕ). product cs * z) seen) c.requires.limit c.args.next c.requires.next in
    omega (arith, room.class_room)

pub overflow_mul-pair-in-loop-agent : goal.overflow_mul-pair-in-loop-agent
overflow_mul-pair-in-loop-agent c =
    let cs = class_counts c.args.front.now.front.agents in
    let ns = c.args.m.now.model.observations in
    let seen = seen_product c.args.m.now.model in
    let alike : length ns ≡ length cs = omega (
      arith,
      c.requires.agents,
      as_many_counts c.args.front.now.front.agents,
    ) in
    let lt : c.loop-agent.agent < length cs = omega (
      arith,
      c.agents-agent-end.ensures,
      c.loop-agent-test.true,
      as_many_counts c.args.front.now.front.agents,
    ) in
    let whole : c.args.next < product (pair_counts cs ns) = whole_is c.args.count c.args.next cs ns alike
    (c.requires.count ∙ ap (λ (z : ℕ). product cs * z) seen) c.requires.next in
    let room = code_room cs ns alike c.loop-agent.agent c.loop-agent.left c.loop-agent.rest
    c.loop-agent.pair.class
    c.loop-agent.pair.seen c.args.next c.classes-classes.result c.observations-observations.result
    c.classes-classes.ensures
    (c.observations-observations.ensures ∙ sym c.part.ensures.observations
    ∙ ap (λ l. get_or l c.loop-agent.agent 0) c.requires.observations) lt whole c.loop-agent.invariant in
    let few : product cs ≤ 2 ^ 22 = classes_few c.args.count cs ns alike
    (c.requires.count ∙ ap (λ (z : ℕ). product cs * z) seen) c.requires.limit c.args.next c.requires.next in
    let few_seen : product ns ≤ 2 ^ 22 = seen_few c.args.count cs ns alike
    (c.requires.count ∙ ap (λ (z : ℕ). product cs * z) seen) c.requires.limit c.args.next c.requires.next in
    omega (arith, room.seen_room)

pub overflow_add-pair-in-loop-agent : goal.overflow_add-pair-in-loop-agent
overflow_add-pair-in-loop-agent c =
    let cs = class_counts c.args.front.now.front.agents in
    let ns = c.args.m.now.model.observations in
    let seen = seen_product c.args.m.now.model in
    let alike : length ns ≡ length cs = omega (
      arith,
      c.requires.agents,
      as_many_counts c.args.front.now.front.agents,
    ) in
    let lt : c.loop-agent.agent < length cs = omega (
      arith,
      c.agents-agent-end.ensures,
      c.loop-agent-test.true,
      as_many_counts c.args.front.now.front.agents,
    ) in
    let whole : c.args.next < product (pair_counts cs ns) = whole_is c.args.count c.args.next cs ns alike
    (c.requires.count ∙ ap (λ (z : ℕ). product cs * z) seen) c.requires.next in
    let room = code_room cs ns alike c.loop-agent.agent c.loop-agent.left c.loop-agent.rest
    c.loop-agent.pair.class
    c.loop-agent.pair.seen c.args.next c.classes-classes.result c.observations-observations.result
    c.classes-classes.ensures
    (c.observations-observations.ensures ∙ sym c.part.ensures.observations
    ∙ ap (λ l. get_or l c.loop-agent.agent 0) c.requires.observations) lt whole c.loop-agent.invariant in
    let few : product cs ≤ 2 ^ 22 = classes_few c.args.count cs ns alike
    (c.requires.count ∙ ap (λ (z : ℕ). product cs * z) seen) c.requires.limit c.args.next c.requires.next in
    let few_seen : product ns ≤ 2 ^ 22 = seen_few c.args.count cs ns alike
    (c.requires.count ∙ ap (λ (z : ℕ). product cs * z) seen) c.requires.limit c.args.next c.requires.next in
    omega (arith, room.seen_room)

pub loop-agent-preserved : goal.loop-agent-preserved
loop-agent-preserved c =
    let cs = class_counts c.args.front.now.front.agents in
    let ns = c.args.m.now.model.observations in
    let seen = seen_product c.args.m.now.model in
    let alike : length ns ≡ length cs = omega (
      arith,
      c.requires.agents,
      as_many_counts c.args.front.now.front.agents,
    ) in
    let lt : c.loop-agent.agent < length cs = omega (
      arith,
      c.agents-agent-end.ensures,
      c.loop-agent-test.true,
      as_many_counts c.args.front.now.front.agents,
    ) in
    let whole : c.args.next < product (pair_counts cs ns) = whole_is c.args.count c.args.next cs ns alike
    (c.requires.count ∙ ap (λ (z : ℕ). product cs * z) seen) c.requires.next in
    code_next cs ns alike c.loop-agent.agent c.loop-agent.left c.loop-agent.rest c.loop-agent.pair.class
    c.loop-agent.pair.seen c.args.next c.classes-classes.result c.observations-observations.result
    c.classes-classes.ensures
    (c.observations-observations.ensures ∙ sym c.part.ensures.observations
    ∙ ap (λ l. get_or l c.loop-agent.agent 0) c.requires.observations) lt whole c.loop-agent.invariant

pub returns-clause-class : goal.returns-clause-class
returns-clause-class c =
    let cs = class_counts c.args.front.now.front.agents in
    let ns = c.args.m.now.model.observations in
    let seen = seen_product c.args.m.now.model in
    let alike : length ns ≡ length cs = omega (
      arith,
      c.requires.agents,
      as_many_counts c.args.front.now.front.agents,
    ) in
    let le : length cs ≤ c.loop-agent.agent = omega (
      arith,
      c.agents-agent-end.ensures,
      c.loop-agent-test.false,
      as_many_counts c.args.front.now.front.agents,
    ) in
    let whole : c.args.next < product (pair_counts cs ns) = whole_is c.args.count c.args.next cs ns alike
    (c.requires.count ∙ ap (λ (z : ℕ). product cs * z) seen) c.requires.next in
    let end = unpair_end cs ns c.loop-agent.agent c.loop-agent.left c.loop-agent.rest c.loop-agent.pair.class
    c.loop-agent.pair.seen c.args.next alike le whole c.loop-agent.invariant in
    end.0

pub returns-clause-seen : goal.returns-clause-seen
returns-clause-seen c =
    let cs = class_counts c.args.front.now.front.agents in
    let ns = c.args.m.now.model.observations in
    let seen = seen_product c.args.m.now.model in
    let alike : length ns ≡ length cs = omega (
      arith,
      c.requires.agents,
      as_many_counts c.args.front.now.front.agents,
    ) in
    let le : length cs ≤ c.loop-agent.agent = omega (
      arith,
      c.agents-agent-end.ensures,
      c.loop-agent-test.false,
      as_many_counts c.args.front.now.front.agents,
    ) in
    let whole : c.args.next < product (pair_counts cs ns) = whole_is c.args.count c.args.next cs ns alike
    (c.requires.count ∙ ap (λ (z : ℕ). product cs * z) seen) c.requires.next in
    let end = unpair_end cs ns c.loop-agent.agent c.loop-agent.left c.loop-agent.rest c.loop-agent.pair.class
    c.loop-agent.pair.seen c.args.next alike le whole c.loop-agent.invariant in
    subst (λ (z : ℕ). c.loop-agent.pair.seen < z) (sym seen) end.1

pub returns-clause-number : goal.returns-clause-number
returns-clause-number c =
    let cs = class_counts c.args.front.now.front.agents in
    let ns = c.args.m.now.model.observations in
    let seen = seen_product c.args.m.now.model in
    let alike : length ns ≡ length cs = omega (
      arith,
      c.requires.agents,
      as_many_counts c.args.front.now.front.agents,
    ) in
    let le : length cs ≤ c.loop-agent.agent = omega (
      arith,
      c.agents-agent-end.ensures,
      c.loop-agent-test.false,
      as_many_counts c.args.front.now.front.agents,
    ) in
    let whole : c.args.next < product (pair_counts cs ns) = whole_is c.args.count c.args.next cs ns alike
    (c.requires.count ∙ ap (λ (z : ℕ). product cs * z) seen) c.requires.next in
    let end = unpair_end cs ns c.loop-agent.agent c.loop-agent.left c.loop-agent.rest c.loop-agent.pair.class
    c.loop-agent.pair.seen c.args.next alike le whole c.loop-agent.invariant in
    end.2
