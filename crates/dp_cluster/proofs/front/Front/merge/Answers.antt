use Rattle.std.proofs.Common.{◌≡◌, ◌<◌, inl, inr, true, sym, subst, arith}
use Rattle.dp_spec.specs.Front.{Front}
use Rattle.dp_cluster.specs.KeepingPolicies.{KeepsToo, LosesNothing}
use Rattle.dp_cluster.proofs.MergeFaults.{assigned, comparable, keeps_too, loses_nothing, merged, unequal}
use Rattle.dp_cluster.proofs.front.Front.merge.Goals as goal
use Rattle.dp_cluster.proofs.front.Front.merge.Goals.{then-is_some-via-then-is_some}
use Rattle.dp_cluster.proofs.front.Front.merge.Goals.{then-is_some-via-else-is_some+then-is_some-2}

pub returns-then-is_some-clause-fault : goal.returns-then-is_some-clause-fault
returns-then-is_some-clause-fault c = λ m is.
    let ds = c.args.self.now.front.agents in
    let exact : c.args.self.now.is_exact ≡ true = cc in
    let order : c.args.first < c.args.second = omega arith in (
      exact,
      order,
      elim c.then-is_some.branch [
        | then-is_some-via-then-is_some w ↦
            inl (assigned ds c.args.agent c.args.first c.action.result c.action.ensures
            (sym w.if-is_some.ensures))
        | then-is_some-via-else-is_some+then-is_some-2 w ↦
            inr (assigned ds c.args.agent c.args.second _ w.action-else-is_some.ensures
            (sym w.if-is_some-2.ensures))
      ],
    )

pub returns-in-Some-clause-fault : goal.returns-in-Some-clause-fault
returns-in-Some-clause-fault c = λ m is.
    let exact : c.args.self.now.is_exact ≡ true = cc in
    let are = comparable c.args.self.now c.args.agent c.args.first c.args.second _ _ exact c.requires.order
    c.if-first-second.false c.requires.agent c.requires.class c.action.ensures (sym c.if-is_some.ensures)
    c.action-else-is_some.ensures (sym c.if-is_some-2.ensures) in (
      are,
      unequal m c.args.self.now c.args.agent c.args.first c.args.second c.in-Some.place c.first_unequal.result
          (c.first_unequal.ensures m is) c.in-Some.is,
    )

pub joined-requires-clause-first : goal.joined-requires-clause-first
joined-requires-clause-first c =
    let exact : c.args.self.now.is_exact ≡ true = cc in
    let are = comparable c.args.self.now c.args.agent c.args.first c.args.second _ _ exact c.requires.order
    c.if-first-second.false c.requires.agent c.requires.class c.action.ensures (sym c.if-is_some.ensures)
    c.action-else-is_some.ensures (sym c.if-is_some-2.ensures) in
    are.first

pub joined-requires-clause-second : goal.joined-requires-clause-second
joined-requires-clause-second c =
    let exact : c.args.self.now.is_exact ≡ true = cc in
    let are = comparable c.args.self.now c.args.agent c.args.first c.args.second _ _ exact c.requires.order
    c.if-first-second.false c.requires.agent c.requires.class c.action.ensures (sym c.if-is_some.ensures)
    c.action-else-is_some.ensures (sym c.if-is_some-2.ensures) in
    are.second

pub returns-in-Ok-clause-merged : goal.returns-in-Ok-clause-merged
returns-in-Ok-clause-merged c = λ m is.
    let exact : c.args.self.now.is_exact ≡ true = cc in
    let are = comparable c.args.self.now c.args.agent c.args.first c.args.second _ _ exact c.requires.order
    c.if-first-second.false c.requires.agent c.requires.class c.action.ensures (sym c.if-is_some.ensures)
    c.action-else-is_some.ensures (sym c.if-is_some-2.ensures) in
    merged m c.args.self.now c.args.agent c.args.first c.args.second c.first_unequal.result are
    (c.first_unequal.ensures m is) c.in_default.is

pub returns-in-Ok-clause-loses_nothing : goal.returns-in-Ok-clause-loses_nothing
returns-in-Ok-clause-loses_nothing c = λ m is.
    let exact : c.args.self.now.is_exact ≡ true = cc in
    let are = comparable c.args.self.now c.args.agent c.args.first c.args.second _ _ exact c.requires.order
    c.if-first-second.false c.requires.agent c.requires.class c.action.ensures (sym c.if-is_some.ensures)
    c.action-else-is_some.ensures (sym c.if-is_some-2.ensures) in
    let all = merged m c.args.self.now c.args.agent c.args.first c.args.second c.first_unequal.result are
    (c.first_unequal.ensures m is) c.in_default.is in
    subst (λ (F : Front). LosesNothing m c.args.self.now.horizon c.args.self.now.front F)
    (sym c.in-Ok.ensures.front)
    (loses_nothing m c.args.self.now c.args.agent c.args.first c.args.second is c.requires.stage all)

pub returns-in-Ok-clause-keeps : goal.returns-in-Ok-clause-keeps
returns-in-Ok-clause-keeps c = λ m is.
    let exact : c.args.self.now.is_exact ≡ true = cc in
    let are = comparable c.args.self.now c.args.agent c.args.first c.args.second _ _ exact c.requires.order
    c.if-first-second.false c.requires.agent c.requires.class c.action.ensures (sym c.if-is_some.ensures)
    c.action-else-is_some.ensures (sym c.if-is_some-2.ensures) in
    subst (λ (F : Front). KeepsToo m F c.args.self.now.front) (sym c.in-Ok.ensures.front)
    (keeps_too m c.args.self.now c.args.agent c.args.first c.args.second are)

pub returns-in-Err-clause-fault : goal.returns-in-Err-clause-fault
returns-in-Err-clause-fault c = λ m is.
    let exact : c.args.self.now.is_exact ≡ true = cc in
    let are = comparable c.args.self.now c.args.agent c.args.first c.args.second _ _ exact c.requires.order
    c.if-first-second.false c.requires.agent c.requires.class c.action.ensures (sym c.if-is_some.ensures)
    c.action-else-is_some.ensures (sym c.if-is_some-2.ensures) in
    merged m c.args.self.now c.args.agent c.args.first c.args.second c.first_unequal.result are
    (c.first_unequal.ensures m is) c.in_default.is
