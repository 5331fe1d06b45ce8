use Rattle.std.proofs.Common.{◌≡◌, ℕ, suc, take, ◌+◌, ◌-◌, ◌*◌, ◌^◌, ◌<◌, ◌≤◌, length, add-one, sym, ap, subst, ◌∙◌}
use Rattle.std.proofs.Common.{arith}
use Rattle.dp_spec.specs.declared.span.Span.{Span}
use Rattle.dp_spec.specs.Calls.{size}
use Rattle.dp_spec.specs.Arithmetic.{Arithmetic}
use Rattle.dp_spec.specs.Model.{Model, joint_observations}
use Rattle.dp_spec.specs.Quantities.{recursive_worth_in, weighted_reward_in, weights_after_in}
use Rattle.dp_spec.specs.Value.{joint_root_action, trees_after}
use Rattle.dp_value.specs.JointTrees.{IsEvaluable, first_trees}
use Rattle.dp_value.specs.WeightUpdates.{weights_of}
use Rattle.dp_value.proofs.RowUpdates.{rewarded_alike, updated_alike}
use Rattle.dp_value.proofs.TreeWorths.{after_part, earned_first, earned_last, earned_room, earned_step}
use Rattle.dp_value.proofs.TreeWorths.{next_evaluable, none_earned, now_rewardable, now_updatable, recursion_alike}
use Rattle.dp_value.proofs.TreeWorths.{skipped_step, taken_at}
use Rattle.dp_value.proofs.tree_worth.+worth_from.Goals.{then-update_all, else-update_all}
use Rattle.dp_value.proofs.tree_worth.+worth_from.Goals as goal

pub linked_reward-total-requires-clause-sizes : goal.linked_reward-total-requires-clause-sizes
linked_reward-total-requires-clause-sizes g t c =
    let m = c.args.model.now.model in
    let ws = weights_of c.args.weights.now in
    let qs = first_trees (length m.actions) c.args.trees.now in
    let front = c.split_at_mut-now.ensures.front ∙ ap (λ (k : ℕ). take k c.args.weights.now)
    c.states.ensures.is in
    now_rewardable _ _ m c.args.rest ws qs c.requires.sizes (weights_of c.split_at_mut-now.result.0.now)
    (λ s ls. ap (λ l. weights_of l s) front ∙ taken_at c.args.weights.now m.states s ls)

pub loop-seen-init : goal.loop-seen-init
loop-seen-init g t c =
    let A = g.A.Arith.operations c.args.arith.now in
    let m = c.args.model.now.model in
    let ws = weights_of c.args.weights.now in
    let qs = first_trees (length m.actions) c.args.trees.now in
    let front = c.split_at_mut-now.ensures.front ∙ ap (λ (k : ℕ). take k c.args.weights.now)
    c.states.ensures.is in
    let v = weights_of c.split_at_mut-now.result.0.now in
    c.linked_reward-total.ensures
    ∙ ap (weighted_reward_in A m c.args.rest v) c.joint_action-action.ensures.is
    ∙ rewarded_alike A m c.args.rest v ws (joint_root_action m qs)
    (λ s ls. ap (λ l. weights_of l s) front ∙ taken_at c.args.weights.now m.states s ls)
    ∙ sym (earned_first A m c.args.rest ws qs)

pub returns-else-rest-gt0 : goal.returns-else-rest-gt0
returns-else-rest-gt0 g t c =
    let A = g.A.Arith.operations c.args.arith.now in
    let m = c.args.model.now.model in
    let ws = weights_of c.args.weights.now in
    let qs = first_trees (length m.actions) c.args.trees.now in
    let front = c.split_at_mut-now.ensures.front ∙ ap (λ (k : ℕ). take k c.args.weights.now)
    c.states.ensures.is in
    let v = weights_of c.split_at_mut-now.result.0.now in
    earned_last A m c.args.rest ws qs (omega (arith, c.if-rest-gt0.false)) c.linked_reward-total.result
    (c.linked_reward-total.ensures
    ∙ ap (weighted_reward_in A m c.args.rest v) c.joint_action-action.ensures.is
    ∙ rewarded_alike A m c.args.rest v ws (joint_root_action m qs)
    (λ s ls. ap (λ l. weights_of l s) front ∙ taken_at c.args.weights.now m.states s ls))

pub update_all-requires-clause-sizes : goal.update_all-requires-clause-sizes
update_all-requires-clause-sizes g t c =
    let m = c.args.model.now.model in
    let ws = weights_of c.args.weights.now in
    let qs = first_trees (length m.actions) c.args.trees.now in
    let front = c.split_at_mut-now.ensures.front ∙ ap (λ (k : ℕ). take k c.args.weights.now)
    c.states.ensures.is in
    now_updatable _ _ m c.args.rest ws qs c.requires.sizes (weights_of c.split_at_mut-now.result.0.now)
    (λ s ls. ap (λ l. weights_of l s) front ∙ taken_at c.args.weights.now m.states s ls)

-- the weights of the next time
next_weights : (A : Arithmetic) (m : Model) (a b o : ℕ) (now ws later : ℕ → Span) → a ≡ b
    → ((s : ℕ) → s < m.states → now s ≡ ws s)
    → ((s : ℕ) → s < m.states → later s ≡ weights_after_in A m now a o s)
    → (s : ℕ) → s < m.states → later s ≡ weights_after_in A m ws b o s
next_weights A m a b o now ws later same alike are s ls =
    are s ls ∙ updated_alike A m now ws a o s alike ∙ ap (λ (k : ℕ). weights_after_in A m ws k o s) same

pub worth_from-earned-requires : goal.worth_from-earned-requires
worth_from-earned-requires g t c =
    let A = g.A.Arith.operations c.args.arith.now in
    let m = c.args.model.now.model in
    let ws = weights_of c.args.weights.now in
    let qs = first_trees (length m.actions) c.args.trees.now in
    let o = c.loop-seen.seen in
    let rest = c.args.rest in
    let some = c.if-rest-gt0.true in
    let front = c.split_at_mut-now.ensures.front ∙ ap (λ (k : ℕ). take k c.args.weights.now)
    c.states.ensures.is in
    let next = next_weights A m c.joint_action-action.result (joint_root_action m qs) o
    (weights_of c.split_at_mut-now.result.0.now) ws (weights_of c.update_all.new.later)
    c.joint_action-action.ensures.is
    (λ s ls. ap (λ l. weights_of l s) front ∙ taken_at c.args.weights.now m.states s ls)
    c.update_all.ensures.weights in
    let lo : o < joint_observations m =
    omega (arith, c.joint_observations-seen-end.ensures.is, c.loop-seen-test.true) in
    let less : suc (rest - 1) ≡ rest = omega (arith, some) in
    let kept : length c.update_all.new.later + m.states ≡ length c.args.weights.now =
    omega (
      arith,
      c.split_at_mut-now.ensures.back_len,
      c.states.ensures.is,
      c.loop-seen.auto.later,
      c.update_all.auto.later,
    ) in
    let room : rest * m.states ≤ length c.update_all.new.later = omega (arith, c.requires.room, kept) in
    let sizes = next_evaluable A (g.A.Arith.calls c.args.arith.now) m rest ws qs c.requires.sizes
    (rest - 1) o less lo (weights_of c.update_all.new.later) next in
    λ κs within. (
      omega (arith, c.decreases, some),
      (
        within,
        (
          c.requires.links,
          (
            subst (λ (k : ℕ). k * m.states ≤ length c.update_all.new.later) (sym less) room,
            subst (IsEvaluable A (g.A.Arith.calls c.args.arith.now) m (suc (rest - 1))
                (weights_of c.update_all.new.later)) (sym c.subtrees-after.ensures) sizes,
          ),
        ),
      ),
    )

pub add_spans-total-requires : goal.add_spans-total-requires
add_spans-total-requires g t c =
    let A = g.A.Arith.operations c.args.arith.now in
    let m = c.args.model.now.model in
    let ws = weights_of c.args.weights.now in
    let qs = first_trees (length m.actions) c.args.trees.now in
    let o = c.loop-seen.seen in
    let rest = c.args.rest in
    let some = c.if-rest-gt0.true in
    let front = c.split_at_mut-now.ensures.front ∙ ap (λ (k : ℕ). take k c.args.weights.now)
    c.states.ensures.is in
    let next = next_weights A m c.joint_action-action.result (joint_root_action m qs) o
    (weights_of c.split_at_mut-now.result.0.now) ws (weights_of c.update_all.new.later)
    c.joint_action-action.ensures.is
    (λ s ls. ap (λ l. weights_of l s) front ∙ taken_at c.args.weights.now m.states s ls)
    c.update_all.ensures.weights in
    let lo : o < joint_observations m =
    omega (arith, c.joint_observations-seen-end.ensures.is, c.loop-seen-test.true) in
    let less : suc (rest - 1) ≡ rest = omega (arith, some) in
    let part : c.worth_from-earned.result ≡ after_part A m rest ws qs o =
    c.worth_from-earned.ensures
    ∙ ap (λ (k : ℕ). recursive_worth_in A m k (weights_of c.update_all.new.later)
    (first_trees (length m.actions) c.subtrees-after.result)) less
    ∙ ap (recursive_worth_in A m rest (weights_of c.update_all.new.later)) c.subtrees-after.ensures
    ∙ recursion_alike A m rest (weights_of c.update_all.new.later)
    (weights_after_in A m ws (joint_root_action m qs) o) (trees_after m qs o) next in
    record {
      room = subst (λ (w : Span). size w < 2 ^ 127)
          (sym (earned_step A m rest ws qs o c.loop-seen.total c.worth_from-earned.result
          c.loop-seen.invariant part))
          (earned_room A _ m rest ws qs c.requires.sizes (suc o) lo);
    }

pub loop-seen-preserved : goal.loop-seen-preserved
loop-seen-preserved g t c =
    let A = g.A.Arith.operations c.args.arith.now in
    let m = c.args.model.now.model in
    let ws = weights_of c.args.weights.now in
    let qs = first_trees (length m.actions) c.args.trees.now in
    let o = c.loop-seen.seen in
    let rest = c.args.rest in
    let some = c.if-rest-gt0.true in
    let front = c.split_at_mut-now.ensures.front ∙ ap (λ (k : ℕ). take k c.args.weights.now)
    c.states.ensures.is in
    let next = next_weights A m c.joint_action-action.result (joint_root_action m qs) o
    (weights_of c.split_at_mut-now.result.0.now) ws (weights_of c.update_all.new.later)
    c.joint_action-action.ensures.is
    (λ s ls. ap (λ l. weights_of l s) front ∙ taken_at c.args.weights.now m.states s ls)
    c.update_all.ensures.weights in
    let less : suc (rest - 1) ≡ rest = omega (arith, some) in
    rw add-one
    (elim c.if-update_all.branch [
      | then-update_all w ↦
          let part : w.worth_from-earned.result ≡ after_part A m rest ws qs o =
          w.worth_from-earned.ensures
          ∙ ap (λ (k : ℕ). recursive_worth_in A m k (weights_of c.update_all.new.later)
          (first_trees (length m.actions) w.subtrees-after.result)) less
          ∙ ap (recursive_worth_in A m rest (weights_of c.update_all.new.later)) w.subtrees-after.ensures
          ∙ recursion_alike A m rest (weights_of c.update_all.new.later)
          (weights_after_in A m ws (joint_root_action m qs) o) (trees_after m qs o) next in
          w.total-is ∙ w.add_spans-total.ensures
          ∙ earned_step A m rest ws qs o c.loop-seen.total w.worth_from-earned.result c.loop-seen.invariant part
      | else-update_all w ↦
          let none = none_earned A c.requires.sizes.zeros m rest (weights_of c.update_all.new.later)
          (trees_after m qs o) (c.update_all.ensures.none w.if-update_all.false) in
          let part = sym (recursion_alike A m rest (weights_of c.update_all.new.later)
          (weights_after_in A m ws (joint_root_action m qs) o) (trees_after m qs o) next) ∙ none in
          w.total-is ∙ skipped_step A m rest ws qs o c.loop-seen.total c.loop-seen.invariant part
    ])
