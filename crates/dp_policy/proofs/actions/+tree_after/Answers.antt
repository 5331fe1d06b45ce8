use Rattle.std.proofs.Common.{◌≡◌, List, ◌+◌, ◌*◌, ◌-◌, ◌<◌, ◌++◌, ◌∷◌, [], ℕ, suc, length, get_or, map, ap, sym, ◌∙◌}
use Rattle.std.proofs.Common.{arith}
use Rattle.std.proofs.lemmas.List.{map-append}
use Rattle.std.proofs.lemmas.List.FromFn.{map-range_with_len_more}
use Rattle.dp_spec.specs.FullPolicy.{tree_doing_after}
use Rattle.dp_policy.specs.ActionRows.{action_in}
use Rattle.dp_policy.specs.TreeValue.{policy_tree, policy_trees}
use Rattle.std.proofs.lemmas.List.{get_or-map}
use Rattle.std.proofs.lemmas.Grind.{get_or_default_zero}
use Rattle.std.specs.List.{range_with_len}
use Rattle.dp_spec.specs.PolicyTree.{PolicyTree, node}
use Rattle.dp_policy.proofs.TreeRows.{earlier_tree, last_tree, put_together}
use Rattle.dp_policy.proofs.actions.+tree_after.Goals.{then-stage-rows+else-loop-seen-test, else-stage-rows}
use Rattle.dp_laws.proofs.OwnHistories.{next_history_below}
use Rattle.dp_policy.proofs.actions.+tree_after.Goals as goal

pub overflow_mul-history : goal.overflow_mul-history
overflow_mul-history t c =
    let child = next_history_below c.args.history c.args.observations c.args.stage c.loop-seen.seen
    c.requires.history c.loop-seen-test.true in
    let few = c.requires.few (suc c.args.stage) (omega (arith, c.if-stage-rows.true)) in
    omega (arith, child, few)

pub overflow_add-history : goal.overflow_add-history
overflow_add-history t c =
    let child = next_history_below c.args.history c.args.observations c.args.stage c.loop-seen.seen
    c.requires.history c.loop-seen-test.true in
    let few = c.requires.few (suc c.args.stage) (omega (arith, c.if-stage-rows.true)) in
    omega (arith, child, few)

pub loop-seen-preserved : goal.loop-seen-preserved
loop-seen-preserved t c =
    let a = c.args in
    let act = action_in (map (λ row. row.items) a.rows.now) in
    let f : ℕ → PolicyTree = λ o. tree_doing_after a.observations act (length a.rows.now - (a.stage + 1))
    (a.stage + 1) (a.history * a.observations + o) in
    ap (map policy_tree) c.in_ok-push.ensures.items
    ∙ map-append policy_tree c.loop-seen.kids.items (c.in_ok-kid.kid ∷ [])
    ∙ (λ i. c.loop-seen.invariant i ++ (c.in_ok-kid.ensures i ∷ []))
    ∙ sym (map-range_with_len_more f 0 c.loop-seen.seen c.loop-seen.seen (omega arith))

pub returns : goal.returns
returns t c =
    let a = c.args in
    let n = a.observations in
    let items : List (List ℕ) = map (λ row. row.items) a.rows.now in
    let act = action_in (map (λ row. row.items) a.rows.now) in
    let row : get_or items a.stage [] ≡ c.index-rows-stage.result.items =
    get_or-map (λ row. row.items) a.rows.now a.stage c.index-rows-stage.result [] c.requires.stage
    ∙ ap (λ row. row.items) (sym c.index-rows-stage.is) in
    let there : a.history < length c.index-rows-stage.result.items =
    omega (arith, c.requires.history, ap length row, c.requires.histories a.stage c.requires.stage) in
    let action : c.index.result.now ≡ action_in (map (λ row. row.items) a.rows.now) a.stage a.history =
    c.index.ensures ∙ get_or_default_zero c.index-rows-stage.result.items a.history c.index.result.now there
    ∙ ap (λ l. get_or l a.history 0) (sym row) in
    put_together _
    ∙ (elim c.if-stage-rows.branch [
      | then-stage-rows+else-loop-seen-test w ↦
          let all : w.loop-seen.seen ≡ n = omega (arith, w.loop-seen-test.false, w.loop-seen.auto.seen-end) in
          let rest : length a.rows.now - (a.stage + 1) ≡ suc (length a.rows.now - (a.stage + 2)) = omega
          (arith, w.if-stage-rows.true) in
          let steps : length a.rows.now - a.stage ≡ suc (suc (length a.rows.now - (a.stage + 2))) = omega
          (arith, w.if-stage-rows.true) in
          earlier_tree n act _ (length a.rows.now - (a.stage + 2)) a.stage a.history _ _ steps action
          (ap (λ kids. map policy_tree kids.items) w.kids-is ∙ w.loop-seen.invariant
          ∙ (λ i. map (λ o. tree_doing_after n act (rest i) (a.stage + 1) (a.history * n + o))
          (range_with_len 0 (all i))))
      | else-stage-rows w ↦
          let steps : length a.rows.now - a.stage ≡ 1 = omega
          (arith, c.requires.stage, w.if-stage-rows.false) in
          ap (λ kids. node c.index.result.now (policy_trees (map policy_tree kids.items))) w.kids-is
          ∙ ap (λ items. node c.index.result.now (policy_trees (map policy_tree items)))
          c.new-kids.ensures.items
          ∙ last_tree n act _ a.stage a.history _ steps action
    ])
