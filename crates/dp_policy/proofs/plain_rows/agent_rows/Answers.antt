use Rattle.std.proofs.Common.{◌*◌, ◌^◌, ◌≤◌, ◌∷◌, [], List, Bor, add-one, length, map, sym, ap, subst, ◌∙◌, arith}
use Rattle.std.proofs.lemmas.List.{map-append}
use Rattle.dp_policy.specs.declared.tree.PTree.{PTree}
use Rattle.dp_policy.specs.TreeRows.{AreRowsOfTrees, AreSubtrees, GoOn}
use Rattle.dp_policy.specs.TreeValue.{policy_tree}
use Rattle.dp_policy.proofs.RowsOfTrees.{few_nexts, next_trees, plain_rows_step, stage_few, stage_goes_on}
use Rattle.dp_policy.proofs.RowsOfTrees.{stage_nexts_few}
use Rattle.dp_policy.proofs.plain_rows.agent_rows.Goals as goal

pub stage_rows-requires-clause-count : goal.stage_rows-requires-clause-count
stage_rows-requires-clause-count c =
    let t = c.loop-stage.stage in
    let at = c.loop-stage.invariant.trees c.loop-stage-test.true in
    let le = c.requires.few t c.loop-stage-test.true in
    subst (λ (l : List (Bor PTree)). length l ≤ 2 ^ 22) (sym c.deref.ensures.value)
    (omega (arith, at.counted, le))

pub stage_rows-requires-clause-few : goal.stage_rows-requires-clause-few
stage_rows-requires-clause-few c =
    let t = c.loop-stage.stage in
    let at = c.loop-stage.invariant.trees c.loop-stage-test.true in
    let le = c.requires.few t c.loop-stage-test.true in
    subst (λ (l : List (Bor PTree)). length l * c.args.observations ≤ 2 ^ 30) (sym c.deref.ensures.value)
    (stage_few c.args.observations c.args.horizon
    (policy_tree c.args.root.now) t c.loop-stage.trees.items at c.requires.observations le)

pub stage_rows-requires-clause-nexts : goal.stage_rows-requires-clause-nexts
stage_rows-requires-clause-nexts c =
    few_nexts c.args.observations c.args.horizon c.loop-stage.stage c.nexts_at-nexts.result
    c.nexts_at-nexts.ensures

pub all_subtrees-requires-clause-count : goal.all_subtrees-requires-clause-count
all_subtrees-requires-clause-count c =
    let t = c.loop-stage.stage in
    let at = c.loop-stage.invariant.trees c.loop-stage-test.true in
    let le = c.requires.few t c.loop-stage-test.true in
    subst (λ (l : List (Bor PTree)). length l ≤ 2 ^ 22) (sym c.deref-in-loop-stage.ensures.value)
    (omega (arith, at.counted, le))

pub all_subtrees-requires-clause-few : goal.all_subtrees-requires-clause-few
all_subtrees-requires-clause-few c =
    let t = c.loop-stage.stage in
    let at = c.loop-stage.invariant.trees c.loop-stage-test.true in
    let le = c.requires.few t c.loop-stage-test.true in
    let n = c.args.observations in
    let less = few_nexts n c.args.horizon t c.nexts_at-nexts.result c.nexts_at-nexts.ensures in
    subst (λ (l : List (Bor PTree)). length l * c.nexts_at-nexts.result ≤ 2 ^ 30)
    (sym c.deref-in-loop-stage.ensures.value)
    (stage_nexts_few n c.args.horizon
    (policy_tree c.args.root.now) t c.loop-stage.trees.items at c.nexts_at-nexts.result less
    c.requires.observations
    le)

pub all_subtrees-requires-clause-kids : goal.all_subtrees-requires-clause-kids
all_subtrees-requires-clause-kids c =
    let t = c.loop-stage.stage in
    let at = c.loop-stage.invariant.trees c.loop-stage-test.true in
    subst (λ (l : List (Bor PTree)). GoOn c.nexts_at-nexts.result l) (sym c.deref-in-loop-stage.ensures.value)
    (stage_goes_on c.args.observations c.args.horizon
    (policy_tree c.args.root.now) t c.loop-stage.trees.items at c.nexts_at-nexts.result c.nexts_at-nexts.ensures
    (2 ^ 32) c.loop-stage-test.true c.requires.tree)

pub loop-stage-preserved : goal.loop-stage-preserved
loop-stage-preserved c =
    let n = c.args.observations in
    let h = c.args.horizon in
    let q = policy_tree c.args.root.now in
    let t = c.loop-stage.stage in
    let at = c.loop-stage.invariant.trees c.loop-stage-test.true in
    let nexts = c.nexts_at-nexts.result in
    let rows = subst (λ (l : List (Bor PTree)). AreRowsOfTrees n nexts l c.in_ok-stage_rows.field-0.items)
    c.deref.ensures.value c.in_ok-stage_rows.ensures in
    let subs = subst (λ (l : List (Bor PTree)). AreSubtrees nexts l c.in_ok-trees.trees.items)
    c.deref-in-loop-stage.ensures.value c.in_ok-trees.ensures in
    record {
      rows = ap (map (λ r. r.items)) c.in_ok-push-2.ensures.items
          ∙ map-append (λ r. r.items) c.loop-stage.stages.items (c.in_ok-stage_rows.field-0 ∷ [])
          ∙ plain_rows_step n h q t c.loop-stage.trees.items at nexts c.nexts_at-nexts.ensures _
          c.in_ok-stage_rows.field-0.items rows c.loop-stage.invariant.rows;
      trees = rw add-one (λ more. next_trees n h q t c.loop-stage.trees.items at nexts
          c.nexts_at-nexts.ensures more
          c.in_ok-trees.trees.items subs);
    }
