use Rattle.std.proofs.Common.{◌≡◌, ◌≤◌, ◌+◌, ◌-◌, ◌*◌, suc, length, map, sym, ap, ◌∙◌, arith}
use Rattle.std.proofs.lemmas.List.{get_or_read, length-map, map-append}
use Rattle.dp_spec.specs.FullPolicy.{tree_doing_after}
use Rattle.dp_spec.specs.PolicyTree.{node}
use Rattle.dp_policy.specs.TreeValue.{policy_tree, policy_trees}
use Rattle.dp_cluster.specs.AgentParts.{action_after}
use Rattle.dp_cluster.proofs.OwnParts.{next_made}
use Rattle.dp_cluster.proofs.PastTrees.{below_next, class_in, last_is, leads_next, more_is, place_few, reached_next}
use Rattle.dp_cluster.proofs.PastTrees.{stage_read, tree_made}
use Rattle.dp_cluster.proofs.part.+tree_after.Goals as goal
use Rattle.dp_cluster.proofs.part.+tree_after.Goals.{then-left-gt1+else-loop-seen-test, else-left-gt1}

pub overflow_mul-class : goal.overflow_mul-class
overflow_mul-class t c =
    let n = c.args.observations in
    let ss = map (λ s. s.value) c.args.past.now in
    let size = length-map c.args.past.now (λ s. s.value) in
    let reached = c.requires.reached in
    let within : c.args.left ≤ length ss = let e = reached.within in omega arith in
    let read = stage_read c.args.past.now c.args.left c.requires.some within c.index-past-left.result
    c.as_ref-stage.result.now
    c.index-past-left.is c.as_ref-stage.ensures in
    let few = place_few n ss c.requires.stages c.args.left c.requires.some within c.as_ref-stage.result.now read
    c.args.class c.loop-seen.seen reached c.loop-seen-test.true in
    omega (arith, few)

pub overflow_add-class : goal.overflow_add-class
overflow_add-class t c =
    let n = c.args.observations in
    let ss = map (λ s. s.value) c.args.past.now in
    let size = length-map c.args.past.now (λ s. s.value) in
    let reached = c.requires.reached in
    let within : c.args.left ≤ length ss = let e = reached.within in omega arith in
    let read = stage_read c.args.past.now c.args.left c.requires.some within c.index-past-left.result
    c.as_ref-stage.result.now
    c.index-past-left.is c.as_ref-stage.ensures in
    let few = place_few n ss c.requires.stages c.args.left c.requires.some within c.as_ref-stage.result.now read
    c.args.class c.loop-seen.seen reached c.loop-seen-test.true in
    omega (arith, few)

pub tree_after-requires : goal.tree_after-requires
tree_after-requires t c =
    let n = c.args.observations in
    let ss = map (λ s. s.value) c.args.past.now in
    let size = length-map c.args.past.now (λ s. s.value) in
    let reached = c.requires.reached in
    let within : c.args.left ≤ length ss = let e = reached.within in omega arith in
    let read = stage_read c.args.past.now c.args.left c.requires.some within c.index-past-left.result
    c.as_ref-stage.result.now
    c.index-past-left.is c.as_ref-stage.ensures in
    let more = c.if-left-gt1.true in (
      omega arith,
      (
        omega arith,
        (
          c.requires.stages,
          reached_next n ss c.requires.stages c.args.left c.requires.some within c.as_ref-stage.result.now read
              c.args.class c.loop-seen.seen c.link-next.result reached
              c.loop-seen-test.true c.link-next.ensures,
        ),
      ),
    )

pub loop-seen-preserved : goal.loop-seen-preserved
loop-seen-preserved t c = λ u x e lt leads.
    let n = c.args.observations in
    let ss = map (λ s. s.value) c.args.past.now in
    let size = length-map c.args.past.now (λ s. s.value) in
    let reached = c.requires.reached in
    let within : c.args.left ≤ length ss = let e = reached.within in omega arith in
    let read = stage_read c.args.past.now c.args.left c.requires.some within c.index-past-left.result
    c.as_ref-stage.result.now
    c.index-past-left.is c.as_ref-stage.ensures in
    let kid = c.in_ok-tree_after.ensures (suc u) (x * n + c.loop-seen.seen) (omega arith)
    (below_next n ss c.requires.stages c.args.left c.requires.some within c.as_ref-stage.result.now read u x
    c.loop-seen.seen lt c.loop-seen-test.true)
    (leads_next n ss c.requires.stages c.args.left c.requires.some within c.as_ref-stage.result.now read x
    c.loop-seen.seen c.args.class c.loop-seen-test.true leads ∙ sym c.link-next.ensures) in
    next_made (λ o. tree_doing_after n (action_after n ss) (c.args.left - 1) (suc u) (x * n + o))
    (map policy_tree c.loop-seen.kids.items) (map policy_tree c.push.new.self.items) c.loop-seen.seen _ kid
    (ap (map policy_tree) c.in_ok-push.ensures.items ∙ map-append policy_tree c.loop-seen.kids.items _)
    (c.loop-seen.invariant u x e lt leads)

pub index-requires : goal.index-requires
index-requires t c =
    let n = c.args.observations in
    let ss = map (λ s. s.value) c.args.past.now in
    let size = length-map c.args.past.now (λ s. s.value) in
    let reached = c.requires.reached in
    let within : c.args.left ≤ length ss = let e = reached.within in omega arith in
    let read = stage_read c.args.past.now c.args.left c.requires.some within c.index-past-left.result
    c.as_ref-stage.result.now
    c.index-past-left.is c.as_ref-stage.ensures in
    let below = class_in n ss c.requires.stages c.args.left c.requires.some within c.as_ref-stage.result.now
    read
    c.args.class reached in
    omega (arith, below, c.as_ref-stage.result.now.actions.ok.0)

pub returns : goal.returns
returns t c = λ u x e lt leads.
    let n = c.args.observations in
    let ss = map (λ s. s.value) c.args.past.now in
    let size = length-map c.args.past.now (λ s. s.value) in
    let reached = c.requires.reached in
    let within : c.args.left ≤ length ss = let e = reached.within in omega arith in
    let read = stage_read c.args.past.now c.args.left c.requires.some within c.index-past-left.result
    c.as_ref-stage.result.now
    c.index-past-left.is c.as_ref-stage.ensures in
    let below = class_in n ss c.requires.stages c.args.left c.requires.some within c.as_ref-stage.result.now
    read
    c.args.class reached in
    let action = get_or_read c.as_ref-stage.result.now.actions.items c.args.class _ below c.index.ensures 0 in
    let within_all : u + c.args.left ≡ length ss = omega arith in
    tree_made _
    ∙ elim c.if-left-gt1.branch [
      | then-left-gt1+else-loop-seen-test w ↦
          let all : w.loop-seen.seen ≡ n = omega (arith, w.loop-seen-test.false, w.loop-seen.auto.seen-end) in
          ap (λ v. node c.index.result.now (policy_trees (map policy_tree v.items))) w.kids-is
          ∙ more_is n ss c.requires.stages c.args.left c.requires.some within c.as_ref-stage.result.now read u x
          c.args.class c.index.result.now _ w.loop-seen.seen
          within_all lt leads w.if-left-gt1.true action all (w.loop-seen.invariant u x e lt leads)
      | else-left-gt1 w ↦
          ap (λ v. node c.index.result.now (policy_trees (map policy_tree v.items))) w.kids-is
          ∙ last_is n ss c.requires.stages c.args.left c.requires.some within c.as_ref-stage.result.now read u x
          c.args.class c.index.result.now _
          within_all lt leads w.if-left-gt1.false action (ap (map policy_tree) c.new-kids.ensures.items)
    ]
