use Rattle.std.proofs.Common.{◌≡◌, ◌<◌, ◌≤◌, ◌+◌, ◌*◌, ◌^◌, ℕ, length, get_or, pos, sym, ap, subst, ◌∙◌, arith}
use Rattle.dp_spec.specs.Arithmetic.{point}
use Rattle.dp_spec.specs.Front.{class_counts}
use Rattle.dp_spec.specs.JointNumbers.{joint_number, product}
use Rattle.dp_spec.proofs.JointNumberLaws.{joint_number_below}
use Rattle.dp_model.proofs.JointNumberLemmas.{are_below}
use Rattle.dp_cluster.proofs.FrontParts.{place_below}
use Rattle.dp_cluster.proofs.front.Front.weight.Goals as goal

-- the place is below the room
place_room : (J S s P j t : ℕ) → j ≡ J → t ≡ S → J < P → s < S → P * S ≤ 2 ^ 22 → j * t + s < 2 ^ 22
place_room J S s P j t e f hJ hs room = let lt = place_below P S J s hJ hs in rw (e, f) (omega arith)

pub overflow_mul-result : goal.overflow_mul-result
overflow_mul-result c =
    let lt = place_room _ _ c.args.s (product (class_counts c.args.self.now.front.agents))
    c.joint_class-joint.result c.states.result c.joint_class-joint.ensures c.states.ensures
    (joint_number_below _ _ (are_below _ _ c.requires.classes)) c.requires.state
    (c.invariant.ensures.room c.requires.stage) in omega arith

pub overflow_add-result : goal.overflow_add-result
overflow_add-result c =
    let lt = place_room _ _ c.args.s (product (class_counts c.args.self.now.front.agents))
    c.joint_class-joint.result c.states.result c.joint_class-joint.ensures c.states.ensures
    (joint_number_below _ _ (are_below _ _ c.requires.classes)) c.requires.state
    (c.invariant.ensures.room c.requires.stage) in omega arith

pub offset_bounds-weights-joint : goal.offset_bounds-weights-joint
offset_bounds-weights-joint c =
    let lt = place_room _ _ c.args.s (product (class_counts c.args.self.now.front.agents))
    c.joint_class-joint.result c.states.result c.joint_class-joint.ensures c.states.ensures
    (joint_number_below _ _ (are_below _ _ c.requires.classes)) c.requires.state
    (c.invariant.ensures.room c.requires.stage) in omega arith

pub bounds-weights-joint : goal.bounds-weights-joint
bounds-weights-joint c =
    let lt = place_below (product (class_counts c.args.self.now.front.agents)) c.args.self.now.states _ c.args.s
    (joint_number_below _ _ (are_below _ _ c.requires.classes)) c.requires.state in
    let long = ap length c.weights.ensures ∙ c.invariant.ensures.weights c.requires.stage in
    rw (c.joint_class-joint.ensures, c.states.ensures) (subst
    (λ (n : ℕ). joint_number (class_counts c.args.self.now.front.agents)
    c.args.classes.now * c.args.self.now.states + c.args.s < n) (sym long) lt)

-- the weight at the place
kept_there : (c : goal.After-result-1) → get_or c.weights.result.now
    (c.joint_class-joint.result * c.states.result + c.args.s) (point (pos 0))
    ≡ get_or c.args.self.now.weights (joint_number (class_counts c.args.self.now.front.agents)
    c.args.classes.now * c.args.self.now.states + c.args.s) (point (pos 0))
kept_there c = λ j. get_or (c.weights.ensures j) (c.joint_class-joint.ensures j * c.states.ensures j + c.args.s)
    (point (pos 0))

pub returns-clause-kept : goal.returns-clause-kept
returns-clause-kept c = kept_there c

pub returns-clause-is : goal.returns-clause-is
returns-clause-is c = λ m is.
    kept_there c ∙ is.weights c.requires.stage (joint_number (class_counts c.args.self.now.front.agents)
    c.args.classes.now) c.args.s (joint_number_below _ _ (are_below _ _ c.requires.classes))
    (subst (λ (n : ℕ). c.args.s < n) is.states c.requires.state)
