use Rattle.std.proofs.Common.{◌≡◌, ◌<◌, ◌*◌, ℕ, suc, length, drop, add-one, sym, ap, ◌∙◌, arith}
use Rattle.dp_spec.specs.Front.{class_counts}
use Rattle.dp_spec.specs.JointNumbers.{product}
use Rattle.dp_spec.proofs.JointNumberLaws.{product-drop, size_above}
use Rattle.dp_cluster.proofs.FrontParts.{as_many_counts}
use Rattle.dp_cluster.proofs.Pairs.{divided}
use Rattle.dp_search.proofs.front_places.width_behind.Goals as goal

pub overflow_add-before-end : goal.overflow_add-before-end
overflow_add-before-end c = let few = c.invariant.ensures.agents in let lt = c.requires.agent in omega arith

pub nonzero_div-width : goal.nonzero_div-width
nonzero_div-width c =
    let ns = class_counts c.args.front.now.front.agents in
    let lt : c.loop-before.before < length ns = let n = as_many_counts c.args.front.now.front.agents in
    let a = c.requires.agent in let t = c.loop-before-test.true in omega arith in
    rw c.classes.ensures (size_above ns c.loop-before.before c.requires.some_class lt)

pub loop-before-preserved : goal.loop-before-preserved
loop-before-preserved c =
    let ns = class_counts c.args.front.now.front.agents in
    let lt : c.loop-before.before < length ns = let n = as_many_counts c.args.front.now.front.agents in
    let a = c.requires.agent in let t = c.loop-before-test.true in omega arith in
    let some : 0 < c.classes.result = rw c.classes.ensures (size_above ns c.loop-before.before
    c.requires.some_class lt) in
    divided c.classes.result (product (drop (suc c.loop-before.before) ns))
    c.loop-before.width some (c.loop-before.invariant ∙ product-drop ns c.loop-before.before lt
    ∙ ap (λ (z : ℕ). z * product (drop (suc c.loop-before.before) ns)) (sym c.classes.ensures))
    ∙ ap (λ (z : ℕ). product (drop z ns)) (sym (add-one c.loop-before.before))

pub returns : goal.returns
returns c =
    let ns = class_counts c.args.front.now.front.agents in
    let all : c.loop-before.before ≡ suc c.args.agent = omega arith in
    c.loop-before.invariant ∙ ap (λ (z : ℕ). product (drop z ns)) all
