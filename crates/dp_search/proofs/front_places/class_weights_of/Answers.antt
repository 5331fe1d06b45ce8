use Rattle.std.proofs.lemmas.List.{get_or_default}
use Rattle.std.proofs.Common.{◌≡◌, ◌+◌, ◌<◌, ◌/◌, ◌%◌, ℕ, pos, length, get_or, set, ap, ◌∙◌, ◌+ℤ◌, to_z, of_z, arith}
use Rattle.std.proofs.Common.{rules}
use Rattle.std.proofs.Common.{length-set}
use Rattle.std.proofs.lemmas.Nat.{mod_below}
use Rattle.std.specs.Int.{w128}
use Rattle.std.proofs.lemmas.Int.{to_z-of_z}
use Rattle.dp_spec.specs.Front.{class_counts}
use Rattle.dp_spec.specs.JointNumbers.{product}
use Rattle.dp_search.proofs.UpperWeights.{class_below, own_small, some_count, some_width, weight_fits, weight_next}
use Rattle.dp_search.proofs.front_places.class_weights_of.Goals as goal

pub upper_sum-requires : goal.upper_sum-requires
upper_sum-requires c =
    let k = c.args.front.now in
    let lt : c.loop-joint.joint < product (class_counts k.front.agents) =
    omega (arith, c.joint_classes-joint-end.ensures.is, c.loop-joint-test.true) in
    record {
      small = own_small k c.args.agent c.loop-joint.joint c.classes-count.result c.width_behind-width.result
          c.requires.some_class c.requires.agent lt c.requires.small c.classes-count.ensures
          c.width_behind-width.ensures
          c.class_weights.result.now c.class_weights.ensures.one_each c.class_weights.ensures.are;
    }

pub index_mut-requires : goal.index_mut-requires
index_mut-requires c =
    let k = c.args.front.now in
    let lt : c.loop-joint.joint < product (class_counts k.front.agents) =
    omega (arith, c.joint_classes-joint-end.ensures.is, c.loop-joint-test.true) in
    let below = class_below k c.args.agent c.loop-joint.joint c.classes-count.result c.width_behind-width.result
    c.requires.some_class c.requires.agent lt c.requires.small c.classes-count.ensures
    c.width_behind-width.ensures in
    rw c.loop-joint.invariant.2 (omega (arith, below, c.loop-joint.invariant.0))

pub overflow_add-index_mut : goal.overflow_add-index_mut
overflow_add-index_mut c =
    let k = c.args.front.now in
    let lt : c.loop-joint.joint < product (class_counts k.front.agents) =
    omega (arith, c.joint_classes-joint-end.ensures.is, c.loop-joint-test.true) in
    let below = class_below k c.args.agent c.loop-joint.joint c.classes-count.result c.width_behind-width.result
    c.requires.some_class c.requires.agent lt c.requires.small c.classes-count.ensures
    c.width_behind-width.ensures in
    let place = c.loop-joint.invariant.2 in
    let within : c.loop-joint.place.class < length c.loop-joint.weights.items =
    rw place (omega (arith, below, c.loop-joint.invariant.0)) in
    weight_fits k c.args.agent c.loop-joint.joint c.classes-count.result c.width_behind-width.result
    c.requires.some_class c.requires.agent lt c.requires.small c.classes-count.ensures
    c.width_behind-width.ensures
    c.loop-joint.weights.items c.class_weights.result.now _ _ c.loop-joint.invariant.0 c.loop-joint.invariant.1
    c.class_weights.ensures.one_each c.class_weights.ensures.are
    (to_z-of_z w128 _ (search (rules, c.index_mut.type_inv)) ∙ c.index_mut.ensures.value
    ∙ get_or_default c.loop-joint.weights.items _ _ (pos 0) within
    ∙ ap (λ (z : ℕ). get_or c.loop-joint.weights.items z (pos 0)) place)
    (to_z-of_z w128 _ (search (rules, c.upper_sum.type_inv)) ∙ c.upper_sum.ensures)

pub next_place-place-requires-clause-class : goal.next_place-place-requires-clause-class
next_place-place-requires-clause-class c =
    let k = c.args.front.now in
    let lt : c.loop-joint.joint < product (class_counts k.front.agents) =
    omega (arith, c.joint_classes-joint-end.ensures.is, c.loop-joint-test.true) in
    let below = class_below k c.args.agent c.loop-joint.joint c.classes-count.result c.width_behind-width.result
    c.requires.some_class c.requires.agent lt c.requires.small c.classes-count.ensures
    c.width_behind-width.ensures in
    omega (arith, below, c.loop-joint.invariant.2, c.classes-count.ensures)

pub next_place-place-requires-clause-inside : goal.next_place-place-requires-clause-inside
next_place-place-requires-clause-inside c =
    let k = c.args.front.now in
    let lt : c.loop-joint.joint < product (class_counts k.front.agents) =
    omega (arith, c.joint_classes-joint-end.ensures.is, c.loop-joint-test.true) in
    rw c.loop-joint.invariant.3 (mod_below c.loop-joint.joint c.width_behind-width.result
    (some_width k c.args.agent c.loop-joint.joint c.classes-count.result c.width_behind-width.result
    c.requires.some_class c.requires.agent lt c.requires.small c.classes-count.ensures
    c.width_behind-width.ensures))

pub loop-joint-preserved : goal.loop-joint-preserved
loop-joint-preserved c =
    let k = c.args.front.now in
    let lt : c.loop-joint.joint < product (class_counts k.front.agents) =
    omega (arith, c.joint_classes-joint-end.ensures.is, c.loop-joint-test.true) in
    let below = class_below k c.args.agent c.loop-joint.joint c.classes-count.result c.width_behind-width.result
    c.requires.some_class c.requires.agent lt c.requires.small c.classes-count.ensures
    c.width_behind-width.ensures in
    let place = c.loop-joint.invariant.2 in
    let within : c.loop-joint.place.class < length c.loop-joint.weights.items =
    rw place (omega (arith, below, c.loop-joint.invariant.0)) in
    let next = c.next_place-place.ensures c.loop-joint.joint c.loop-joint.invariant.2 c.loop-joint.invariant.3 in (
      length-set c.loop-joint.weights.items _ _ ∙ c.loop-joint.invariant.0,
      λ d p. ap (λ (z : ℕ). get_or (set c.loop-joint.weights.items z
          (to_z w128 (of_z w128 (to_z w128 (of_z w128 c.index_mut.result.now) +ℤ to_z w128
          (of_z w128 c.upper_sum.result))))) d (pos 0)) place
          ∙ weight_next k c.args.agent c.loop-joint.joint c.classes-count.result c.width_behind-width.result
          c.requires.some_class c.requires.agent lt c.requires.small c.classes-count.ensures
          c.width_behind-width.ensures
          c.loop-joint.weights.items c.class_weights.result.now _ _ c.loop-joint.invariant.0
          c.loop-joint.invariant.1
          c.class_weights.ensures.one_each c.class_weights.ensures.are
          (to_z-of_z w128 _ (search (rules, c.index_mut.type_inv)) ∙ c.index_mut.ensures.value
          ∙ get_or_default c.loop-joint.weights.items _ _ (pos 0) within
          ∙ ap (λ (z : ℕ). get_or c.loop-joint.weights.items z (pos 0)) place)
          (to_z-of_z w128 _ (search (rules, c.upper_sum.type_inv)) ∙ c.upper_sum.ensures) d p,
      next.0,
      next.1,
    )
