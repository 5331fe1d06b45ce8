use Rattle.std.proofs.Common.{◌+◌, [], ◌∷◌, refl, ◌∙◌, arith, rules, length-append}
use Rattle.std.specs.Int.{w128}
use Rattle.std.proofs.lemmas.Int.{to_z-of_z}
use Rattle.dp_search.proofs.MoreLeaves.{fronts_more, leaves_more}
use Rattle.dp_search.proofs.children.leaves_of.Goals as goal

pub loop-child-preserved : goal.loop-child-preserved
loop-child-preserved g c =
    let top = c.args.top.now in
    let child = c.in-Some.child in
    let bound = to_z-of_z w128 c.lesser.result (search (rules, c.lesser.type_inv)) ∙ c.lesser.ensures in (
      tt,
      tt,
      omega (arith, c.loop-child.invariant.2, length-append c.loop-child.yielded (child ∷ [])),
      (λ meaning.
          rw c.in_ok-push.ensures.items (leaves_more meaning c.args.first (top.above + 1) top.bound
          c.loop-child.leaves.items c.loop-child.yielded _ child (c.loop-child.invariant.3 meaning)
          c.loop-child.invariant.2 refl bound refl)),
      rw c.in_ok-push.ensures.items (fronts_more c.loop-child.leaves.items c.loop-child.yielded _ child
          c.loop-child.invariant.4 refl),
    )
