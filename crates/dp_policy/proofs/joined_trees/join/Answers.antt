use Rattle.std.proofs.Common.{map, refl, subst, arith}
use Rattle.dp_spec.specs.PolicyTree.{IsPolicyOf}
use Rattle.dp_policy.specs.TreeValue.{policy_tree}
use Rattle.dp_policy.proofs.JoinedTrees.{kept_trees}
use Rattle.dp_policy.proofs.joined_trees.join.Goals as goal

pub of-requires : goal.of-requires
of-requires c =
    let m = c.args.model.now.model in
    let h = c.args.horizon in
    let within = c.requires.horizon in
    kept_trees m c.invariant.ensures.model h c.requires.some_step (omega arith) _
    (subst (λ l. IsPolicyOf m h (map policy_tree l)) c.deref.ensures.value (c.if-are_policy.ensures.0 refl))
