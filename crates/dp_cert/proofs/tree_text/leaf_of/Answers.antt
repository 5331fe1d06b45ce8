use Rattle.std.proofs.Common.{ap, ◌∙◌, rules}
use Rattle.std.specs.Int.{w128}
use Rattle.std.proofs.lemmas.Int.{to_z-of_z}
use Rattle.dp_spec.specs.BoundTree.{leaf}
use Rattle.dp_tree.proofs.TreeValues.{bound_tree_leaf}
use Rattle.dp_cert.proofs.tree_text.leaf_of.Goals as goal

pub returns : goal.returns
returns c = bound_tree_leaf _ ∙ ap leaf (to_z-of_z w128 c.args.bound (search rules))
