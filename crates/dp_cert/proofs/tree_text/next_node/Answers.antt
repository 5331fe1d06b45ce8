use Rattle.dp_cert.specs.NodeLines.{found_of}
use Rattle.dp_cert.proofs.NodeLines.{node_child, node_shorter}
use Rattle.dp_cert.proofs.tree_text.next_node.Goals as goal

pub after-requires : goal.after-requires
after-requires c = node_shorter c.args.from.rest.now (found_of c.in-Ok.node c.in-Ok.rest.now) c.in-Ok.ensures

pub returns-in-Ok-clause-shorter : goal.returns-in-Ok-clause-shorter
returns-in-Ok-clause-shorter c = rw c.after.ensures.rest (node_shorter c.args.from.rest.now
    (found_of c.in-Ok.node c.in-Ok.rest.now) c.in-Ok.ensures)

pub returns-in-Ok-clause-child : goal.returns-in-Ok-clause-child
returns-in-Ok-clause-child c = node_child c.args.from.rest.now c.in-Ok.node c.in-Ok.rest.now c.in-Ok.ensures
