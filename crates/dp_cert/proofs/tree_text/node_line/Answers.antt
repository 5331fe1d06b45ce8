use Rattle.std.proofs.Common.{arith, get_or, ◌≡◌}
use Rattle.dp_cert.proofs.NodeLines.{leaf_found, branch_found, merge_found, none_found}
use Rattle.dp_cert.proofs.tree_text.node_line.Goals as goal

pub returns-then-first-eq76 : goal.returns-then-first-eq76
returns-then-first-eq76 c = leaf_found _ _ c.leaf_line.result c.args.bytes.now
    (let e : get_or c.args.bytes.now 0 0 ≡ 76 = omega (arith, c.first_byte-first.ensures) in e)
    c.leaf_line.ensures.gives c.leaf_line.ensures.kind

pub returns-then-first-eq66 : goal.returns-then-first-eq66
returns-then-first-eq66 c = branch_found _ _ c.branch_line.result c.args.bytes.now
    (let e : get_or c.args.bytes.now 0 0 ≡ 66 = omega (arith, c.first_byte-first.ensures) in e)
    c.branch_line.ensures.gives c.branch_line.ensures.kind

pub returns-then-first-eq77 : goal.returns-then-first-eq77
returns-then-first-eq77 c = merge_found _ _ c.merge_line.result c.args.bytes.now
    (let e : get_or c.args.bytes.now 0 0 ≡ 77 = omega (arith, c.first_byte-first.ensures) in e)
    c.merge_line.ensures.gives c.merge_line.ensures.kind

pub returns : goal.returns
returns c = none_found c.args.bytes.now (λ e. omega (arith, c.first_byte-first.ensures, e))
    (λ e. omega (arith, c.first_byte-first.ensures, e)) (λ e. omega (arith, c.first_byte-first.ensures, e))
