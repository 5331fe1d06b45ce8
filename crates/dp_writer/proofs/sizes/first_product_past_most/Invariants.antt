use Rattle.std.proofs.Common.{◌≡◌, ◌-◌}
use Rattle.std.specs.Prelude.{replicate}
use Rattle.dp_meaning.specs.Limits.{product_past}
use Rattle.dp_writer.proofs.sizes.first_product_past_most.Given as goal

abbrev pub invariant-loop-agent : goal.invariant-loop-agent
invariant-loop-agent l =
    product_past 256 l.product (replicate (l.agents - l._agent) l.size)
    ≡ product_past 256 1 (replicate l.agents l.size)
