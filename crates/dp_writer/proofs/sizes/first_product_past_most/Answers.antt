use Rattle.std.proofs.Common.{◌≡◌, ◌*◌, ◌+◌, ◌-◌, suc, sym, ap, ◌∙◌, arith}
use Rattle.std.specs.Prelude.{replicate}
use Rattle.dp_meaning.specs.Limits.{product_past}
use Rattle.dp_writer.proofs.JointSizes.{past_over, past_step}
use Rattle.dp_writer.proofs.sizes.first_product_past_most.Goals as goal

pub loop-agent-preserved : goal.loop-agent-preserved
loop-agent-preserved c =
    let left = c.args.agents - (c.loop-agent._agent + 1) in
    let more : c.args.agents - c.loop-agent._agent ≡ suc (c.args.agents - (c.loop-agent._agent + 1)) = omega arith in
    ap (λ n. product_past 256 (c.loop-agent.product * n) (replicate left c.args.size)) c.from-product.ensures
    ∙ sym (past_step c.loop-agent.product c.args.size left (omega arith))
    ∙ ap (λ k. product_past 256 c.loop-agent.product (replicate k c.args.size)) (sym more)
    ∙ c.loop-agent.invariant

pub returns-then-product-gt-MOST : goal.returns-then-product-gt-MOST
returns-then-product-gt-MOST c =
    let left = c.args.agents - (c.loop-agent._agent + 1) in
    let more : c.args.agents - c.loop-agent._agent ≡ suc (c.args.agents - (c.loop-agent._agent + 1)) = omega arith in
    sym (past_over c.loop-agent.product c.args.size left (omega arith))
    ∙ ap (λ k. product_past 256 c.loop-agent.product (replicate k c.args.size)) (sym more)
    ∙ c.loop-agent.invariant

pub returns : goal.returns
returns c =
    let none : c.args.agents - c.loop-agent._agent ≡ 0 = omega arith in
    ap (λ k. product_past 256 c.loop-agent.product (replicate k c.args.size)) (sym none) ∙ c.loop-agent.invariant
