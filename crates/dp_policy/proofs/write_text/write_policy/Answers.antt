use Rattle.std.proofs.Common.{arith}
use Rattle.dp_policy.specs.Trees.{joint_policy}
use Rattle.dp_policy.proofs.WrittenTrees.{text_says, trees_written}
use Rattle.dp_policy.proofs.write_text.write_policy.Goals as goal

pub returns-clause-text : goal.returns-clause-text
returns-clause-text c =
    λ bs ns is. trees_written c.args.policy.now.horizon (joint_policy c.args.policy.now)
    c.in_ok-text.text.items c.in_ok-text.ensures bs ns is

pub returns-clause-read_back : goal.returns-clause-read_back
returns-clause-read_back c =
    λ m is policy passes.
    let kept = c.invariant.ensures in
    text_says c.args.policy.now.horizon (joint_policy c.args.policy.now) c.in_ok-text.text.items kept.some_step
    (omega (arith, kept.horizon)) c.in_ok-text.ensures m is policy passes
