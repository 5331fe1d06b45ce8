use Rattle.std.proofs.Common.{length, sym, ap, ◌∙◌}
use Rattle.dp_model.proofs.NameLemmas.{empty-kept, replicate-kept}
use Rattle.dp_model.proofs.names.Names.counts.Goals as goal

pub invariant_of-result : goal.invariant_of-result
invariant_of-result c =
    let none = replicate-kept c.args.agents in
    record {
      agents = rw c.new.ensures empty-kept;
      states = rw c.new-2.ensures empty-kept;
      actions = λ i. rw c.in_ok-empty_lists.ensures (none i);
      observations = λ i. rw c.in_ok-empty_lists-2.ensures (none i);
      alike = ap length (c.in_ok-empty_lists-2.ensures ∙ sym c.in_ok-empty_lists.ensures);
    }
