use Rattle.std.proofs.Common.{refl, ◌∙◌}
use Rattle.dp_cluster.proofs.LeastAlike.{after_weighted, alike_to_weighted}
use Rattle.dp_cluster.proofs.equal.Later.add.Goals as goal

pub returns-in_ok-same-in-Weighted-clause-later : goal.returns-in_ok-same-in-Weighted-clause-later
returns-in_ok-same-in-Weighted-clause-later c = λ vs lt is of.
    after_weighted vs c.args.class lt c.in-Weighted.weights (is ∙ c.in-Weighted.is) c.args.self.now _ of refl refl
    c.in_ok-same-in-Weighted.ensures.updates.0

pub returns-in_ok-same-in-Weighted-clause-alike : goal.returns-in_ok-same-in-Weighted-clause-alike
returns-in_ok-same-in-Weighted-clause-alike c = λ vs lt is of.
    alike_to_weighted vs c.args.class lt c.in-Weighted.weights (is ∙ c.in-Weighted.is) c.args.self.now
    c.args.self.now of c.in_ok-same-in-Weighted.same c.earlier.result c.in_ok-same-in-Weighted.ensures.old
    c.earlier.ensures
