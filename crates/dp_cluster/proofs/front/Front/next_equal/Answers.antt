use Rattle.std.proofs.Common.{refl}
use Rattle.dp_cluster.proofs.AlikeClasses.{if_found, if_ok, least_is, no_pair, none_found}
use Rattle.dp_cluster.proofs.front.Front.next_equal.Goals as goal

pub returns-clause-pair : goal.returns-clause-pair
returns-clause-pair c =
    if_ok c.least_alike.result _ _ c.least_alike.ensures (λ o found. if_found o _ _ _ found (λ p least m is.
    least_is m c.args.self.now.horizon c.args.self.now.front is.front c.args.agent c.requires.agent _ refl
    c.in_ok-vectors.vectors.items (c.in_ok-vectors.ensures.vectors m is) p.0 p.1 least))

pub returns-clause-none : goal.returns-clause-none
returns-clause-none c =
    if_ok c.least_alike.result _ _ c.least_alike.ensures (λ o found none exact m is.
    no_pair m c.args.self.now.horizon c.args.self.now.front is.front c.args.agent c.requires.agent _ refl
    c.in_ok-vectors.vectors.items (c.in_ok-vectors.ensures.vectors m is) (none_found o _ _ found none))
