use Rattle.std.proofs.Common.{refl, subst}
use Rattle.std.specs.Fn.{FnReturnsAt}
use Rattle.std.proofs.lemmas.Fn.{says_at}
use Rattle.dp_search.specs.Rules.{KeptChooser}
use Rattle.dp_search.proofs.chooser.Chooser.pick.Goals as goal

pub returns-clause-below : goal.returns-clause-below
returns-clause-below g c =
    let told : FnReturnsAt g.F.Fn c.self.inside.rule c.args.places.now c.call.result =
    says_at g.F.Fn c.call.ensures refl in
    c.requires.rule.below c.args.places.now c.call.result c.requires.some c.requires.few
    (subst (λ (k : KeptChooser _). FnReturnsAt g.F.Fn k.rule c.args.places.now c.call.result) c.self.view_is
    told)
