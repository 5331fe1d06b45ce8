use Rattle.std.proofs.Common.{refl, subst}
use Rattle.std.specs.Fn.{FnReturnsAt}
use Rattle.std.proofs.lemmas.Fn.{says_at}
use Rattle.dp_sim.specs.Acting.{ActorOf}
use Rattle.dp_sim.proofs.actor.Actor.act.Goals as goal

pub returns : goal.returns
returns g c q answers acts =
    let told : FnReturnsAt g.F.Fn c.self.inside.rule c.args.history.now c.call.result =
    says_at g.F.Fn c.call.ensures refl in
    answers.answers c.args.history.now c.call.result acts
    (subst (λ (a : ActorOf _). FnReturnsAt g.F.Fn a.rule c.args.history.now c.call.result) c.self.view_is told)
