use Rattle.dp_search.specs.Rules.{MayAnswer}
use Rattle.dp_search.proofs.PlannedCertificates.{certificate_is_planned}
use Rattle.dp_search.proofs.planning.plan.Goals as goal

pub returns : goal.returns
returns g c =
    record {
      planned = certificate_is_planned c.args.model.now.model (MayAnswer g.F.Fn c.args.rule.now) c.args.fit
          c.args.options c.in_ok-best.best.action c.in_ok-found.found c.requires.fit c.requires.within
          c.in_ok-best.ensures.best c.in_ok-found.ensures.searched c.in_ok-found.ensures.policy
          c.in_ok-found.ensures.lower c.in_ok-found.ensures.constant _ c.certified.ensures;
    }
