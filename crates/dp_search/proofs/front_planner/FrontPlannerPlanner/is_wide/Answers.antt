use Rattle.dp_search.proofs.front_planner.FrontPlannerPlanner.is_wide.Goals as goal

pub returns : goal.returns
returns g c =
    let p = c.args.self.now in
    c.is_wide.ensures p.model.now.model p.fit.horizon p.options.look p.options.merge c.requires.of_planner
