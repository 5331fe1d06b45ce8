use Rattle.dp_search.proofs.PlannerFronts.{root_of_planner}
use Rattle.dp_search.proofs.front_planner.FrontPlannerPlanner.room.Goals as goal

pub returns : goal.returns
returns g c =
    let p = c.args.self.now in
    let m = p.model.now.model in
    let root = c.in_ok-root.ensures in
    record {
      look_room = c.in_ok-room.ensures;
      made = c.in_ok-new.ensures m p.fit.horizon p.bounder.now.look p.options.merge
          (root_of_planner m p.fit.horizon c.in_ok-root.root root.of_model root.front root.horizon) root.front;
    }
