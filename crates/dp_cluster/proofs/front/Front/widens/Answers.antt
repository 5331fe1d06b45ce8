use Rattle.std.proofs.Common.{◌≡◌, ◌<◌, ◌≤◌, ◌+◌, suc, false, ◌∙◌, arith}
use Rattle.std.specs.Prelude.{nat_lt}
use Rattle.std.proofs.lemmas.Bool.Decides.{nat_tests}
use Rattle.dp_cluster.proofs.Widening.{widens_by_room, widens_not}
use Rattle.dp_cluster.proofs.front.Front.widens.Goals as goal

pub returns-then-stage-horizon : goal.returns-then-stage-horizon
returns-then-stage-horizon c =
    let early : suc c.args.self.now.front.stage < c.args.self.now.horizon = omega arith in
    widens_by_room c.args.m.now.model c.args.self.now c.requires.of_model c.joint_classes.result c.from.result
    c.joint_classes.ensures.is (c.from.ensures ∙ c.joint_observations.ensures.is)
    c.is_room.result c.is_room.ensures early

pub returns-else-stage-horizon : goal.returns-else-stage-horizon
returns-else-stage-horizon c =
    let late : c.args.self.now.horizon ≤ suc c.args.self.now.front.stage = omega arith in
    let no : nat_lt (c.stage.result + 1) c.horizon.result ≡ false = grind (arith, nat_tests) in
    no ∙ widens_not c.args.m.now.model c.args.self.now late
