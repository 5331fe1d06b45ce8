use Rattle.std.proofs.Common.{length, take}
use Rattle.dp_sim.proofs.Played.{IsPlayed}
use Rattle.dp_sim.proofs.simulation.play.Given as goal

abbrev pub invariant-loop-time : goal.invariant-loop-time
invariant-loop-time g l = IsPlayed g.F.Fn l.model.model (length l.steps) l.actors l.start
    (g.R.Rng.stream l.fn.rng) (g.R.Rng.stream l.rng) (take l.time l.steps) l.state
