use Rattle.std.proofs.Common.{◌≡◌, take}
use Rattle.dp_sim.specs.Along.{own_history}
use Rattle.dp_sim.proofs.joint.write_history.Given as goal

abbrev pub invariant-loop-place : goal.invariant-loop-place
invariant-loop-place l = take l.place l.history ≡ own_history l.model.model l.agent (take l.place l.past)
