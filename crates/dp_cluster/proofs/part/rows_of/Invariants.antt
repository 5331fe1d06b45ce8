use Rattle.std.proofs.Common.{◌≡◌, ◌-◌, ◌++◌, [], length, map, take}
use Rattle.dp_cluster.specs.FullRows.{rows_before}
use Rattle.dp_cluster.proofs.part.rows_of.Given as goal

abbrev pub invariant-loop-stage : goal.invariant-loop-stage
invariant-loop-stage l =
    map (λ r. r.items) l.rows.items
    ++ rows_before l.observations (take (length l.past - l.stage) (map (λ s. s.value) l.past)) []
    ≡ rows_before l.observations (map (λ s. s.value) l.past) []
