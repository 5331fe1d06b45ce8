use Rattle.std.proofs.Common.{◌≡◌, map}
use Rattle.std.specs.List.{range_with_len}
use Rattle.dp_cluster.specs.FullRows.{class_row}
use Rattle.dp_cluster.proofs.part.PastStage.rows.Given as goal

abbrev pub invariant-loop-class : goal.invariant-loop-class
invariant-loop-class l = l.rows.items ≡ map (class_row l.observations l.nexts l.self) (range_with_len 0 l.class)
