use Rattle.dp_cluster.proofs.front.Front.+pairs.Given as goal

abbrev pub decreases-pairs : goal.decreases-pairs
decreases-pairs l = l.time
