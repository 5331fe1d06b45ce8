use Rattle.dp_spec.specs.Model.{Model}
use Rattle.dp_cluster.specs.EqualClasses.{AreVectorsOf}
use Rattle.dp_cluster.specs.KeptFronts.{IsFrontOf}
use Rattle.dp_cluster.proofs.front.Front.own_vectors.Given as goal

abbrev pub invariant-loop-class : goal.invariant-loop-class
invariant-loop-class l = (m : Model) → IsFrontOf m l.self → AreVectorsOf m l.self.front l.agent l.class
    l.vectors.items
