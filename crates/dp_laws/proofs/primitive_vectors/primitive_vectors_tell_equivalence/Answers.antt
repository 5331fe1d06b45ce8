use Rattle.dp_laws.proofs.PrimitiveVectors.{primitive_unique, primitive_vectors_tell}
use Rattle.dp_laws.proofs.primitive_vectors.primitive_vectors_tell_equivalence.Goals as goal

pub returns-clause-tell : goal.returns-clause-tell
returns-clause-tell c = primitive_vectors_tell

pub returns-clause-unique : goal.returns-clause-unique
returns-clause-unique c = primitive_unique
