use Rattle.std.proofs.Common.{[], ◌∷◌, refl}
use Rattle.std.specs.Prelude.{codes}
use Rattle.dp_cert.proofs.head.policy_title.Goals as goal

pub returns : goal.returns
returns c = c.words.ensures (codes "policy" ∷ []) (assumption, tt) refl
