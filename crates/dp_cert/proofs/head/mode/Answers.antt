use Rattle.std.proofs.Common.{[], ◌∷◌, refl}
use Rattle.std.specs.Prelude.{codes}
use Rattle.dp_cert.proofs.head.mode.Goals as goal

pub returns : goal.returns
returns c =
    c.one_of.ensures (codes "mode" ∷ codes "exact" ∷ []) (codes "mode" ∷ codes "outward" ∷ [])
    (assumption, (assumption, tt)) (assumption, (assumption, tt)) refl refl
