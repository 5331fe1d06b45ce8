use Rattle.std.proofs.Common.{map, refl, subst}
use Rattle.dp_spec.specs.SharedPolicy.{IsSharedOf}
use Rattle.dp_policy.proofs.JoinedRows.{kept_rows}
use Rattle.dp_policy.proofs.joined_rows.join_rows.Goals as goal

pub of-requires : goal.of-requires
of-requires c =
    kept_rows c.args.model.now.model c.invariant.ensures.model c.args.horizon c.requires.limit _
    (subst (λ l. IsSharedOf c.args.model.now.model c.args.horizon (map (λ s. map (λ r. r.items) s.items) l))
    c.deref.ensures.value (c.if-is_shared.ensures.0 refl))
