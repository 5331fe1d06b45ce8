use Rattle.std.proofs.Common.{◌∙◌, ap, rules}
use Rattle.std.specs.Int.{w128}
use Rattle.std.proofs.lemmas.Int.{to_z-of_z}
use Rattle.dp_spec.specs.Wide.{is_wide}
use Rattle.dp_cluster.specs.KeptFronts.{KeptFront}
use Rattle.dp_search.proofs.HeldFronts.{held_is}
use Rattle.dp_search.proofs.held_front.HeldFront.of.Goals as goal

pub returns-clause-held : goal.returns-clause-held
returns-clause-held c h look merging path is at bound =
    let m = c.args.model.now.model in
    held_is m h look merging _ c.args.front.value path is
    (search rules) (search rules)
    (c.is_wide-wide.ensures ∙ ap (λ (k : KeptFront). is_wide m k.horizon 0 k.front) c.as_ref-made.ensures) at
    (to_z-of_z w128 c.args.bound c.ranges.bound ∙ bound)
