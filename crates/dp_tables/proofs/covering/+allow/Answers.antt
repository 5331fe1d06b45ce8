use Rattle.std.proofs.Common.{arith, rules}
use Rattle.dp_tables.proofs.CoveringLemmas.{small_others}
use Rattle.dp_tables.proofs.covering.+allow.Goals as goal

pub allow-requires : goal.allow-requires
allow-requires t c =
    let rest = small_others c.args.lists.now c.requires.some c.in-len1-up.len_at_least in
    (search rules, (rest.0, (let most = rest.1 in omega arith)))
