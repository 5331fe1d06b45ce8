use Rattle.std.proofs.Common.{arith}
use Rattle.dp_items.proofs.PieceLemmas.{no_more_than_bytes}
use Rattle.dp_items.proofs.pieces.Pieces.len.Goals as goal

pub returns-clause-limit : goal.returns-clause-limit
returns-clause-limit c =
    let more = no_more_than_bytes c.self.invariant in
    let limit = c.self.invariant.limit in
    omega arith
