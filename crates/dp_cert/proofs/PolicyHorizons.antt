-- The horizon of a shared policy is that over which its rows are one.
use Rattle.std.proofs.Common.{◌≡◌, ℕ, ◌<◌, length, sym, ◌∙◌, arith}
use Rattle.dp_spec.specs.Model.{Model, IsModel}
use Rattle.dp_spec.specs.SharedPolicy.{SharedPolicy, IsSharedOf}
use Rattle.dp_policy.specs.SharedRows.{AreKept}
use Rattle.dp_policy.proofs.JoinedRows.{rows_alike, rows_of_agent}

-- rows that are kept over one horizon, and are shared over another: the two are the same
pub one_horizon : (m : Model) (h k : ℕ) (p : SharedPolicy) → IsModel m → AreKept k p → IsSharedOf m h p → k ≡ h
one_horizon m h k p is kept shared =
    let agents : length p ≡ length m.actions = rows_alike shared.agents in
    let some = is.sizes.some_agent in
    let first : 0 < length p = omega (arith, agents, some) in
    sym (kept.stages 0 first) ∙ (rows_of_agent shared.agents 0 first).of_horizon
