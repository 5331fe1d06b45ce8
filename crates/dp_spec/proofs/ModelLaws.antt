-- What is there in every model.
use Rattle.std.proofs.Common.{◌≡◌, ◌<◌, arith}
use Rattle.dp_base.proofs.NaturalSumLaws.{some_of_sum}
use Rattle.dp_spec.specs.Model.{IsModel, Model, joint_observations, obs_at, start_at}
use Rattle.dp_base.specs.Sums.{nat_sum}

-- there is a state, since the start chances sum to a scale
pub some_state : (m : Model) → IsModel m → 0 < m.states
some_state m ok =
    let sum : nat_sum m.states (start_at m) ≡ m.scales.start = ok.rows.start in
    let scale : 0 < m.scales.start = ok.scales.start in
    some_of_sum m.states (start_at m) (omega arith)

-- and a joint observation, since the chances of each row do
pub some_joint_observation : (m : Model) → IsModel m → 0 < joint_observations m
some_joint_observation m ok =
    let sum : nat_sum (joint_observations m) (obs_at m 0 0) ≡ m.scales.obs =
    ok.rows.obs 0 0 ok.sizes.some_action (some_state m ok) in
    let scale : 0 < m.scales.obs = ok.scales.obs in
    some_of_sum (joint_observations m) (obs_at m 0 0) (omega arith)
