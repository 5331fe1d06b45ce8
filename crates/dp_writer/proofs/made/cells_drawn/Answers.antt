use Rattle.std.proofs.Common.{◌≡◌, ◌*◌, rules, replicate, ap, ◌∙◌, arith}
use Rattle.std.proofs.lemmas.Nat.{mul-le}
use Rattle.dp_writer.specs.Draws.{chances_drawn, left_after, rewards_drawn}
use Rattle.dp_writer.specs.MadeModel.{cells_made}
use Rattle.dp_writer.proofs.made.cells_drawn.Goals as goal

pub overflow_mul-states : goal.overflow_mul-states
overflow_mul-states g c =
    let few = mul-le c.args.states c.args.joint.observations 256 256 c.requires.states c.requires.seen in
    omega (arith, few)

pub returns : goal.returns
unfolding cells_made
returns g c =
    let rows = c.args.joint.rows in
    let n = c.args.states * c.args.joint.observations in
    let start : c.of.result ≡ replicate c.args.states 1 = search rules in
    let trans = c.of-2.ensures ∙ c.in_ok-trans.ensures.cells in
    let after_trans = c.in_ok-trans.ensures.left in
    let obs = c.of-3.ensures ∙ c.in_ok-obs.ensures.cells
    ∙ ap (λ s. chances_drawn s rows c.args.joint.observations) after_trans in
    let after_obs = c.in_ok-obs.ensures.left ∙ ap (λ s. left_after (3 * rows) s) after_trans in
    let reward = c.of-4.ensures ∙ c.in_ok-reward.ensures ∙ ap (λ s. rewards_drawn s rows n) after_obs in
    λ i. record { start = start i; trans = trans i; obs = obs i; reward = reward i }
