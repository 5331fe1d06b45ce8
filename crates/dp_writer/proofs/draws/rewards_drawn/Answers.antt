use Rattle.std.proofs.Common.{◌≡◌, ℕ, suc, ◌+◌, ◌-◌, ◌++◌, ℤ, rules, length, take, ap, ◌∙◌}
use Rattle.std.proofs.Common.{arith}
use Rattle.std.specs.Prelude.{replicate, vec_len}
use Rattle.std.specs.Int.{w64}
use Rattle.std.proofs.lemmas.Int.{to_z-of_z}
use Rattle.std.proofs.Common.{of_z, to_z}
use Rattle.rand_core.specs.Stream.{Stream, next_u64}
use Rattle.dp_writer.specs.Draws.{left_after, reward_drawn}
use Rattle.dp_writer.proofs.DrawnRewards.{all_rewards, rewards_more}
use Rattle.dp_writer.proofs.draws.rewards_drawn.Goals as goal

pub loop-row-preserved : goal.loop-row-preserved
loop-row-preserved g c =
    let stream = g.R.Rng.stream c.args.rng.now in
    let row = c.loop-row._row in
    let cells = c.loop-row.cells.items in
    let n = c.len.result + c.args.len in
    let word = ap (λ (p : ℕ × Stream). p.0) c.next_u64.ensures
    ∙ ap (λ s. (next_u64 s).0) c.loop-row.invariant.left in
    let rest = ap (λ (p : ℕ × Stream). p.1) c.next_u64.ensures
    ∙ ap (λ s. (next_u64 s).1) c.loop-row.invariant.left in
    let next : suc row ≡ row + 1 = omega arith in
    let long : vec_len c.loop-row.cells ≡ length c.loop-row.cells.items = search rules in
    let kept = to_z-of_z w64 c.reward_drawn-reward.result (search (rules, c.reward_drawn-reward.type_inv)) in
    let size : n ≡ length c.loop-row.cells.items + c.args.len = omega (arith, c.len.ensures, long) in
    let more = c.in_ok-resize.ensures.items
    ∙ ap (λ (k : ℕ). take n cells ++ replicate (n - k) (to_z w64 (of_z w64 c.reward_drawn-reward.result))) long
    ∙ ap (λ (x : ℤ). take n cells ++ replicate (n - length cells) x) kept in
    record {
      drawn = rewards_more stream c.args.len row n c.reward_drawn-reward.result cells c.resize.new.self.items
          (c.reward_drawn-reward.ensures ∙ ap reward_drawn word) c.loop-row.invariant.drawn size more;
      left = rest ∙ ap (λ k. left_after k stream) next;
    }

pub returns : goal.returns
returns g c =
    let all : c.loop-row._row ≡ c.args.rows = omega arith in
    let here = c.loop-row.invariant.drawn in
    all_rewards (g.R.Rng.stream c.args.rng.now) c.args.len c.args.rows c.loop-row.cells.items (rw all at here)
