use Rattle.std.proofs.Common.{◌≡◌, ℕ, suc, ◌*◌, ◌+◌, length, refl, ap, ◌∙◌, arith}
use Rattle.std.proofs.lemmas.List.{length-replicate}
use Rattle.std.proofs.lemmas.Nat.{row_fits}
use Rattle.rand_core.specs.Stream.{Stream, next_u64}
use Rattle.dp_writer.specs.Draws.{left_after, word_at}
use Rattle.dp_writer.proofs.DrawnRows.{all_drawn, none_drawn, row_more}
use Rattle.dp_writer.proofs.draws.draw_rows.Goals as goal

pub overflow_mul-row : goal.overflow_mul-row
overflow_mul-row g c =
    let fits = row_fits c.loop-row.row c.args.len c.args.rows c.args.len c.loop-row-test.true (omega arith) in
    omega (arith, fits, c.requires.few)

pub draw_row-requires-clause-room : goal.draw_row-requires-clause-room
draw_row-requires-clause-room g c =
    let fits = row_fits c.loop-row.row c.args.len c.args.rows c.args.len c.loop-row-test.true (omega arith) in
    let long = ap length c.requires.empty ∙ length-replicate (c.args.rows * c.args.len) 0 in
    omega (arith, fits, long, c.loop-row.auto.cells)

pub draw_row-requires-clause-few : goal.draw_row-requires-clause-few
draw_row-requires-clause-few g c =
    let fits = row_fits c.loop-row.row c.args.len c.args.rows c.args.len c.loop-row-test.true (omega arith) in
    omega (arith, fits, c.requires.few)

pub draw_row-requires-clause-empty : goal.draw_row-requires-clause-empty
draw_row-requires-clause-empty g c = λ i lt. c.loop-row.invariant.drawn.empty _ (omega arith)

pub loop-row-init : goal.loop-row-init
loop-row-init g c = record {
  drawn = none_drawn (g.R.Rng.stream c.args.rng.now) c.args.len c.args.cells.now (c.args.rows * c.args.len)
      c.requires.empty;
  left = refl;
}

pub loop-row-preserved : goal.loop-row-preserved
loop-row-preserved g c =
    let stream = g.R.Rng.stream c.args.rng.now in
    let row = c.loop-row.row in
    let first = ap (λ (p : ℕ × Stream). p.0) c.next_u64-first.ensures
    ∙ ap (λ s. (next_u64 s).0) c.loop-row.invariant.left in
    let one = ap (λ (p : ℕ × Stream). p.1) c.next_u64-first.ensures
    ∙ ap (λ s. (next_u64 s).1) c.loop-row.invariant.left in
    let at_second : suc (3 * row) ≡ 3 * row + 1 = omega arith in
    let second = ap (λ (p : ℕ × Stream). p.0) c.next_u64-second.ensures ∙ ap (λ s. (next_u64 s).0) one
    ∙ ap (λ k. word_at stream k) at_second in
    let two = ap (λ (p : ℕ × Stream). p.1) c.next_u64-second.ensures ∙ ap (λ s. (next_u64 s).1) one in
    let at_third : suc (suc (3 * row)) ≡ 3 * row + 2 = omega arith in
    let third = ap (λ (p : ℕ × Stream). p.0) c.next_u64-share.ensures ∙ ap (λ s. (next_u64 s).0) two
    ∙ ap (λ k. word_at stream k) at_third in
    let three = ap (λ (p : ℕ × Stream). p.1) c.next_u64-share.ensures ∙ ap (λ s. (next_u64 s).1) two in
    let next : suc (suc (suc (3 * row))) ≡ 3 * (row + 1) = omega arith in
    record {
      drawn = row_more stream c.args.len row c.next_u64-first.result c.next_u64-second.result
          c.next_u64-share.result c.loop-row.cells c.draw_row.new.cells c.requires.some first second third
          c.loop-row.invariant.drawn c.draw_row.ensures.row c.draw_row.ensures.others;
      left = three ∙ ap (λ k. left_after k stream) next;
    }

pub returns-clause-cells : goal.returns-clause-cells
returns-clause-cells g c =
    let all : c.loop-row.row ≡ c.args.rows = omega arith in
    let long = ap length c.requires.empty ∙ length-replicate (c.args.rows * c.args.len) 0 in
    let here = c.loop-row.invariant.drawn in
    all_drawn (g.R.Rng.stream c.args.rng.now) c.args.len c.args.rows c.loop-row.cells
    (omega (arith, long, c.loop-row.auto.cells)) (rw all at here)

pub returns-clause-left : goal.returns-clause-left
returns-clause-left g c =
    let all : c.loop-row.row ≡ c.args.rows = omega arith in
    c.loop-row.invariant.left ∙ ap (λ k. left_after (3 * k) (g.R.Rng.stream c.args.rng.now)) all
