use Rattle.std.proofs.Common.{◌≡◌, ◌+◌, ◌^◌, add-one, ap, ◌∙◌, arith}
use Rattle.dp_model.proofs.HorizonLemmas.{power_small}
use Rattle.dp_model.proofs.horizon.histories_of.Goals as goal

pub pow-count-requires : goal.pow-count-requires
pow-count-requires c = rw c.from.ensures (omega (
  arith,
  power_small c.args.observations c.loop-seen.seen c.requires.few (omega arith),
))

pub overflow_add-count : goal.overflow_add-count
overflow_add-count c =
    let power : c.pow-count.result ≡ c.args.observations ^ c.loop-seen.seen =
    c.pow-count.ensures ∙ ap (λ n. n ^ c.loop-seen.seen) c.from.ensures in
    let small = power_small c.args.observations c.loop-seen.seen c.requires.few (omega arith) in
    omega arith

pub loop-seen-preserved : goal.loop-seen-preserved
loop-seen-preserved c =
    let power : c.pow-count.result ≡ c.args.observations ^ c.loop-seen.seen =
    c.pow-count.ensures ∙ ap (λ n. n ^ c.loop-seen.seen) c.from.ensures in
    let small = power_small c.args.observations c.loop-seen.seen c.requires.few (omega arith) in
    record {
      so_far = rw add-one (λ i. c.loop-seen.invariant.so_far i + power i);
      limit = omega arith;
    }
