use Rattle.std.proofs.Common.{◌≡◌, ◌++◌, ℕ, IfOk, List, map, subst}
use Rattle.std.specs.List.{range_with_len}
use Rattle.dp_spec.specs.Zeros.{nothing}
use Rattle.dp_spec.specs.declared.span.Span.{Span}
use Rattle.dp_cluster.proofs.Weightless.{led_none, led_some, nothing_follows}
use Rattle.dp_cluster.proofs.advance.push_weights.Goals as goal

pub push_nexts-requires-clause-action : goal.push_nexts-requires-clause-action
push_nexts-requires-clause-action g c =
    led_some c.args.m.now.model c.args.front.now c.args.class _ _ c.in-Some.is c.requires.action

pub returns-in-None : goal.returns-in-None
returns-in-None g c =
    let m = c.args.m.now.model in
    let k = c.args.front.now in
    subst (λ (l : List Span). IfOk c.push_nothing.result (λ x. c.push_nothing.new.weights.items
    ≡ c.args.weights.now.items ++ l))
    (nothing_follows (g.A.Arith.operations c.args.arith.now) (g.A.Arith.calls c.args.arith.now) m k
    c.requires.sizes c.args.class c.requires.class (led_none m k c.args.class _ c.in-None.is c.requires.action)
    c.args.seen c.requires.seen)
    (subst (λ (n : ℕ). IfOk c.push_nothing.result (λ x. c.push_nothing.new.weights.items
    ≡ c.args.weights.now.items ++ map (λ s. nothing) (range_with_len 0 n))) c.states.ensures.is
    c.push_nothing.ensures)
