use Rattle.std.proofs.Common.{◌≡◌, ℕ, ◌^◌, ◌<◌, add-one, sym, ap, subst, ◌∙◌, arith}
use Rattle.dp_spec.specs.declared.span.Span.{Span}
use Rattle.dp_spec.specs.Arithmetic.{span_add}
use Rattle.dp_spec.specs.Calls.{size}
use Rattle.dp_spec.specs.Model.{joint_observations}
use Rattle.dp_spec.specs.Quantities.{span_sum, weights_after_in}
use Rattle.dp_spec.specs.SharedWorth.{joint_row_action, row_weight_in}
use Rattle.dp_value.specs.WeightUpdates.{weights_of}
use Rattle.dp_value.specs.RowWeights.{row_gives, row_part, weight_in}
use Rattle.dp_value.proofs.RowUpdates.{gives_all, part_here, part_room, part_step, row_updatable, row_updated}
use Rattle.dp_value.proofs.RowUpdates.{span_assoc}
use Rattle.dp_value.proofs.shared_worth.add_row.Goals as goal

pub add_seen-requires-clause-sizes : goal.add_seen-requires-clause-sizes
add_seen-requires-clause-sizes g c =
    let A = g.A.Arith.operations c.args.arith.now in
    let C = g.A.Arith.calls c.args.arith.now in
    let m = c.args.model.now.model in
    let p = c.args.policy.now.rows in
    let h = c.args.policy.now.horizon in
    let t = c.args.stage in
    let i = c.args.row in
    let early : c.args.stage < c.args.policy.now.horizon = omega (arith, c.requires.stage) in
    let w = c.weights_at-weights.result.now in
    let same = subst (λ (S : ℕ). (s : ℕ) → s < S → weights_of c.weights_at-weights.result.now s
    ≡ weight_in S c.args.now.now c.args.row s) c.states.ensures.is c.weights_at-weights.ensures.are in
    row_updatable A C m h p c.requires.sizes t early c.args.now.now c.requires.weights i c.requires.row w same

pub add_seen-requires-clause-sum : goal.add_seen-requires-clause-sum
add_seen-requires-clause-sum g c =
    let A = g.A.Arith.operations c.args.arith.now in
    let C = g.A.Arith.calls c.args.arith.now in
    let m = c.args.model.now.model in
    let p = c.args.policy.now.rows in
    let h = c.args.policy.now.horizon in
    let t = c.args.stage in
    let i = c.args.row in
    let early : c.args.stage < c.args.policy.now.horizon = omega (arith, c.requires.stage) in
    let w = c.weights_at-weights.result.now in
    let same = subst (λ (S : ℕ). (s : ℕ) → s < S → weights_of c.weights_at-weights.result.now s
    ≡ weight_in S c.args.now.now c.args.row s) c.states.ensures.is c.weights_at-weights.ensures.are in
    let o = c.loop-seen.seen in
    let r = c.next_of-to.result in
    let lo : c.loop-seen.seen < joint_observations c.args.model.now.model = omega
    (arith, c.joint_observations-seen-end.ensures.is, c.loop-seen-test.true) in
    let W : (s : ℕ) → weights_after_in A m (weights_of w) c.action_of-action.result o s
    ≡ weights_after_in A m (row_weight_in A m p t i) (joint_row_action m p t i) o s =
    λ s. ap (λ (a : ℕ). weights_after_in A m (weights_of w) a o s) c.action_of-action.ensures.is
    ∙ row_updated A C m h p c.requires.sizes t early c.args.now.now c.requires.weights i c.requires.row w same
    (joint_row_action m p t i) o s in
    λ s ls.
    let sum = c.loop-seen.invariant r s c.next_of-to.ensures.next ls in
    let here = W s ∙ sym (part_here A m p t s i o r c.next_of-to.ensures.is) in
    subst (λ (x : Span). size x < 2 ^ 127) (sym (λ k. span_add (sum k) (here k)))
    (part_room A C m h p c.requires.sizes t early s ls r i o c.requires.row lo)

pub loop-seen-preserved : goal.loop-seen-preserved
loop-seen-preserved g c =
    let A = g.A.Arith.operations c.args.arith.now in
    let C = g.A.Arith.calls c.args.arith.now in
    let m = c.args.model.now.model in
    let p = c.args.policy.now.rows in
    let h = c.args.policy.now.horizon in
    let t = c.args.stage in
    let i = c.args.row in
    let early : c.args.stage < c.args.policy.now.horizon = omega (arith, c.requires.stage) in
    let w = c.weights_at-weights.result.now in
    let same = subst (λ (S : ℕ). (s : ℕ) → s < S → weights_of c.weights_at-weights.result.now s
    ≡ weight_in S c.args.now.now c.args.row s) c.states.ensures.is c.weights_at-weights.ensures.are in
    let o = c.loop-seen.seen in
    let r = c.next_of-to.result in
    let lo : c.loop-seen.seen < joint_observations c.args.model.now.model = omega
    (arith, c.joint_observations-seen-end.ensures.is, c.loop-seen-test.true) in
    let W : (s : ℕ) → weights_after_in A m (weights_of w) c.action_of-action.result o s
    ≡ weights_after_in A m (row_weight_in A m p t i) (joint_row_action m p t i) o s =
    λ s. ap (λ (a : ℕ). weights_after_in A m (weights_of w) a o s) c.action_of-action.ensures.is
    ∙ row_updated A C m h p c.requires.sizes t early c.args.now.now c.requires.weights i c.requires.row w same
    (joint_row_action m p t i) o s in
    λ j s lj ls.
    let G = span_sum i (row_gives A m p t j s) in
    let S = m.states in
    part_step A m p t j s i o r (weight_in S c.loop-seen.next j s) (weight_in S c.add_seen.new.next j s)
    (weights_after_in A m (weights_of w) c.action_of-action.result o s) c.next_of-to.ensures.is (W s)
    (λ e. subst (λ (k : ℕ). weight_in S c.add_seen.new.next k s
    ≡ span_add (weight_in S c.loop-seen.next k s) (weights_after_in A m (weights_of w)
    c.action_of-action.result o s)) e (c.add_seen.ensures.here s ls))
    (λ ne. c.add_seen.ensures.others j s ls ne)
    ∙ ap (λ (x : Span). span_add x (row_part A m p t j s i o)) (c.loop-seen.invariant j s lj ls)
    ∙ span_assoc G (span_sum o (row_part A m p t j s i)) (row_part A m p t j s i o)
    ∙ ap (λ (k : ℕ). span_add G (span_sum k (row_part A m p t j s i))) (sym (add-one o))

pub returns : goal.returns
returns g c =
    let A = g.A.Arith.operations c.args.arith.now in
    let m = c.args.model.now.model in
    let p = c.args.policy.now.rows in
    let t = c.args.stage in
    let i = c.args.row in
    let all : c.loop-seen.seen ≡ joint_observations c.args.model.now.model = omega
    (arith, c.joint_observations-seen-end.ensures.is, c.loop-seen-test.false) in
    λ j s lj ls. c.loop-seen.invariant j s lj ls
    ∙ ap (λ (k : ℕ). span_add (span_sum i (row_gives A m p t j s)) (span_sum k (row_part A m p t j s i))) all
    ∙ gives_all A m p t j s i
