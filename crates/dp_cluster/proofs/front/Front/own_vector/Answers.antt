use Rattle.std.proofs.Common.{◌≡◌, ◌++◌, length, take, drop, sym, ap, ◌∙◌, arith}
use Rattle.std.proofs.Math.Seq.{take-append_seam}
use Rattle.dp_spec.specs.UnequalPlaces.{class_vector}
use Rattle.dp_cluster.proofs.MergeFaults.{assigned, none_of, none_unassigned}
use Rattle.dp_cluster.proofs.OwnPlaces.{few_at, total_at, vector_at}
use Rattle.dp_cluster.proofs.front.Front.own_vector.Goals as goal

pub returns-then-is_some : goal.returns-then-is_some
returns-then-is_some c = λ m is.
    assigned c.args.self.now.front.agents c.args.agent c.args.class c.action.result c.action.ensures
    (sym c.if-is_some.ensures)

pub total-requires-clause-room : goal.total-requires-clause-room
total-requires-clause-room c =
    let ps = c.requires.places in
    few_at c.requires.of_model.0 c.args.self.now c.requires.of_model.1 c.requires.exact c.requires.stage
    c.args.agent
    c.requires.agent c.args.class c.requires.class _ _ _ ps.rows ps.classes ps.width

pub returns-then-total-eq0 : goal.returns-then-total-eq0
returns-then-total-eq0 c = λ m is.
    let ps = c.requires.places in
    let none = sym c.action.ensures ∙ none_of c.action.result (sym c.if-is_some.ensures) in
    let total = total_at m c.args.self.now is c.requires.exact c.requires.stage c.args.agent
    c.requires.agent c.args.class c.requires.class _ _ _ ps.rows ps.classes ps.width in (
      none_unassigned c.args.self.now.front.agents c.args.agent c.args.class c.requires.agent
          c.requires.class none,
      sym total ∙ sym c.total.ensures ∙ c.if-total-eq0.true,
    )

pub primitive-requires : goal.primitive-requires
primitive-requires c =
    let m = c.requires.of_model.0 in
    let ps = c.requires.places in (
      class_vector m c.args.self.now.front c.args.agent c.args.class,
      c.deref_mut.ensures.value ∙ c.in_ok-weights.ensures
          ∙ vector_at m c.args.self.now c.requires.of_model.1 c.requires.exact c.requires.stage c.args.agent
          c.requires.agent c.args.class c.requires.class _ _ _ ps.rows ps.classes ps.width,
    )

pub returns : goal.returns
returns c = λ m is.
    let ps = c.requires.places in
    let none = sym c.action.ensures ∙ none_of c.action.result (sym c.if-is_some.ensures) in
    let total = total_at m c.args.self.now is c.requires.exact c.requires.stage c.args.agent
    c.requires.agent c.args.class c.requires.class _ _ _ ps.rows ps.classes ps.width in
    let some = c.if-total-eq0.false in
    let vector = c.deref_mut.ensures.value ∙ c.in_ok-weights.ensures
    ∙ vector_at m c.args.self.now is c.requires.exact c.requires.stage c.args.agent
    c.requires.agent c.args.class c.requires.class _ _ _ ps.rows ps.classes ps.width in
    let all = c.primitive.new.values in
    let size : c.in_ok-weights.weights.len ≡ length all = omega
    (arith, c.in_ok-weights.weights.ok.0, c.primitive.auto.values, c.deref_mut.ensures.len) in
    let made = c.primitive.ensures (class_vector m c.args.self.now.front c.args.agent c.args.class) vector in (
      none_unassigned c.args.self.now.front.agents c.args.agent c.args.class c.requires.agent
          c.requires.class none,
      omega (arith, total, c.total.ensures, some),
      (
        made.0,
        made.1,
        ap (λ n. take n (all ++ drop (length all) c.in_ok-weights.weights.items)) size
            ∙ take-append_seam all _ ∙ made.2,
      ),
    )
