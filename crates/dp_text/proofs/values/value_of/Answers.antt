use Rattle.std.proofs.Common.{◌≡◌, ◌-◌, ◌∙◌, length, drop, arith, length-drop}
use Rattle.std.specs.Prelude.{◌&&◌, codes}
use Rattle.dp_meaning.specs.NameLists.{says}
use Rattle.dp_meaning.specs.Fields.{Axis}
use Rattle.dp_meaning.specs.Statements.{axes_of, allows_uniform, allows_identity}
use Rattle.dp_text.proofs.ReadingLemmas.{reads_same}
use Rattle.dp_text.proofs.ValueLemmas.{no_value, uniform_value, identity_value, numbers_value, uniform_test}
use Rattle.dp_text.proofs.ValueLemmas.{identity_test}
use Rattle.dp_text.proofs.values.value_of.Goals as goal
use Rattle.dp_text.proofs.values.value_of.Goals.{After-is_uniform, After-is_identity}

pub returns-in-None : goal.returns-in-None
returns-in-None c = rw c.fault.ensures (no_value c.args.table _ c.args.next c.args.pieces.now c.in-None.ensures)

-- how many axes are left
left : (c : After-is_uniform)
    → c.axis_count.result - c.args.fields ≡ length (drop c.args.fields (axes_of c.args.header.now c.args.table))
left c = let count = c.axis_count.ensures.is c.args.header.now in omega (arith, length-drop {A = Axis})

uniform : (c : After-is_uniform)
    → (allows_uniform c.args.table (drop c.args.fields (axes_of c.args.header.now c.args.table)) && says
    (codes "uniform") c.in-Some.parts.0)
    ≡ c.is_uniform.result
uniform c = uniform_test c.args.table _ _ _ _ (left c) c.is_uniform.ensures

identity : (c : After-is_identity)
    → (allows_identity c.args.table (drop c.args.fields (axes_of c.args.header.now c.args.table)) && says
    (codes "identity") c.in-Some.parts.0)
    ≡ c.is_identity.result
identity c = identity_test c.args.table _ _ _ _ (left (goal.at.After-is_identity c).After-is_uniform)
    c.is_identity.ensures

pub returns-then-is_uniform : goal.returns-then-is_uniform
returns-then-is_uniform c =
    let u = uniform (goal.at.returns-then-is_uniform c).After-is_uniform in
    reads_same c.alone.result
    (uniform_value c.args.table _ c.args.next c.args.pieces.now c.in-Some.parts.0 c.in-Some.parts.1 c.in-Some.ensures
    (u ∙ c.if-is_uniform.true)) c.alone.ensures

pub returns-then-is_identity : goal.returns-then-is_identity
returns-then-is_identity c =
    let u = uniform (goal.at.returns-then-is_identity c).After-is_uniform in
    let i = identity (goal.at.returns-then-is_identity c).After-is_identity in
    reads_same c.alone-then-is_identity.result
    (identity_value c.args.table _ c.args.next c.args.pieces.now c.in-Some.parts.0 c.in-Some.parts.1 c.in-Some.ensures
    (u ∙ c.if-is_uniform.false) (i ∙ c.if-is_identity.true))
    c.alone-then-is_identity.ensures

pub returns : goal.returns
returns c =
    let u = uniform (goal.at.returns c).After-is_uniform in
    let i = identity (goal.at.returns c).After-is_identity in
    reads_same c.given.result
    (numbers_value c.args.table _ c.args.next c.args.pieces.now c.in-Some.parts.0 c.in-Some.parts.1 c.in-Some.ensures
    (u ∙ c.if-is_uniform.false) (i ∙ c.if-is_identity.false))
    (rw (← c.len.ensures.is, ← c.sizes_from-count.ensures) c.given.ensures)
