use Rattle.std.specs.Prelude.{IsTrue}
use Rattle.std.proofs.Common.{◌≡◌, rules, sym, subst, ◌∙◌, arith}
use Rattle.dp_spec.specs.Model.{IsModel}
use Rattle.dp_model.specs.Tables.{AreNamesOf, NamedModel}
use Rattle.dp_writer.specs.MadeModel.{actions_made, observations_made}
use Rattle.dp_writer.specs.Writable.{is_writable}
use Rattle.dp_writer.proofs.MadeWritable.{made_writable}
use Rattle.dp_writer.proofs.MadeModels.{made_has_names, made_is_model, parts_are, some_product}
use Rattle.dp_writer.proofs.made.model_drawn.Goals as goal

pub cells_drawn-requires-clause-some_seen : goal.cells_drawn-requires-clause-some_seen
cells_drawn-requires-clause-some_seen g c =
    let some = some_product c.args.size.agents c.args.size.observations c.requires.size.some_observation in
    omega (arith, some, c.requires.joint.observations)

pub build-requires-clause-model : goal.build-requires-clause-model
build-requires-clause-model g c =
    let stream = g.R.Rng.stream c.args.rng.now in
    let actions : c.of.result ≡ actions_made c.args.size = search rules in
    let observations : c.of-2.result ≡ observations_made c.args.size = search rules in
    subst (λ (m : NamedModel). IsModel m.model)
    (sym (parts_are c.args.size c.args.joint stream c.of.result c.of-2.result c.scales_made.result
    c.in_ok-cells.cells c.in_ok-names.names c.requires.joint actions observations c.scales_made.ensures
    c.in_ok-cells.ensures c.in_ok-names.ensures))
    (made_is_model c.args.size c.args.joint stream c.requires.size c.requires.joint)

pub build-requires-clause-names : goal.build-requires-clause-names
build-requires-clause-names g c =
    let stream = g.R.Rng.stream c.args.rng.now in
    let actions : c.of.result ≡ actions_made c.args.size = search rules in
    let observations : c.of-2.result ≡ observations_made c.args.size = search rules in
    subst (λ (m : NamedModel). AreNamesOf m.model m.names)
    (sym (parts_are c.args.size c.args.joint stream c.of.result c.of-2.result c.scales_made.result
    c.in_ok-cells.cells c.in_ok-names.names c.requires.joint actions observations c.scales_made.ensures
    c.in_ok-cells.ensures c.in_ok-names.ensures))
    (made_has_names c.args.size c.args.joint stream c.requires.size c.requires.joint)

pub returns-clause-made : goal.returns-clause-made
returns-clause-made g c =
    let stream = g.R.Rng.stream c.args.rng.now in
    let actions : c.of.result ≡ actions_made c.args.size = search rules in
    let observations : c.of-2.result ≡ observations_made c.args.size = search rules in
    c.build.ensures
    ∙ parts_are c.args.size c.args.joint stream c.of.result c.of-2.result c.scales_made.result
    c.in_ok-cells.cells c.in_ok-names.names c.requires.joint actions observations c.scales_made.ensures
    c.in_ok-cells.ensures c.in_ok-names.ensures

pub returns-clause-writable : goal.returns-clause-writable
returns-clause-writable g c =
    let stream = g.R.Rng.stream c.args.rng.now in
    let actions : c.of.result ≡ actions_made c.args.size = search rules in
    let observations : c.of-2.result ≡ observations_made c.args.size = search rules in
    let made = c.build.ensures
    ∙ parts_are c.args.size c.args.joint stream c.of.result c.of-2.result c.scales_made.result
    c.in_ok-cells.cells c.in_ok-names.names c.requires.joint actions observations c.scales_made.ensures
    c.in_ok-cells.ensures c.in_ok-names.ensures in
    subst (λ (m : NamedModel). IsTrue (is_writable m.model)) (sym made)
    (made_writable c.args.size c.args.joint stream c.requires.joint)
