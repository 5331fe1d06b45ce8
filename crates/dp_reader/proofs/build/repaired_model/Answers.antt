use Rattle.std.proofs.lemmas.Result.{err_from_is_err_and}
use Rattle.dp_reader.proofs.ReadingLemmas.{can_build, row_fault, rows_built}
use Rattle.dp_reader.proofs.build.repaired_model.Goals as goal

pub returns-in_err-rows : goal.returns-in_err-rows
returns-in_err-rows c =
    let exit = err_from_is_err_and c.from_residual.result c.from_residual.ensures.1 in
    rw (exit.1, exit.2)
    (row_fault c.args.bytes.now c.args.text.text c.args.text.end c.requires.says c.invariant.ensures.within
    c.requires.end _ c.in_err-rows.ensures)

pub build-requires-clause-names : goal.build-requires-clause-names
build-requires-clause-names c =
    (can_build c.args.bytes.now c.args.text.text c.args.text.end c.in_ok-rows.rows c.requires.says
    c.invariant.ensures.within c.requires.end c.in_ok-rows.ensures).names

pub build-requires-clause-model : goal.build-requires-clause-model
build-requires-clause-model c =
    (can_build c.args.bytes.now c.args.text.text c.args.text.end c.in_ok-rows.rows c.requires.says
    c.invariant.ensures.within c.requires.end c.in_ok-rows.ensures).model

pub build-requires-clause-named : goal.build-requires-clause-named
build-requires-clause-named c =
    (can_build c.args.bytes.now c.args.text.text c.args.text.end c.in_ok-rows.rows c.requires.says
    c.invariant.ensures.within c.requires.end c.in_ok-rows.ensures).named

pub returns : goal.returns
returns c =
    rows_built c.args.bytes.now c.args.text.text c.args.text.end c.in_ok-rows.rows c.in_ok-model.model c.requires.says
    c.invariant.ensures.within c.requires.end c.in_ok-rows.ensures c.in_ok-model.ensures
