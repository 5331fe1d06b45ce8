use Rattle.std.proofs.Common.{sym, ◌∙◌}
use Rattle.std.proofs.lemmas.Result.{err_from_is_err_and}
use Rattle.dp_tables.proofs.LimitLemmas.{passed_size, passed_cells, passed_lines, passed_scales}
use Rattle.dp_tables.proofs.limits.bounds_of.Goals as goal

pub returns-in_err-sizes-clause-passed : goal.returns-in_err-sizes-clause-passed
returns-in_err-sizes-clause-passed c =
    let exit = err_from_is_err_and c.from_residual.result c.from_residual.ensures.1 in
    rw (exit.1, exit.2) (passed_size c.args.text.now _ c.in_err-sizes.ensures.passed)

pub returns-in_err-check_cells-clause-passed : goal.returns-in_err-check_cells-clause-passed
returns-in_err-check_cells-clause-passed c =
    let exit = err_from_is_err_and c.from_residual-in_err-check_cells.result
    c.from_residual-in_err-check_cells.ensures.1 in
    let sizes = c.in_ok-sizes.ensures in
    rw (exit.1, exit.2)
    (passed_cells c.args.text.now c.in_ok-sizes.sizes sizes.sizes sizes.passed _ c.in_err-check_cells.ensures)

pub returns-in_err-check_reward_lines-clause-passed : goal.returns-in_err-check_reward_lines-clause-passed
returns-in_err-check_reward_lines-clause-passed c =
    let exit = err_from_is_err_and c.from_residual-in_err-check_reward_lines.result
    c.from_residual-in_err-check_reward_lines.ensures.1 in
    let sizes = c.in_ok-sizes.ensures in
    let lines = sym c.in_err-check_reward_lines.ensures in
    rw (exit.1, exit.2)
    (passed_lines c.args.text.now c.in_ok-sizes.sizes sizes.sizes sizes.passed _ c.in_ok-check_cells.ensures lines)

pub returns-in_err-scales-clause-passed : goal.returns-in_err-scales-clause-passed
returns-in_err-scales-clause-passed c =
    let exit = err_from_is_err_and c.from_residual-in_err-scales.result c.from_residual-in_err-scales.ensures.1 in
    let sizes = c.in_ok-sizes.ensures in
    rw (exit.1, exit.2)
    (passed_scales c.args.text.now c.in_ok-sizes.sizes sizes.sizes sizes.passed c.in_ok-check_cells.ensures
    (sym c.in_ok-check_reward_lines.ensures) ∙ c.in_err-scales.ensures.passed)

pub returns-clause-passed : goal.returns-clause-passed
returns-clause-passed c =
    let sizes = c.in_ok-sizes.ensures in
    passed_scales c.args.text.now c.in_ok-sizes.sizes sizes.sizes sizes.passed c.in_ok-check_cells.ensures
    (sym c.in_ok-check_reward_lines.ensures) ∙ c.in_ok-scales.ensures.passed
