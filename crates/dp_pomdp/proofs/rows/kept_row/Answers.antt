use Rattle.std.proofs.Common.{◌-◌, ◌++◌, ℤ, List, ap, ◌∙◌}
use Rattle.dp_spec.specs.Arithmetic.{arithmetic}
use Rattle.dp_pomdp.specs.Memos.{row_of}
use Rattle.dp_pomdp.proofs.rows.kept_row.Goals as goal

pub returns-clause-rows : goal.returns-clause-rows
returns-clause-rows c =
    let fit = c.args.fit in
    let m = c.args.model.now.model in
    let A = arithmetic fit.exact m.scales in
    let made = row_of A m (fit.horizon - c.args.t) c.args.look c.args.weights.now in
    c.keep.ensures (row_of A m) c.requires.rows
    (c.deref.ensures.value ∙ c.in_ok-row_in_mode.ensures.is ∙ ap (λ (l : List ℤ). l ++ made) c.clear.ensures.items)
