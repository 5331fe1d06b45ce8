use Rattle.std.proofs.Common.{ap, get_or, ◌∙◌}
use Rattle.dp_spec.specs.Model.{start_at}
use Rattle.dp_model.proofs.model.Model.start.Goals as goal

pub returns : goal.returns
unfolding start_at
returns c = ap (λ l. get_or l c.args.s 0) c.as_slice.ensures ∙ ap (λ n. start_at n.model c.args.s) c.self.view_is
